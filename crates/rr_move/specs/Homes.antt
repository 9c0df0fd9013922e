-- A message and its home.
use Rattle.std.specs.Prelude.{◌≡◌, length}
use Rattle.rr_space.specs.Tables.{Packed}
use Rattle.rr_move.specs.declared.home.Home.{Home}

-- the message has the sender, the sequence number and the size of the home
pub record IsHomeOf (h : Home) (m : Packed) : Type 0 where
  pub sender : m.sender ≡ h.sender.0
  pub sequence : m.sequence ≡ h.sequence
  pub size : length m.objects ≡ length h.slots
