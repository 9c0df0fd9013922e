-- What the rounds of an iteration read.
use Rattle.std.specs.Prelude.{ℕ, ◌+◌, ◌*◌, Bool, ◌&&◌, slice_get, Option, Some, None}
use Rattle.rr_space.specs.Graph.{Value}
use Rattle.rr_space.specs.Tables.{Table, Below, HashKey}
use Rattle.rr_space.specs.Parts.{value_of, IsWithin}
use Rattle.rr_space.specs.Views.{can_freeze_at}
use Rattle.rr_space.specs.Kinds.{kind_at}
use Rattle.rr_space.specs.declared.kind.Kind.{Kind}
use Rattle.rr_space.specs.declared.kind.Kind.TheVariants as kind
use Rattle.rr_space.specs.declared.refer.Ref.{Ref}
use Rattle.rr_text.specs.Keys.{pair_with}
use Rattle.rr_builtin.specs.declared.rounds.Round.{Round}
use Rattle.rr_builtin.specs.declared.rounds.Round.TheVariants as round
use Rattle.rr_builtin.specs.Acts.{IsRefAmong}
use Rattle.rr_builtin.specs.Elements.{elements_of}
use Rattle.rr_builtin.specs.Hashes.{key_given}
use Rattle.rr_builtin.specs.Kinds.{is_hash}

-- what a round reads
pub data Read : Type 0 where
  Reads : (value : Value) → Read
  -- nothing is there
  ReadsNone : Read
  -- the receiver was moved away
  IsMoved : Read

abbrev pub read_of : Round → Read
read_of (round.Item r) = Reads (value_of r)
read_of round.Absent = ReadsNone
read_of round.Moved = IsMoved

abbrev pub found : Option Value → Read
found (Some x) = Reads x
found None = ReadsNone

-- the k-th of the values that an object leads to, if there are so many
abbrev pub element_found : Table → Ref → ℕ → Option Value
element_found t v k = slice_get (elements_of t v) k

abbrev pub item_read : Kind → Option Value → Read
item_read kind.Shell x = IsMoved
item_read kind.Array x = found x
item_read _ x = ReadsNone

-- the element at a place of an array as it is now
abbrev pub item_at : Table → Ref → ℕ → Read
item_at t v k = item_read (kind_at t v) (element_found t v k)

-- the value of a pair, if there is one
abbrev pub value_found : Table → Ref → Option ℕ → Option Value
value_found t v (Some i) = element_found t v (2 * i + 1)
value_found t v None = None

-- the value that a hash has under a key
abbrev pub value_under : Below → Table → Ref → Option HashKey → Option Value
value_under below t v (Some key) = value_found t v (pair_with below t v key)
value_under below t v None = None

abbrev pub pair_read : Kind → Option Value → Read
pair_read kind.Shell x = IsMoved
pair_read kind.Hash x = found x
pair_read _ x = ReadsNone

-- the value that a hash has now under a key
abbrev pub pair_at : Below → Table → Ref → Ref → Read
pair_at below t v key = pair_read (kind_at t v) (value_under below t v (key_given t key))

-- whether it is a hash of the space itself, and none that was published
abbrev pub is_own_hash : Table → Ref → Bool
is_own_hash t v = can_freeze_at t v && is_hash (kind_at t v)

abbrev pub IsRoundWithin : ℕ → Round → Type 0
IsRoundWithin k (round.Item r) = IsWithin k r
IsRoundWithin k round.Absent = Unit {0}
IsRoundWithin k round.Moved = Unit {0}

abbrev pub IsRoundAmong : Below → Round → Type 0
IsRoundAmong below (round.Item r) = IsRefAmong below r
IsRoundAmong below round.Absent = Unit {0}
IsRoundAmong below round.Moved = Unit {0}
