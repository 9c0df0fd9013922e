-- What a hand has, and which steps it allows.
use Rattle.std.specs.Prelude.{◌≡◌, ℕ, Option, Some, None}
use Rattle.rr_space.specs.Tables.{Packed}
use Rattle.rr_move.specs.Homes.{IsHomeOf}
use Rattle.rr_move.specs.declared.home.Home.{Home}
use Rattle.rr_move.specs.declared.hand.Hand.{Hand}
use Rattle.rr_move.specs.declared.hand.Hand.TheVariants.{Empty, Planned, Published, Message, Moved, Shown}

-- the message in a hand: its objects are the hand's. To offer, show or open a message there has to be one
abbrev pub message_in : Hand → Option Packed
message_in Empty = None
message_in (Planned plan) = None
message_in (Published places published) = None
message_in (Message m) = Some m
message_in (Moved d) = Some d.message
message_in (Shown home ticket) = None

-- the home in a hand: that of its message, or that of a message which is shown
abbrev pub home_in : Hand → Option Home
home_in Empty = None
home_in (Planned plan) = None
home_in (Published places published) = None
home_in (Message m) = None
home_in (Moved d) = Some d.home
home_in (Shown home ticket) = Some home

-- the hand of a ractor whose message is shown under the ticket: with the message's home, or empty
abbrev pub hand_of_home : Option Home → ℕ → Hand
hand_of_home None ticket = Empty
hand_of_home (Some home) ticket = Shown home ticket

-- a published plan is to be promoted
abbrev pub HasPublished : Hand → Type 0
HasPublished Empty = ⊥
HasPublished (Planned plan) = ⊥
HasPublished (Published places published) = Unit {0}
HasPublished (Message m) = ⊥
HasPublished (Moved d) = ⊥
HasPublished (Shown home ticket) = ⊥

-- a plan or a message may be dropped
abbrev pub MayDrop : Hand → Type 0
MayDrop Empty = ⊥
MayDrop (Planned plan) = Unit {0}
MayDrop (Published places published) = ⊥
MayDrop (Message m) = Unit {0}
MayDrop (Moved d) = Unit {0}
MayDrop (Shown home ticket) = ⊥

-- what is shown under the ticket may be withdrawn by an empty hand, or by the one that has its home
abbrev pub MayWithdraw : Hand → ℕ → Type 0
MayWithdraw Empty ticket = Unit {0}
MayWithdraw (Planned plan) ticket = ⊥
MayWithdraw (Published places published) ticket = ⊥
MayWithdraw (Message m) ticket = ⊥
MayWithdraw (Moved d) ticket = ⊥
MayWithdraw (Shown home shown) ticket = shown ≡ ticket

-- and if the message is that of the home, it comes back
abbrev pub MayTakeBack : Hand → ℕ → Packed → Type 0
MayTakeBack Empty ticket m = Unit {0}
MayTakeBack (Planned plan) ticket m = ⊥
MayTakeBack (Published places published) ticket m = ⊥
MayTakeBack (Message n) ticket m = ⊥
MayTakeBack (Moved d) ticket m = ⊥
MayTakeBack (Shown home shown) ticket m = (shown ≡ ticket) × IsHomeOf home m
