-- Which steps are enabled.
use Rattle.std.specs.Prelude.{◌≡◌, true, ℕ, ◌+◌, ◌*◌, ◌<◌, ◌⊎◌, false, List, length, Contains, Option, Some, None, IsSome, slice_get}
use Rattle.rr_base.specs.declared.name.RactorNo.{RactorNo as Number}
use Rattle.rr_space.specs.Graph.{Kind, Object, text, array, hash, plain, exception, shell, Own, Published, Value, Plain, At, Nil, Truth, Integer, SymbolNo, ClassNo, RactorNo, Reaches, IsShareable}
use Rattle.rr_space.specs.Tables.{HashKey, PlainKey}
use Rattle.rr_space.specs.Lookups.{key_of_frozen}
use Rattle.rr_space.specs.Readings.{Space, Owned, Objects, IsShared, whole}
use Rattle.rr_share.specs.Search.{LeadsToShell}
use Rattle.rr_world.specs.States.{Parcel, Mailbox, Showcase, Actor, State}
use Rattle.rr_world.specs.declared.step.Action.{Action}
use Rattle.rr_space.specs.Labels.{label_of}
use Rattle.rr_world.specs.declared.step.Action.TheVariants.{Alloc, Pack, Plan, Publish, Promote, Discard, Offer, Accept, Open, Close, ClosePort, ShowLast, Show, Withdraw, Settle, Grab, Freeze, Append, Clear, Push, Write, Take, SetField, SetRaised, SetPair, DeletePair, Read, Start, End, Detach, PutBack, SetConst, SetOwn, GetConst}
use Rattle.rr_world.specs.declared.step.Operand.{Operand}
use Rattle.rr_world.specs.declared.step.Operand.TheVariants as operand
use Rattle.rr_world.specs.declared.step.Step.{Step}

-- a ractor, or its inbox, has the place before its number
abbrev pub StandsAt : Number → ℕ → Type 0
StandsAt who k = who.0 ≡ k + 1

-- there is such an inbox
abbrev pub HasInbox : State → Number → Type 0
HasInbox s to = (c : ℕ) × (b : Mailbox) × StandsAt to c × (slice_get s.post.inboxes c ≡ Some b)

-- there is such a port
abbrev pub HasPort : State → Number → Type 0
HasPort s to = (c : ℕ) × (b : Showcase) × StandsAt to c × (slice_get s.post.ports c ≡ Some b)

-- its own port has been given no last value or fault
abbrev pub MayLeave : State → Number → Type 0
MayLeave s who = (c : ℕ) × (b : Showcase) × StandsAt who c × (slice_get s.post.ports c ≡ Some b) × (b.given ≡ false)

-- nothing is shown in its own port
abbrev pub MayShow : State → Number → Type 0
MayShow s who = (c : ℕ) × (b : Showcase) × StandsAt who c × (slice_get s.post.ports c ≡ Some b) × (b.shown ≡ None)

-- a message is in the hand
abbrev pub Holds : Actor → Type 0
Holds a = (p : Parcel) × (a.hand ≡ Some p)

-- a plan is in the hand
abbrev pub HoldsPlan : Actor → Type 0
HoldsPlan a = (ns : List ℕ) × (a.plan ≡ Some ns)

-- a published plan is in the hand
abbrev pub HoldsPublished : Actor → Type 0
HoldsPublished a = (ns : List ℕ) × (a.published ≡ Some ns)

-- nothing is in the hand
abbrev pub IsFreeHand : Actor → Type 0
IsFreeHand a = (a.hand ≡ None) × (a.home ≡ None) × (a.ticket ≡ None) × (a.plan ≡ None) × (a.published ≡ None)

-- a constant is set with a hand that has no published plan
abbrev pub MaySet : Actor → Type 0
MaySet a = a.published ≡ None

-- nothing is in the hand, or nothing but the home of the message that was shown under the ticket
abbrev pub MayTakeBack : Actor → ℕ → Type 0
MayTakeBack a ticket = IsFreeHand a ⊎ ((a.hand ≡ None) × (a.ticket ≡ Some ticket))

-- a message is in the hand with its home, the shells that it left
abbrev pub HoldsMoved : Actor → Type 0
HoldsMoved a = (p : Parcel) × (home : List ℕ) × (a.hand ≡ Some p) × (a.home ≡ Some home)

-- the value that an operand is, where the roots are these
abbrev pub named_value : List Value → Operand → Option Value
named_value roots operand.Nil = Some (Plain Nil)
named_value roots (operand.Truth b) = Some (Plain (Truth b))
named_value roots (operand.Int z) = Some (Plain (Integer z))
named_value roots (operand.Symbol s) = Some (Plain (SymbolNo s.0))
named_value roots (operand.Class c) = Some (Plain (ClassNo c.0))
named_value roots (operand.Ractor r) = Some (Plain (RactorNo r.0))
named_value roots (operand.Root n) = slice_get roots n

-- the operand is an object of the ractor at k, under the name n
pub record IsOwn (s : State) (k : ℕ) (a : Actor) (op : Operand) (n : ℕ) (o : Object) : Type 0 where
  pub named : named_value a.roots op ≡ Some (At (Own n))
  pub here : s.objects n ≡ Some (record { owner = Space k; object = o })

-- it is an object of the ractor's own that a change may be made of
abbrev pub MayChange : State → Number → Actor → Operand → (Object → Type 0) → Type 0
MayChange s who a op may = (k : ℕ) × (n : ℕ) × (o : Object) × StandsAt who k × IsOwn s k a op n o × may o

-- an object is no shell; it is of a kind and not frozen; it is such an array with an element at a place
abbrev pub IsNoShell : Object → Type 0
IsNoShell o = o.kind ≡ shell → ⊥

abbrev pub IsOpen : Kind → Object → Type 0
IsOpen kind o = (o.kind ≡ kind) × (o.frozen ≡ false)

-- an object is one with fields, a plain one or an exception, that is not frozen
abbrev pub HasFields : Object → Type 0
HasFields o = IsOpen plain o ⊎ IsOpen exception o

abbrev pub HasElement : ℕ → Object → Type 0
HasElement i o = IsOpen array o × (i < length o.triples)

-- an object is a hash that is not frozen, with a pair at a place; it is such a hash with so many pairs
abbrev pub HasPair : ℕ → Object → Type 0
HasPair i o = IsOpen hash o × (2 * i + 1 < length o.triples)

abbrev pub HasPairs : ℕ → Object → Type 0
HasPairs n o = IsOpen hash o × (length o.triples ≡ 2 * n)

abbrev pub IsValue : Actor → Operand → Type 0
IsValue a op = (x : Value) × (named_value a.roots op ≡ Some x)

-- the key of a hash that a value is: an immediate, or the bytes of the frozen text that it names
abbrev pub owned_key : Option Owned → Option HashKey
owned_key (Some y) = key_of_frozen (Some y.object)
owned_key None = None

abbrev pub key_in : Objects → Value → Option HashKey
key_in g (Plain i) = Some (PlainKey i)
key_in g (At (Own n)) = owned_key (g n)
key_in g (At (Published c p)) = None

-- the operand is a value that can be a key
abbrev pub IsKeyValue : State → Actor → Operand → Type 0
IsKeyValue s a op = (x : Value) × (named_value a.roots op ≡ Some x) × IsSome (key_in s.objects x)

-- the value is an immediate or Shared
abbrev pub IsPublicValue : Objects → Value → Type 0
IsPublicValue g (Plain i) = Unit {0}
IsPublicValue g (At (Own n)) = (y : Owned) × (g n ≡ Some y) × IsShared y.owner
IsPublicValue g (At (Published c p)) = ⊥

-- each shareable object that the value leads to is Shared
abbrev pub AreShareablesShared : Objects → Value → Type 0
AreShareablesShared g x = (n : ℕ) (y : Owned) → Reaches (whole g) x (Own n) → g n ≡ Some y → IsShareable (whole g) (At (Own n)) → IsShared y.owner

-- the value leads to a shell; or all that is shareable of it is Shared
abbrev pub MayBePacked : State → Actor → Operand → Type 0
MayBePacked s a op = (x : Value) → named_value a.roots op ≡ Some x → LeadsToShell (whole s.objects) x ⊎ AreShareablesShared s.objects x

-- what a pack or a detach has to find out about its value; where it leads to a shell, the step is refused
abbrev pub IsTested : State → Actor → Action → Type 0
IsTested s a (Pack op) = MayBePacked s a op
IsTested s a (Detach op) = MayBePacked s a op
IsTested s a _ = Unit {0}

-- pack, detach and plan need an empty hand and a value; publish needs a plan in the hand, and promote a published one; discard needs a
-- message or a plan in the hand, offer and open a message, put back one with its home, and accept an empty hand; show needs a message in the hand and nothing in the ractor's own port, and withdraw an empty hand
-- or the home of what was shown; channels that are named are there; freeze needs an object of its own that is no shell, append, clear, push, write, take, delete a pair and the settings one of a kind that is not
-- frozen, set a pair a key besides, and read an object that has the label
abbrev pub Allows : State → Number → Actor → Action → Type 0
Allows s who a (Alloc new) = Unit {0}
Allows s who a (Pack op) = IsFreeHand a × IsValue a op
Allows s who a (Detach op) = IsFreeHand a × IsValue a op
Allows s who a PutBack = HoldsMoved a
Allows s who a (Plan op) = IsFreeHand a × IsValue a op
Allows s who a Publish = HoldsPlan a
Allows s who a Promote = HoldsPublished a
Allows s who a Discard = Holds a ⊎ HoldsPlan a
Allows s who a (Offer to) = Holds a × HasInbox s to
Allows s who a Accept = IsFreeHand a × HasInbox s who
Allows s who a Open = Holds a
Allows s who a (Close to) = HasInbox s to
Allows s who a (ClosePort to) = HasPort s to
Allows s who a (ShowLast kind) = Holds a × MayLeave s who
Allows s who a Show = Holds a × MayShow s who
Allows s who a (Withdraw ticket) = MayTakeBack a ticket × HasPort s who
Allows s who a (Settle ticket) = HasPort s who
Allows s who a (Grab to) = IsFreeHand a × HasPort s to
Allows s who a (Freeze op) = MayChange s who a op IsNoShell
Allows s who a (Append op byte) = MayChange s who a op (IsOpen text)
Allows s who a (Clear op) = MayChange s who a op (IsOpen text)
Allows s who a (Push op x) = MayChange s who a op (IsOpen array) × IsValue a x
Allows s who a (Write op i x) = MayChange s who a op (HasElement i) × IsValue a x
Allows s who a (Take op i) = MayChange s who a op (HasElement i)
Allows s who a (SetField op name x) = MayChange s who a op HasFields × IsValue a x
Allows s who a (SetRaised op part x) = MayChange s who a op (IsOpen exception) × IsValue a x
Allows s who a (SetPair op key x) = MayChange s who a op (IsOpen hash) × IsKeyValue s a key × IsValue a x
Allows s who a (DeletePair op i) = MayChange s who a op (HasPair i)
Allows s who a Start = Unit {0}
Allows s who a End = Unit {0}
Allows s who a (SetConst name op) = MaySet a × (x : Value) × (named_value a.roots op ≡ Some x) × IsPublicValue s.objects x
Allows s who a (SetOwn name) = MaySet a
Allows s who a (GetConst name) = Unit {0}
Allows s who a (Read op l) = (n : ℕ) × (y : Owned) × (x : Value) × (named_value a.roots op ≡ Some (At (Own n))) × (s.objects n ≡ Some y) × Contains y.object.triples (label_of l, x)

-- a ractor of this number has started, and not ended
abbrev pub IsRunning : State → Number → Type 0
IsRunning s who = (k : ℕ) × (a : Actor) × StandsAt who k × (slice_get s.ractors k ≡ Some a) × (a.runs ≡ true)

-- the ractor may do this now, if it runs
abbrev pub IsPossible : State → Step → Type 0
IsPossible s step = (k : ℕ) × (a : Actor) × StandsAt step.who k × (slice_get s.ractors k ≡ Some a) × Allows s step.who a step.action × IsTested s a step.action

-- the ractor runs, and may do this now
abbrev pub IsEnabled : State → Step → Type 0
IsEnabled s step = IsRunning s step.who × IsPossible s step
