-- The cases of the graph machine that change objects, and those in which a ractor starts or ends.
use Rattle.std.specs.Prelude.{◌≡◌, ℕ, ◌+◌, ◌*◌, ◌<◌, ◌≤◌, ◌⊎◌, true, false, Bool, if◌then◌else◌, nat_eq, List, [], ◌∷◌, ◌++◌, length, Some, None, slice_get, slice_set, map, remove}
use Rattle.rr_base.specs.declared.name.RactorNo.{RactorNo as Number}
use Rattle.rr_base.specs.declared.fault.Fault.{Fault}
use Rattle.rr_base.specs.declared.fault.Fault.TheVariants as fault
use Rattle.rr_base.specs.declared.limits.Limits.{Limits}
use Rattle.rr_base.specs.declared.limits.LimitKind.TheVariants as kind
use Rattle.rr_space.specs.Graph.{Object, text, array, hash, plain, exception, Label, Place, Field, KeyAt, ValueAt, Message, Cause, Ractor, Own, Value, Plain, At, Nil}
use Rattle.rr_space.specs.Readings.{Owner, Space, Hand, Owned, Objects}
use Rattle.rr_space.specs.Tables.{HashKey}
use Rattle.rr_space.specs.Steps.{IsChange}
use Rattle.rr_world.specs.States.{Mailbox, Showcase, Actor, State, IsSame}
use Rattle.rr_space.specs.Labels.{IsFirstUnder, raised_place}
use Rattle.rr_base.specs.declared.name.TheConstants.ClassId.{ARRAY, HASH, STRING}
use Rattle.rr_world.specs.declared.step.NewObject.{NewObject}
use Rattle.rr_world.specs.declared.step.NewObject.TheVariants as new
use Rattle.rr_world.specs.declared.step.Operand.{Operand}
use Rattle.rr_world.specs.Enabling.{StandsAt, named_value, IsOwn, IsOpen, HasPairs, key_in}
use Rattle.rr_space.specs.Views.{placed_from, paired_from}
use Rattle.rr_world.specs.declared.step.RaisedPart.{RaisedPart}
use Rattle.rr_world.specs.declared.step.RaisedPart.TheVariants as part

-- a new object: not frozen, without bytes and values, but that the message, the cause and the ractor of an exception are nil
abbrev pub new_object : NewObject → Object
new_object new.Text = record { kind = text; class = STRING.0; bytes = []; frozen = false; triples = [] }
new_object new.Array = record { kind = array; class = ARRAY.0; bytes = []; frozen = false; triples = [] }
new_object new.Hash = record { kind = hash; class = HASH.0; bytes = []; frozen = false; triples = [] }
new_object (new.Object c) = record { kind = plain; class = c.0; bytes = []; frozen = false; triples = [] }
new_object (new.Exception c) = record { kind = exception; class = c.0; bytes = []; frozen = false; triples = (Message, Plain Nil) ∷ (Cause, Plain Nil) ∷ (Ractor, Plain Nil) ∷ [] }

-- alloc, a change by the ractor: the space was not full; one new object comes, last in the roots, and nothing else changes
pub record IsAllocated (k : ℕ) (a : Actor) (new : NewObject) (s t : State) : Type 0 where
  pub room : a.slots < a.limit
  pub name : ℕ
  pub fresh : s.objects name ≡ None
  pub here : t.objects name ≡ Some (record { owner = Space k; object = new_object new })
  pub others : (n : ℕ) → (n ≡ name → ⊥) → t.objects n ≡ s.objects n
  pub objects : IsChange k a.roots s.objects t.objects
  pub ractors : t.ractors ≡ slice_set s.ractors k (record a { roots = a.roots ++ At (Own name) ∷ []; slots = a.slots + 1 })
  pub post : t.post ≡ s.post

-- a refused alloc: a growth was refused, or the space is full; all is as it was
abbrev pub IsAllocRefused : Actor → Fault → State → State → Type 0
IsAllocRefused a f s t = ((f ≡ fault.Memory) ⊎ ((f ≡ fault.Limit kind.Slots) × (a.slots ≡ a.limit))) × IsSame s t

-- freeze, append, clear, push, write, take, set a field, set a part of an exception, set and delete a pair, changes by the ractor: its object under the name n, which was o, is p, and nothing else changes
pub record IsChangedTo (k : ℕ) (a : Actor) (n : ℕ) (o p : Object) (s t : State) : Type 0 where
  pub was : s.objects n ≡ Some (record { owner = Space k; object = o })
  pub now : t.objects n ≡ Some (record { owner = Space k; object = p })
  pub others : (m : ℕ) → (m ≡ n → ⊥) → t.objects m ≡ s.objects m
  pub objects : IsChange k a.roots s.objects t.objects
  pub ractors : t.ractors ≡ s.ractors
  pub post : t.post ≡ s.post

abbrev pub frozen : Object → Object
frozen o = record o { frozen = true }

abbrev pub appended : ℕ → Object → Object
appended byte o = record o { bytes = o.bytes ++ byte ∷ [] }

abbrev pub cleared : Object → Object
cleared o = record o { bytes = [] }

abbrev pub pushed : Value → Object → Object
pushed x o = record o { triples = o.triples ++ (Place (length o.triples), x) ∷ [] }

abbrev pub written : ℕ → Value → Object → Object
written i x o = record o { triples = slice_set o.triples i (Place i, x) }

abbrev pub value_under : Label × Value → Value
value_under t = t.1

-- an array without the element at the place; those behind it close up
abbrev pub without : ℕ → Object → Object
without i o = record o { triples = placed_from 0 (remove (map value_under o.triples) i) }

-- a value in the place of that of a pair of a hash
abbrev pub with_value : ℕ → Value → Object → Object
with_value i x o = record o { triples = slice_set o.triples (2 * i + 1) (ValueAt i, x) }

-- a key and a value behind the n pairs of a hash
abbrev pub with_pair : ℕ → Value → Value → Object → Object
with_pair n key x o = record o { triples = o.triples ++ (KeyAt n, key) ∷ (ValueAt n, x) ∷ [] }

-- what stands in turn as keys and values, in pairs
abbrev pub pairs_of : List (Label × Value) → List (Value × Value)
pairs_of [] = []
pairs_of (k ∷ []) = []
pairs_of (k ∷ v ∷ ts) = (k.1, v.1) ∷ pairs_of ts

-- a hash without the pair at the place; those behind it close up
abbrev pub without_pair : ℕ → Object → Object
without_pair i o = record o { triples = paired_from 0 (remove (pairs_of o.triples) i) }

abbrev pub part_label : RaisedPart → Label
part_label part.Message = Message
part_label part.Cause = Cause
part_label part.Ractor = Ractor

-- a value in the place of a part of an exception
abbrev pub with_part : RaisedPart → Value → Object → Object
with_part p x o = record o { triples = slice_set o.triples (raised_place (part_label p)) (part_label p, x) }

-- the label is the field of this name
abbrev pub is_field : ℕ → Label → Bool
is_field x (Field y) = nat_eq x y
is_field x (Place k) = false
is_field x (KeyAt k) = false
is_field x (ValueAt k) = false
is_field x Message = false
is_field x Cause = false
is_field x Ractor = false

-- a value in the place of the first that is in the field, or behind all
abbrev pub set_in : ℕ → Value → List (Label × Value) → List (Label × Value)
set_in x v [] = (Field x, v) ∷ []
set_in x v (t ∷ ts) = if is_field x t.0 then (Field x, v) ∷ ts else t ∷ set_in x v ts

abbrev pub with_field : ℕ → Value → Object → Object
with_field x v o = record o { triples = set_in x v o.triples }

-- the ractor's own object that the operand is, where it may be changed, is what the change makes of it
abbrev pub IsMade : ℕ → Actor → Operand → (Object → Type 0) → (Object → Object) → State → State → Type 0
IsMade k a op may change s t = (n : ℕ) × (o : Object) × IsOwn s k a op n o × may o × IsChangedTo k a n o (change o) s t

-- two values are one key of a hash: one immediate, or frozen texts of the same bytes
abbrev pub AreOneKey : Objects → Value → Value → Type 0
AreOneKey g x y = (key : HashKey) × (key_in g x ≡ Some key) × (key_in g y ≡ Some key)

-- the key object of the pair at the place is the key
abbrev pub HasKeyAt : Objects → Value → ℕ → Object → Type 0
HasKeyAt g key i o = (p : Value × Value) × (slice_get (pairs_of o.triples) i ≡ Some p) × AreOneKey g p.0 key

-- the pair at the place, and no other, of a hash that is not frozen has the key; no pair of such a hash, which has n, has it
abbrev pub IsPairOfKey : Objects → Value → ℕ → Object → Type 0
IsPairOfKey g key i o = IsOpen hash o × HasKeyAt g key i o × ((j : ℕ) → HasKeyAt g key j o → j ≡ i)

abbrev pub HasNoPairOfKey : Objects → Value → ℕ → Object → Type 0
HasNoPairOfKey g key n o = HasPairs n o × ((j : ℕ) → HasKeyAt g key j o → ⊥)

-- set a pair: the pair of the hash that has the key gets the value, and its key object stays; or no pair has it, and a pair of the
-- key and the value comes behind all
abbrev pub IsPairSet : ℕ → Actor → Operand → Value → Value → State → State → Type 0
IsPairSet k a op key x s t = ((i : ℕ) × IsMade k a op (IsPairOfKey s.objects key i) (with_value i x) s t) ⊎ ((n : ℕ) × IsMade k a op (HasNoPairOfKey s.objects key n) (with_pair n key x) s t)

-- a change for which a growth was refused: all is as it was
abbrev pub IsMemoryRefused : Fault → State → State → Type 0
IsMemoryRefused f s t = (f ≡ fault.Memory) × IsSame s t

-- read: the first value under the label joins the roots, and the graph stays
pub record IsReadAs (k : ℕ) (a : Actor) (op : Operand) (l : Label) (s t : State) : Type 0 where
  pub name : ℕ
  pub owned : Owned
  pub value : Value
  pub named : named_value a.roots op ≡ Some (At (Own name))
  pub here : s.objects name ≡ Some owned
  pub first : IsFirstUnder owned.object.triples l value
  pub objects : (n : ℕ) → t.objects n ≡ s.objects n
  pub ractors : t.ractors ≡ slice_set s.ractors k (record a { roots = a.roots ++ value ∷ [] })
  pub post : t.post ≡ s.post

-- a ractor without objects, its inbox, and its port
abbrev pub new_actor : Limits → Actor
new_actor l = record { roots = []; hand = None; home = None; ticket = None; plan = None; published = None; slots = 0; limit = l.slots; next = 1; limits = l; runs = true }

abbrev pub new_mailbox : Limits → Mailbox
new_mailbox l = record { inside = []; closed = false; next = 0; history = []; limit = l.events }

abbrev pub new_showcase : Limits → Showcase
new_showcase l = record { shown = None; last = None; given = false; closed = false; next = 0; history = []; limit = l.events }

-- start: there are fewer ractors than may be; one without objects comes with the next number, and its inbox and its port; the graph
-- stays
pub record IsStarted (number : Number) (a : Actor) (s t : State) : Type 0 where
  pub room : length s.ractors < a.limits.ractors
  pub next : StandsAt number (length s.ractors)
  pub objects : (n : ℕ) → t.objects n ≡ s.objects n
  pub ractors : t.ractors ≡ s.ractors ++ new_actor a.limits ∷ []
  pub post : t.post ≡ record s.post { inboxes = s.post.inboxes ++ new_mailbox a.limits ∷ []; ports = s.post.ports ++ new_showcase a.limits ∷ [] }

-- a refused start: there are as many ractors as may be, or there are not, and a growth was refused; all is as it was
abbrev pub IsStartRefused : Actor → Fault → State → State → Type 0
IsStartRefused a f s t = (((f ≡ fault.Memory) × (length s.ractors < a.limits.ractors)) ⊎ ((f ≡ fault.Limit kind.Ractors) × (a.limits.ractors ≤ length s.ractors))) × IsSame s t

-- a ractor that has ended is one without objects that does not run
abbrev pub ended_actor : Limits → Actor
ended_actor l = record (new_actor l) { runs = false }

-- the owner is the ractor at k, or its hand
abbrev pub IsHeldBy : ℕ → Owner → Type 0
IsHeldBy k h = (h ≡ Space k) ⊎ (h ≡ Hand k)

-- end: the objects of the ractor and of its hand vanish, and with them its roots; its channels stay
pub record IsEnded (k : ℕ) (a : Actor) (s t : State) : Type 0 where
  pub gone : (n : ℕ) (x : Owned) → s.objects n ≡ Some x → IsHeldBy k x.owner → t.objects n ≡ None
  pub kept : (n : ℕ) (x : Owned) → s.objects n ≡ Some x → (IsHeldBy k x.owner → ⊥) → t.objects n ≡ Some x
  pub none : (n : ℕ) → s.objects n ≡ None → t.objects n ≡ None
  pub ractors : t.ractors ≡ slice_set s.ractors k (ended_actor a.limits)
  pub post : t.post ≡ s.post
