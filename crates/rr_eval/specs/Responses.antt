-- What calls of built-in methods come to, as a script goes on with it.
use Rattle.std.specs.Prelude.{ℕ, nat_eq, Bool, false, ◌&&◌, if◌then◌else◌, Option, Some, None, true}
use Rattle.rr_space.specs.Graph.{Value, Plain, At, Own, Published, Nil, Truth, Integer, SymbolNo, ClassNo, RactorNo as RactorValue}
use Rattle.rr_space.specs.Kinds.{class_at}
use Rattle.rr_space.specs.Tables.{Table, resolve}
use Rattle.rr_space.specs.Parts.{truth_ref}
use Rattle.rr_space.specs.declared.refer.Ref.{Ref}
use Rattle.rr_space.specs.declared.refer.Ref.TheVariants as refs
use Rattle.rr_builtin.specs.Rounds.{Read, Reads, item_at}
use Rattle.rr_builtin.specs.declared.built.Built.{Built}
use Rattle.rr_builtin.specs.declared.built.Built.TheVariants as built
use Rattle.rr_builtin.specs.declared.problem.Receiver.{Receiver}
use Rattle.rr_builtin.specs.declared.problem.Receiver.TheVariants as receivers
use Rattle.rr_eval.specs.declared.problem.Problem.{Problem}
use Rattle.rr_eval.specs.declared.problem.Problem.TheVariants.{BuiltIn}
use Rattle.rr_eval.specs.declared.problem.Response.{Response}
use Rattle.rr_eval.specs.declared.problem.Response.TheVariants as response

-- the reference of a value that is not published; nil stands for one that is
abbrev pub ref_of : Value → Ref
ref_of (Plain Nil) = refs.Nil
ref_of (Plain (Truth b)) = truth_ref b
ref_of (Plain (Integer z)) = refs.Int z
ref_of (Plain (SymbolNo n)) = refs.Symbol (record { 0 = n })
ref_of (Plain (ClassNo n)) = refs.Class (record { 0 = n })
ref_of (Plain (RactorValue n)) = refs.Ractor (record { 0 = n })
ref_of (At (Own n)) = refs.Local n
ref_of (At (Published c p)) = refs.Nil

-- The third object of a script, to which no value leads. It is an array that has, for each cluster by its number, an array of the slots
-- in which the places of the cluster were before they were published.
abbrev pub registry_slot : ℕ
registry_slot = 2

abbrev pub registry : Ref
registry = refs.Local registry_slot

-- the slot that is read, if one is
abbrev pub slot_read : Read → Option ℕ
slot_read (Reads (At (Own n))) = Some n
slot_read _ = None

-- whether a value is the published object of this cluster and place
abbrev pub is_published : ℕ → ℕ → Value → Bool
is_published c p (At (Published d q)) = nat_eq d c && nat_eq q p
is_published c p _ = false

-- the slot, where it leads to the published object
abbrev pub known_slot : Table → ℕ → ℕ → Option ℕ → Option Ref
known_slot t c p None = None
known_slot t c p (Some n) = if is_published c p (resolve t.slots (At (Own n))) then Some (refs.Local n) else None

-- the same, by the array of the cluster
abbrev pub known_among : Table → ℕ → ℕ → Option ℕ → Option Ref
known_among t c p None = None
known_among t c p (Some k) = known_slot t c p (slot_read (item_at t (refs.Local k) p))

-- The slot of a script that stands for a published object, where one is known. It leads to that object, whatever the registry has.
unfoldable pub known : Table → ℕ → ℕ → Option Ref
known t c p = known_among t c p (slot_read (item_at t registry c))

-- the reference of a value: that of a published one is the slot that stands for it
abbrev pub own_of : Table → Value → Option Ref
own_of t (At (Published c p)) = known t c p
own_of t x = Some (ref_of x)

-- what a message calls a receiver that has no such method
abbrev pub receiver_of : Table → Ref → Receiver
receiver_of t refs.Nil = receivers.Nil
receiver_of t refs.False = receivers.Truth false
receiver_of t refs.True = receivers.Truth true
receiver_of t (refs.Class c) = receivers.Class c
receiver_of t v = receivers.Instance (class_at t v)

-- what a call built, where `missing` is the problem of a method that the receiver lacks
abbrev pub response_from : Problem → Built → Response
response_from missing (built.Value r) = response.Gives r
response_from missing (built.Raised p) = response.Fails (BuiltIn p)
response_from missing built.Missing = response.Fails missing
