-- What ractors may share, as a script asks Ractor for it.
use Rattle.std.specs.Prelude.{ℕ, zero, suc, nat_eq, Bool, true, false, not, ◌&&◌, ◌||◌, if◌then◌else◌, List, [], ◌∷◌, length, slice_get, slice_index_or, codes, Option, Some, None}
use Rattle.std.specs.Str.{bytes_eq}
use Rattle.rr_space.specs.Graph.{Graph, Own, Published, Value, Plain, At, SymbolNo, Truth, Label, Object}
use Rattle.rr_base.specs.declared.name.RactorNo.{RactorNo as RactorNumber}
use Rattle.rr_space.specs.Kinds.{kind_at}
use Rattle.rr_space.specs.Labels.{triples_at}
use Rattle.rr_space.specs.Parts.{value_of, truth_ref}
use Rattle.rr_space.specs.Tables.{Slot, Here, Led, Table, resolve, space_graph}
use Rattle.rr_space.specs.Views.{is_shell}
use Rattle.rr_space.specs.declared.refer.Ref.{Ref}
use Rattle.rr_space.specs.declared.refer.Ref.TheVariants as refs
use Rattle.rr_builtin.specs.Kinds.{is_hash}
use Rattle.rr_builtin.specs.declared.problem.Problem.TheVariants.{Count, Moved}
use Rattle.rr_eval.specs.declared.call.Callee.{Callee}
use Rattle.rr_eval.specs.declared.problem.Problem.{Problem}
use Rattle.rr_eval.specs.declared.problem.Problem.TheVariants.{BuiltIn, UnknownKeyword, NoRactorBlock, NoRactors, NotHere}
use Rattle.rr_eval.specs.declared.ractor_method.RactorMethod.{RactorMethod}
use Rattle.rr_eval.specs.declared.ractor_method.RactorMethod.TheVariants.{IsShareable, MakeShareable, Start, Current, Main, IsMain, WithOthers, Name, Later}
use Rattle.rr_eval.specs.Calls.{call_reply}
use Rattle.rr_eval.specs.Context.{Context}
use Rattle.rr_eval.specs.Effects.{Effect, Says, SaysFailed}
use Rattle.rr_eval.specs.Owners.{owner_of, is_main}
pub use Rattle.rr_eval.specs.RactorMethods.{ractor_method}

-- ---- Which objects a value leads to, as tests.

-- whether a path of steps leads from one number to another, which between them visits none but the first ones
abbrev pub connects : (ℕ → ℕ → Bool) → ℕ → ℕ → ℕ → Bool
connects step zero a b = step a b
connects step (suc k) a b = connects step k a b || (connects step k a k && connects step k k b)

-- whether the test holds for one of the first numbers
abbrev pub one_below : (ℕ → Bool) → ℕ → Bool
one_below p zero = false
one_below p (suc n) = one_below p n || p n

-- whether a value is the object of a slot
abbrev pub is_own : ℕ → Value → Bool
is_own m (Plain i) = false
is_own m (At (Own n)) = nat_eq n m
is_own m (At (Published c p)) = false

-- whether one of the values of an object is the object of a slot
abbrev pub has_own : ℕ → List (Label × Value) → Bool
has_own m [] = false
has_own m (x ∷ xs) = is_own m x.1 || has_own m xs

abbrev pub object_has : ℕ → Option Object → Bool
object_has m None = false
object_has m (Some o) = has_own m o.triples

-- whether the object of a slot has that of another slot
abbrev pub steps : Graph → ℕ → ℕ → Bool
steps g n m = object_has m (g (Own n))

-- whether a value leads to the object of a slot, where there are so many slots
abbrev pub leads_in : Graph → ℕ → Value → ℕ → Bool
leads_in g count (Plain i) m = false
leads_in g count (At (Own n)) m = nat_eq n m || connects (steps g) count n m
leads_in g count (At (Published c p)) m = false

abbrev pub leads : Table → Ref → ℕ → Bool
leads t v m = leads_in (space_graph t) (length t.slots) (resolve t.slots (value_of v)) m

-- ---- What is shareable, and what a value is once it is made so.

-- whether an object is no shareable one by itself: it is not frozen, or a shell
abbrev pub is_open : Option Slot → Bool
is_open (Some (Here o)) = not o.frozen || is_shell o.kind
is_open (Some (Led c p)) = false
is_open None = false

abbrev pub is_moved : Option Slot → Bool
is_moved (Some (Here o)) = is_shell o.kind
is_moved (Some (Led c p)) = false
is_moved None = false

-- a value is shareable that leads to frozen objects alone, and to no shell
abbrev pub is_shareable : Table → Ref → Bool
is_shareable t v = not (one_below (λ n. leads t v n && is_open (slice_get t.slots n)) (length t.slots))

abbrev pub leads_to_shell : Table → Ref → Bool
leads_to_shell t v = one_below (λ n. leads t v n && is_moved (slice_get t.slots n)) (length t.slots)

abbrev pub frozen_slot : Bool → Slot → Slot
frozen_slot true (Here o) = Here (record o { frozen = true })
frozen_slot true (Led c p) = Led c p
frozen_slot false s = s

-- the objects of some of the slots are frozen; the first of these slots has the number
abbrev pub frozen_from : (ℕ → Bool) → ℕ → List Slot → List Slot
frozen_from some n [] = []
frozen_from some n (s ∷ ss) = frozen_slot (some n) s ∷ frozen_from some (suc n) ss

-- each object that a value leads to is frozen
abbrev pub deep_frozen : Ref → Table → Table
deep_frozen v t = record t { slots = frozen_from (leads t v) 0 t.slots }

-- ---- The methods of Ractor.

-- a call that changes nothing and raises
abbrev pub fails : Problem → Table → Effect
fails e t = record { said = SaysFailed e; table = t }

-- a wrong count of arguments
abbrev pub one_wanted : List Ref → Table → Effect
one_wanted vs t = fails (BuiltIn (Count (length vs) 1 1)) t

-- `shareable?`
abbrev pub shareable_reply : List Ref → Table → Effect
shareable_reply (v ∷ []) t = record { said = Says (Plain (Truth (is_shareable t v))); table = t }
shareable_reply vs t = one_wanted vs t

-- whether a key is `:copy`
abbrev pub names_copy : Context → Value → Bool
names_copy c (Plain (SymbolNo n)) = bytes_eq (slice_index_or c.symbols n []) (codes "copy")
names_copy c _ = false

abbrev pub is_copy : Context → Option (Label × Value) → Bool
is_copy c None = false
is_copy c (Some x) = names_copy c x.1

-- whether a hash has the key `:copy` alone
abbrev pub asks_copy : Context → Table → Ref → Bool
asks_copy c t v = nat_eq (length (triples_at t v)) 2 && is_copy c (slice_get (triples_at t v) 0)

abbrev pub frozen_reply : Ref → Table → Effect
frozen_reply v t = if leads_to_shell t v then fails (BuiltIn Moved) t else record { said = Says (value_of v); table = deep_frozen v t }

-- A second argument, which is a hash of keywords. The only keyword is `copy`, and no copy is asked for by its value.
abbrev pub keyword_reply : Context → Ref → Ref → Table → Effect
keyword_reply c v w t = if is_hash (kind_at t w) then (if asks_copy c t w then frozen_reply v t else fails UnknownKeyword t) else one_wanted (v ∷ w ∷ []) t

-- `make_shareable`
abbrev pub make_shareable_reply : Context → List Ref → Table → Effect
make_shareable_reply c (v ∷ []) t = frozen_reply v t
make_shareable_reply c (v ∷ w ∷ []) t = keyword_reply c v w t
make_shareable_reply c vs t = one_wanted vs t

-- a method without arguments, which gives a value
abbrev pub given_alone : Ref → List Ref → Table → Effect
given_alone v [] t = record { said = Says (value_of v); table = t }
given_alone v (w ∷ ws) t = fails (BuiltIn (Count (length (w ∷ ws)) 0 0)) t

-- The main ractor is the first one.
abbrev pub main_ractor : RactorNumber
main_ractor = record { 0 = 1 }

-- it has no name, and what another one is called is not told yet
abbrev pub name_reply : List Ref → Table → Effect
name_reply vs t = if is_main t then given_alone refs.Nil vs t else fails NotHere t

-- A script on its own has no other ractor, no inbox and no port.

abbrev pub ractor_reply : Context → RactorMethod → List Ref → Table → Effect
ractor_reply c IsShareable vs t = shareable_reply vs t
ractor_reply c MakeShareable vs t = make_shareable_reply c vs t
-- with a block `new` is no request
ractor_reply c Start vs t = fails NoRactorBlock t
ractor_reply c Current vs t = given_alone (refs.Ractor (owner_of t)) vs t
ractor_reply c Main vs t = given_alone (refs.Ractor main_ractor) vs t
ractor_reply c IsMain vs t = given_alone (truth_ref (is_main t)) vs t
ractor_reply c Name vs t = name_reply vs t
ractor_reply c WithOthers vs t = fails NoRactors t
ractor_reply c Later vs t = fails NotHere t

-- a call: of a method of Ractor, or of another
abbrev pub called_reply : Context → Option RactorMethod → Ref → Callee → List Ref → Table → Effect
called_reply c None v callee vs t = call_reply c v callee vs t
called_reply c (Some m) v callee vs t = ractor_reply c m vs t
