-- The values that operands name.
use Rattle.std.proofs.Common.{◌≡◌, ◌∙◌, ℕ, zero, suc, List, [], ◌∷◌, length, map, Some, slice_get, Contains, true, false, sym, ap, refl, subst}
use Rattle.std.specs.Option.{option_map}
use Rattle.std.proofs.lemmas.Option.{none-some, same_Some}
use Rattle.rr_space.specs.Tables.{Below, Table, resolve}
use Rattle.rr_space.specs.Views.{IsKnownFrom}
use Rattle.rr_space.specs.Parts.{value_of, below_ref, IsWithin}
use Rattle.rr_space.specs.Readings.{Owner, Naming, Knows, Layout}
use Rattle.rr_space.specs.declared.refer.Ref.{Ref}
use Rattle.rr_space.specs.declared.refer.Ref.TheVariants as ref
use Rattle.rr_space.proofs.Renaming.{contains_at}
use Rattle.rr_space.proofs.Sounds.{none_in}
use Rattle.rr_world.specs.Views.{AreRootsWithin, Member}
use Rattle.rr_world.specs.Getting.{IsPublicRef}
use Rattle.rr_world.specs.Readings.{root_in}
use Rattle.rr_world.specs.Enabling.{named_value}
use Rattle.rr_world.specs.Packing.{named_ref}
use Rattle.rr_world.specs.declared.step.Operand.{Operand}
use Rattle.rr_world.specs.declared.step.Operand.TheVariants as operand

map_get : {A B : Type 0} (f : A → B) (xs : List A) (i : ℕ) → slice_get (map f xs) i ≡ option_map f (slice_get xs i)
map_get f [] i = refl
map_get f (x ∷ xs) zero = refl
map_get f (x ∷ xs) (suc i) = map_get f xs i

pub value_named : (names : Naming) (h : Owner) (rs : List Ref) (op : Operand) → named_value (map (root_in names h) rs) op ≡ option_map (root_in names h) (named_ref rs op)
value_named names h rs operand.Nil = refl
value_named names h rs (operand.Truth true) = refl
value_named names h rs (operand.Truth false) = refl
value_named names h rs (operand.Int z) = refl
value_named names h rs (operand.Symbol s) = refl
value_named names h rs (operand.Class c) = refl
value_named names h rs (operand.Ractor r) = refl
value_named names h rs (operand.Root n) = map_get (root_in names h) rs n

none_below : (tables : Layout) (b : Below) → b ≡ [] → Knows b tables
none_below tables b none = record { known = λ c os has. absurd (none_in (c, os) (subst (λ x. Contains x (c, os)) none has)) }

pub known_named : (tables : Layout) (rs : List Ref) (op : Operand) (v : Ref) → ((r : Ref) → Contains rs r → Knows (below_ref r) tables) → named_ref rs op ≡ Some v → Knows (below_ref v) tables
known_named tables rs operand.Nil v K is = none_below tables (below_ref v) (ap below_ref (sym (same_Some _ v is)))
known_named tables rs (operand.Truth true) v K is = none_below tables (below_ref v) (ap below_ref (sym (same_Some _ v is)))
known_named tables rs (operand.Truth false) v K is = none_below tables (below_ref v) (ap below_ref (sym (same_Some _ v is)))
known_named tables rs (operand.Int b) v K is = none_below tables (below_ref v) (ap below_ref (sym (same_Some _ v is)))
known_named tables rs (operand.Symbol b) v K is = none_below tables (below_ref v) (ap below_ref (sym (same_Some _ v is)))
known_named tables rs (operand.Class b) v K is = none_below tables (below_ref v) (ap below_ref (sym (same_Some _ v is)))
known_named tables rs (operand.Ractor b) v K is = none_below tables (below_ref v) (ap below_ref (sym (same_Some _ v is)))
known_named tables rs (operand.Root n) v K is = K v (contains_at rs n v is)

pub root_within : (k : ℕ) (rs : List Ref) (n : ℕ) (r : Ref) → AreRootsWithin k rs → slice_get rs n ≡ Some r → IsWithin k r
root_within k [] n r all is = absurd (none-some r is)
root_within k (x ∷ xs) zero r all is = subst (IsWithin k) (same_Some x r is) all.0
root_within k (x ∷ xs) (suc n) r all is = root_within k xs n r all.1 is

-- the value of an operand is within
pub ref_within : (k : ℕ) (rs : List Ref) (op : Operand) (v : Ref) → AreRootsWithin k rs → named_ref rs op ≡ Some v → IsWithin k v
ref_within k rs operand.Nil v all is = subst (IsWithin k) (same_Some _ v is) tt
ref_within k rs (operand.Truth true) v all is = subst (IsWithin k) (same_Some _ v is) tt
ref_within k rs (operand.Truth false) v all is = subst (IsWithin k) (same_Some _ v is) tt
ref_within k rs (operand.Int b) v all is = subst (IsWithin k) (same_Some _ v is) tt
ref_within k rs (operand.Symbol b) v all is = subst (IsWithin k) (same_Some _ v is) tt
ref_within k rs (operand.Class b) v all is = subst (IsWithin k) (same_Some _ v is) tt
ref_within k rs (operand.Ractor b) v all is = subst (IsWithin k) (same_Some _ v is) tt
ref_within k rs (operand.Root n) v all is = root_within k rs n v all is

-- what is within a space and no slot is within none
within_all : (k : ℕ) (r : Ref) → IsWithin k r → ((x : ℕ) → r ≡ ref.Local x → ⊥) → IsWithin 0 r
within_all k ref.Nil h apart = tt
within_all k ref.False h apart = tt
within_all k ref.True h apart = tt
within_all k (ref.Int b) h apart = tt
within_all k (ref.Symbol b) h apart = tt
within_all k (ref.Class b) h apart = tt
within_all k (ref.Ractor b) h apart = tt
within_all k (ref.Local x) h apart = absurd (apart x refl)
within_all k (ref.Shared p c) h apart = h

-- a value of which the forwards are followed, and which is no slot, is one that every ractor may have
pub public_ref : (m : Member) (t : Table) → t ≡ m.space → (op : Operand) (v r : Ref) → named_ref m.roots op ≡ Some v → IsWithin (length m.space.slots) v → value_of r ≡ resolve t.slots (value_of v)
    → (IsWithin (length t.slots) v → IsWithin (length t.slots) r) → IsKnownFrom t v r → ((x : ℕ) → r ≡ ref.Local x → ⊥) → IsPublicRef m op r
public_ref m t same op v r is within value stays known apart = record {
  value = v;
  named = is;
  resolves = value ∙ ap (λ (u : Table). resolve u.slots (value_of v)) same;
  public = within_all (length t.slots) r (stays (subst (λ (u : Table). IsWithin (length u.slots) v) (sym same) within)) apart;
  known = subst (λ (u : Table). IsKnownFrom u v r) same known;
}
