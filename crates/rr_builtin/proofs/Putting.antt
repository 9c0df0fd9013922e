-- Values that are put under keys of hashes, whether the keys are there or not.
use Rattle.std.proofs.Common.{◌≡◌, ◌∙◌, ◌<◌, ◌&&◌, ℕ, zero, suc, Bool, true, false, if◌then◌else◌, List, [], ◌∷◌, ◌++◌, length, map, Contains, Option, Some, None, MatchOption, slice_get, slice_set, Ok, refl, sym, ap, subst, arith}
use Rattle.std.specs.Option.{option_map}
use Rattle.std.proofs.lemmas.Bool.{false≢true}
use Rattle.std.proofs.lemmas.Option.{none-some, same_Some, slice_get-get_or}
use Rattle.std.proofs.lemmas.Slice.Eq.{bytes_eq-Decides}
use Rattle.rr_space.specs.Graph.{Object}
use Rattle.rr_space.specs.Tables.{Table, Here, Below, HashKey, PlainKey, TextKey, IsRestKept}
use Rattle.rr_space.specs.Parts.{value_of, is_frozen_object, IsWithin}
use Rattle.rr_space.specs.Views.{keys_at, object_at, frozen_at, text_at, IsFirstAt}
use Rattle.rr_space.specs.Lookups.{is_text, key_at, key_of_frozen}
use Rattle.rr_space.specs.declared.refer.Ref.{Ref}
use Rattle.rr_space.specs.declared.refer.Ref.TheVariants.{Nil, False, True, Int, Symbol, Class, Ractor, Local, Shared}
use Rattle.rr_text.specs.Keys.{same_key, place_among, pair_with}
use Rattle.rr_text.specs.Reads.{IsReadWith}
use Rattle.rr_text.proofs.Finding.{keys_of_own}
use Rattle.rr_text.proofs.Same.{immediates_are, immediate_is}
use Rattle.rr_builtin.specs.declared.built.Built.TheVariants as built
use Rattle.rr_builtin.specs.Acts.{Act, AddsPair, AddsText, with_value, with_pair, performed, IsRefAmong, IsDone, IsServed}
use Rattle.rr_builtin.specs.Hashes.{stored}
use Rattle.rr_builtin.proofs.Performing.{IsWritable, written_done}
use Rattle.rr_builtin.proofs.Serving.{served_written}
use Rattle.rr_builtin.proofs.Storing.{pair_done, has_first}

-- ---- The pair that has a key.

key_same : (key k : HashKey) → same_key key (Some k) ≡ true → k ≡ key
key_same (PlainKey i) (PlainKey j) e = ap (λ x. PlainKey x) (sym (immediates_are i j e))
key_same (TextKey a) (TextKey b) e = ap (λ x. TextKey x) (sym ((bytes_eq-Decides a b).0 e))
key_same (PlainKey i) (TextKey b) e = absurd (false≢true e)
key_same (TextKey a) (PlainKey j) e = absurd (false≢true e)

key_itself : (key : HashKey) → same_key key (Some key) ≡ true
key_itself (PlainKey i) = immediate_is i
key_itself (TextKey a) = (bytes_eq-Decides a a).1 refl

pub first_of : (key : HashKey) (ks : List HashKey) → MatchOption (place_among key (map (λ k. Some k) ks)) (Contains ks key → ⊥) (IsFirstAt ks key)
first_of key [] = λ has. let lt = has.1 in let no : ⊥ = omega (arith, lt) in no
first_of key (k ∷ ks) = by (same_key key (Some k)) refl (place_among key (map (λ k. Some k) ks)) (first_of key ks)
  where
    apart : same_key key (Some k) ≡ false → (Contains ks key → ⊥) → (i : ℕ) → slice_get (k ∷ ks) i ≡ Some key → ⊥
    apart e out zero at = false≢true (sym e ∙ ap (λ x. same_key key (Some x)) (same_Some k key at) ∙ key_itself key)
    apart e out (suc i) at = out (has_first ks key i at)

    later : same_key key (Some k) ≡ false → (i : ℕ) → IsFirstAt ks key i → (j : ℕ) → j < suc i → slice_get (k ∷ ks) j ≡ Some key → ⊥
    later e i h zero lt at = false≢true (sym e ∙ ap (λ x. same_key key (Some x)) (same_Some k key at) ∙ key_itself key)
    later e i h (suc j) lt at = h.before j (omega (arith, lt)) at

    by : (b : Bool) → same_key key (Some k) ≡ b → (r : Option ℕ) → MatchOption r (Contains ks key → ⊥) (IsFirstAt ks key)
        → MatchOption (if b then Some 0 else option_map (λ i. suc i) r) (Contains (k ∷ ks) key → ⊥) (IsFirstAt (k ∷ ks) key)
    by true e r h = record { here = ap (λ x. Some x) (key_same key k e); before = λ j lt at. let no : ⊥ = omega (arith, lt) in no }
    by false e None h = λ has. apart e h has.0 (slice_get-get_or (k ∷ ks) has.0 key has.1 ∙ ap (λ x. Some x) has.2)
    by false e (Some i) h = record { here = h.here; before = later e i h }

pub pair_is : (below : Below) (t : Table) (v : Ref) (key : HashKey) (ks : List HashKey) → keys_at t v ≡ Some ks → pair_with below t v key ≡ place_among key (map (λ k. Some k) ks)
unfolding pair_with
pair_is below t v key ks at = ap (place_among key) (sym (keys_of_own below t v ks at))

-- ---- Key objects.

object_keyed : (o : Option Object) (k : HashKey) → key_of_frozen o ≡ Some k → is_frozen_object o ≡ true
object_keyed None k e = absurd (none-some k e)
object_keyed (Some o) k e = by (is_text o.kind) o.frozen e
  where
    by : (text frozen : Bool) → (if text && frozen then Some (TextKey o.bytes) else None) ≡ Some k → frozen ≡ true
    by true true e = refl
    by true false e = absurd (none-some k e)
    by false frozen e = absurd (none-some k e)

-- what is a key object is frozen
pub keyed_frozen : (t : Table) (r : Ref) (k : HashKey) → key_at t r ≡ Some k → frozen_at t r ≡ true
keyed_frozen t Nil k e = refl
keyed_frozen t False k e = refl
keyed_frozen t True k e = refl
keyed_frozen t (Int z) k e = refl
keyed_frozen t (Symbol s) k e = refl
keyed_frozen t (Class c) k e = refl
keyed_frozen t (Ractor c) k e = refl
keyed_frozen t (Local n) k e = object_keyed (object_at t (Local n)) k e
keyed_frozen t (Shared p c) k e = object_keyed (object_at t (Shared p c)) k e

stored_frozen : (key : HashKey) (a x : Ref) (t : Table) → frozen_at t a ≡ true → stored key None a x t ≡ AddsPair (value_of a) key (value_of x)
stored_frozen key a x t e = ap (λ (b : Bool). if b then AddsPair (value_of a) key (value_of x) else AddsText (text_at t a) (value_of x)) e

-- ---- What is put.

-- the pair that has the key got the value, or a new one came behind the others
pub record IsPut (old new : Table) (v : Ref) (w : IsWritable old v) (ks : List HashKey) (key : HashKey) (a x : Ref) : Type 0 where
  pub present : (i : ℕ) → IsFirstAt ks key i → (new.slots ≡ slice_set old.slots w.slot (Here (with_value i (value_of x) w.object))) × (new.keys ≡ old.keys)
  pub absent : (Contains ks key → ⊥) → (new.slots ≡ slice_set old.slots w.slot (Here (with_pair (length ks) (value_of a) (value_of x) w.object))) × (new.keys ≡ slice_set old.keys w.slot (ks ++ key ∷ []))

pub put_done : (below : Below) (old new : Table) (v : Ref) (w : IsWritable old v) (ks : List HashKey) (key : HashKey) (a x : Ref) (r : Option ℕ) → MatchOption r (Contains ks key → ⊥) (IsFirstAt ks key) → IsPut old new v w ks key a x
    → slice_get old.keys w.slot ≡ Some ks → keys_at old v ≡ Some ks → key_at old a ≡ Some key → IsRestKept old new → IsReadWith new below → IsWithin (length old.slots) x → IsRefAmong below x
    → IsDone below (performed (stored key r a x old) v old) old new (built.Value x)
put_done below old new v w ks key a x None h put at kat named rest read within among =
    subst (λ (act : Act). IsDone below (performed act v old) old new (built.Value x)) (sym (stored_frozen key a x old (keyed_frozen old a key named)))
    (pair_done below old new (value_of a) key (value_of x) v x w ks at kat (put.absent h).0 (put.absent h).1 rest read refl within among)
put_done below old new v w ks key a x (Some i) h put at kat named rest read within among =
    written_done below old new (with_value i (value_of x)) v x (value_of x) w (put.present i h).0 (put.present i h).1 rest read refl within among

pub put_served : (old new : Table) (v : Ref) (w : IsWritable old v) (ks : List HashKey) (key : HashKey) (a x : Ref) (r : Option ℕ) → MatchOption r (Contains ks key → ⊥) (IsFirstAt ks key) → IsPut old new v w ks key a x
    → IsRestKept old new → IsWithin (length old.slots) x → IsServed old new (Ok (built.Value x))
put_served old new v w ks key a x None h put rest within = served_written old new w.slot _ x (put.absent h).0 rest within
put_served old new v w ks key a x (Some i) h put rest within = served_written old new w.slot _ x (put.present i h).0 rest within
