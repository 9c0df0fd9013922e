-- Two keys are equal where contracts see one key, and where a key is found.
use Rattle.std.proofs.Common.{◌≡◌, ℕ, zero, suc, Bool, true, false, cond, List, [], ◌∷◌, map, get_or, slice_get, Option, Some, None, Contains, MatchOption, is_some, refl, ap, ◌∙◌, sym}
use Rattle.std.specs.Bool.{Decides}
use Rattle.std.specs.Cmp.{booleans_Decides}
use Rattle.std.specs.Cmp.Lexicographic.{bytes_decides}
use Rattle.std.specs.List.{position}
use Rattle.std.specs.Map.{lookup, keys_of}
use Rattle.std.proofs.lemmas.Bool.{false≢true}
use Rattle.std.proofs.lemmas.Bool.Decides.{Decides-eqb, Decides-int_eq}
use Rattle.std.proofs.lemmas.List.Quantifiers.{position-Some}
use Rattle.std.proofs.lemmas.Option.{slice_get-get_or, get_or_from_slice_get, same_Some, none-some}
use Rattle.rr_space.specs.Graph.{Truth as TruthValue, Integer, SymbolNo, ClassNo, RactorNo}
use Rattle.rr_space.specs.Tables.{PlainKey, TextKey}
use Rattle.rr_space.specs.Views.{key_of}
use Rattle.rr_space.specs.Views.{IsFirstAt}
use Rattle.rr_space.specs.declared.node.Key.{Key}
use Rattle.rr_space.specs.declared.node.Key.TheVariants.{Nil, Truth, Int, Symbol, Class, Ractor, Text}
use Rattle.rr_space.specs.contracts.node.KeyPartialEq.TheImpl.{eq-value}

abbrev pub key_eq : Key → Key → Bool
key_eq x y = eq-value.it x y

pub keys_decide : (x y : Key) → Decides (key_eq x y) (key_of x ≡ key_of y)
keys_decide Nil Nil = (λ _. refl, λ _. refl)
keys_decide (Truth a) (Truth b) = (λ e. ap (λ z. PlainKey (TruthValue z)) ((booleans_Decides a b).0 e), λ e. (booleans_Decides a b).1 (let w : a ≡ b = cc in w))
keys_decide (Int a) (Int b) = (λ e. ap (λ z. PlainKey (Integer z)) ((Decides-int_eq a b).0 e), λ e. (Decides-int_eq a b).1 (let w : a ≡ b = cc in w))
keys_decide (Symbol a) (Symbol b) = (λ e. ap (λ z. PlainKey (SymbolNo z)) ((Decides-eqb a b).0 e), λ e. (Decides-eqb a b).1 (let w : a ≡ b = cc in w))
keys_decide (Class a) (Class b) = (λ e. ap (λ z. PlainKey (ClassNo z)) ((Decides-eqb a b).0 e), λ e. (Decides-eqb a b).1 (let w : a ≡ b = cc in w))
keys_decide (Ractor a) (Ractor b) = (λ e. ap (λ z. PlainKey (RactorNo z)) ((Decides-eqb a b).0 e), λ e. (Decides-eqb a b).1 (let w : a ≡ b = cc in w))
keys_decide (Text a) (Text b) = (λ e. ap (λ z. TextKey z) ((bytes_decides a.items b.items).0 e), λ e. (bytes_decides a.items b.items).1 (let w : a.items ≡ b.items = cc in w))
keys_decide x y = (λ e. absurd (false≢true e), λ e. absurd (let w : ⊥ = cc in w))

module _ {K V H : Type 0} (t : K → Bool) (f : K → H) (k : H) (says : (y : K) → Decides (t y) (k ≡ f y)) where
  abbrev keys : List (K × V) → List H
  keys es = map (λ e. f e.0) es

  none_later : (b : Bool) (v : V) (later : Option V) → is_some (cond b (Some v) later) ≡ false → (b ≡ false) × (is_some later ≡ false)
  none_later true v later e = absurd (false≢true (sym e))
  none_later false v later e = (refl, e)

  pub no_place : (es : List (K × V)) → is_some (lookup t es) ≡ false → (j : ℕ) → slice_get (keys es) j ≡ Some k → ⊥
  no_place [] e j at = none-some k at
  no_place (x ∷ es) e zero at = false≢true (sym (none_later (t x.0) x.1 (lookup t es) e).0 ∙ (says x.0).1 (sym (same_Some (f x.0) k at)))
  no_place (x ∷ es) e (suc j) at = no_place es (none_later (t x.0) x.1 (lookup t es) e).1 j at

  key_at : (es : List (K × V)) (j : ℕ) (y : K) → slice_get (keys_of es) j ≡ Some y → slice_get (keys es) j ≡ Some (f y)
  key_at [] j y at = absurd (none-some y at)
  key_at (x ∷ es) zero y at = ap (λ z. Some (f z)) (same_Some x.0 y at)
  key_at (x ∷ es) (suc j) y at = key_at es j y at

  at_key : (es : List (K × V)) (j : ℕ) (h : H) → slice_get (keys es) j ≡ Some h → (y : K) × (slice_get (keys_of es) j ≡ Some y) × (f y ≡ h)
  at_key [] j h at = absurd (none-some h at)
  at_key (x ∷ es) zero h at = (x.0, refl, same_Some (f x.0) h at)
  at_key (x ∷ es) (suc j) h at = at_key es j h at

  first_at : (es : List (K × V)) (i : ℕ) → position t (keys_of es) ≡ Some i → IsFirstAt (keys es) k i
  first_at es i p = by es i p (position_within es i p)
    where
      position_within : (es : List (K × V)) (i : ℕ) → position t (keys_of es) ≡ Some i → (y : K) × (slice_get (keys_of es) i ≡ Some y)
      position_within [] i p = absurd (none-some i p)
      position_within (x ∷ es) i p = (get_or (keys_of (x ∷ es)) i x.0, slice_get-get_or (keys_of (x ∷ es)) i x.0 (position-Some t (keys_of (x ∷ es)) i x.0 p).0)

      by : (es : List (K × V)) (i : ℕ) → position t (keys_of es) ≡ Some i → (y : K) × (slice_get (keys_of es) i ≡ Some y) → IsFirstAt (keys es) k i
      by es i p (y, at) =
          let q = position-Some t (keys_of es) i y p in
          record {
            here = key_at es i y at ∙ ap Some (sym ((says y).0 (ap t (sym (get_or_from_slice_get (keys_of es) i y y at)) ∙ q.1)));
            before = λ j lt here.
                let w = at_key es j k here in
                false≢true (sym (q.2 j lt) ∙ ap t (get_or_from_slice_get (keys_of es) j w.0 y w.1) ∙ (says w.0).1 (sym w.2));
          }

  -- the place that a table of keys gives
  pub place_is : (es : List (K × V)) (r : Option ℕ) → r ≡ position t (keys_of es) → is_some r ≡ is_some (lookup t es) → MatchOption r (Contains (keys es) k → ⊥) (IsFirstAt (keys es) k)
  place_is es None p q = λ (j, lt, e). no_place es (sym q) j (slice_get-get_or (keys es) j k lt ∙ ap Some e)
  place_is es (Some i) p q = first_at es i (sym p)
