-- A field is set: in the place of the first of its name, or behind all others.
use Rattle.std.proofs.Common.{◌≡◌, ℕ, zero, suc, ◌<◌, ◌⊎◌, ⊎_elim, inl, inr, List, [], ◌∷◌, ◌++◌, map, Bool, true, false, Some, slice_get, slice_set, Contains, sym, ap, ◌∙◌, subst, refl, arith}
use Rattle.std.specs.Prelude.{nat_eq, if◌then◌else◌}
use Rattle.std.proofs.lemmas.Option.{same_Some}
use Rattle.rr_space.specs.Graph.{Name, Value, Label, Place, Field, KeyAt, ValueAt, Message, Cause, Ractor}
use Rattle.rr_space.specs.Tables.{renamed, renamed_triple}
use Rattle.rr_space.specs.Views.{IsFirstAt, label_part}
use Rattle.rr_space.proofs.Sounds.{none_in, in_first}
use Rattle.rr_world.specs.ObjectCases.{is_field, set_in}

later : {X : Type 0} (a : X) (xs : List X) (y : X) → Contains xs y → Contains (a ∷ xs) y
later a xs y (n, lt, e) = (suc n, omega (arith, lt), e)

same_number : (m n : ℕ) → nat_eq m n ≡ true → m ≡ n
same_number m n e = grind (arith, e)

number_same : (m : ℕ) → nat_eq m m ≡ true
number_same m = grind arith

is_that_field : (x : ℕ) (l : Label) → is_field x l ≡ true → l ≡ Field x
is_that_field x (Field y) e = ap Field (sym (same_number x y e))
is_that_field x (Place k) e = cc
is_that_field x (KeyAt k) e = cc
is_that_field x (ValueAt k) e = cc
is_that_field x Message e = cc
is_that_field x Cause e = cc
is_that_field x Ractor e = cc

is_no_other : (x : ℕ) (l : Label) → is_field x l ≡ false → l ≡ Field x → ⊥
is_no_other x l e same = let z : is_field x l ≡ true = ap (is_field x) same ∙ number_same x in let y : false ≡ true = sym e ∙ z in cc

abbrev IsThere : ℕ → List (Label × Value) → Type 0
IsThere x ts = (i : ℕ) × IsFirstAt (map label_part ts) (Field x) i × ((v : Value) → set_in x v ts ≡ slice_set ts i (Field x, v))

abbrev IsMissing : ℕ → List (Label × Value) → Type 0
IsMissing x ts = (Contains (map label_part ts) (Field x) → ⊥) × ((v : Value) → set_in x v ts ≡ ts ++ (Field x, v) ∷ [])

chosen : (x : ℕ) (t : Label × Value) (ts : List (Label × Value)) (v : Value) (b : Bool) → is_field x t.0 ≡ b → set_in x v (t ∷ ts) ≡ (if b then (Field x, v) ∷ ts else t ∷ set_in x v ts)
chosen x t ts v b e = ap (λ (c : Bool). if c then (Field x, v) ∷ ts else t ∷ set_in x v ts) e

not_before : (x : ℕ) (t : Label × Value) (ts : List (Label × Value)) (i : ℕ) → is_field x t.0 ≡ false → IsFirstAt (map label_part ts) (Field x) i
    → (j : ℕ) → j < suc i → slice_get (map label_part (t ∷ ts)) j ≡ Some (Field x) → ⊥
not_before x t ts i e first zero lt h = is_no_other x t.0 e (same_Some _ _ h)
not_before x t ts i e first (suc j) lt h = first.before j (omega (arith, lt)) h

one_more : (x : ℕ) (t : Label × Value) (ts : List (Label × Value)) (b : Bool) → is_field x t.0 ≡ b → IsThere x ts ⊎ IsMissing x ts → IsThere x (t ∷ ts) ⊎ IsMissing x (t ∷ ts)
one_more x t ts true e rest = inl (0, record { here = ap (λ l. Some l) (is_that_field x t.0 e); before = λ j lt h. absurd (omega (arith, lt)) }, λ v. chosen x t ts v true e)
one_more x t ts false e (inl (i, first, is)) = inl (suc i, record { here = first.here; before = not_before x t ts i e first }, λ v. chosen x t ts v false e ∙ ap (λ us. t ∷ us) (is v))
one_more x t ts false e (inr (none, is)) = inr (
  λ has. ⊎_elim (λ one. is_no_other x t.0 e one) (λ old. none old) (in_first (label_part t) (map label_part ts) (Field x) has),
  λ v. chosen x t ts v false e ∙ ap (λ us. t ∷ us) (is v),
)

-- the field is there, at a first place, or not at all
pub field_cases : (x : ℕ) (ts : List (Label × Value)) → IsThere x ts ⊎ IsMissing x ts
field_cases x [] = inr (λ has. none_in (Field x) has, λ v. refl)
field_cases x (t ∷ ts) = one_more x t ts (is_field x t.0) refl (field_cases x ts)

renamed_more : (f : Name → Name) (x : ℕ) (v : Value) (t : Label × Value) (ts : List (Label × Value)) (b : Bool) → is_field x t.0 ≡ b
    → map (renamed_triple f) (set_in x v ts) ≡ set_in x (renamed f v) (map (renamed_triple f) ts)
    → map (renamed_triple f) (set_in x v (t ∷ ts)) ≡ set_in x (renamed f v) (map (renamed_triple f) (t ∷ ts))
renamed_more f x v t ts true e rest = ap (map (renamed_triple f)) (chosen x t ts v true e) ∙ sym (chosen x (renamed_triple f t) (map (renamed_triple f) ts) (renamed f v) true e)
renamed_more f x v t ts false e rest =
    ap (map (renamed_triple f)) (chosen x t ts v false e) ∙ ap (λ us. renamed_triple f t ∷ us) rest
    ∙ sym (chosen x (renamed_triple f t) (map (renamed_triple f) ts) (renamed f v) false e)

-- names do not matter to where it is set
pub set_renamed : (f : Name → Name) (x : ℕ) (v : Value) (ts : List (Label × Value)) → map (renamed_triple f) (set_in x v ts) ≡ set_in x (renamed f v) (map (renamed_triple f) ts)
set_renamed f x v [] = refl
set_renamed f x v (t ∷ ts) = renamed_more f x v t ts (is_field x t.0) refl (set_renamed f x v ts)

more_values : (x : ℕ) (v : Value) (t : Label × Value) (ts : List (Label × Value)) (l : Label) (u : Value) (b : Bool) → is_field x t.0 ≡ b
    → (Contains (set_in x v ts) (l, u) → ((j : Label) × Contains ts (j, u)) ⊎ (u ≡ v)) → Contains (set_in x v (t ∷ ts)) (l, u) → ((j : Label) × Contains (t ∷ ts) (j, u)) ⊎ (u ≡ v)
more_values x v t ts l u true e rest has = ⊎_elim
    (λ one. inr (sym (ap (λ (z : Label × Value). z.1) one)))
    (λ old. inl (l, later t ts (l, u) old))
    (in_first (Field x, v) ts (l, u) (subst (λ zs. Contains zs (l, u)) (chosen x t ts v true e) has))
more_values x v t ts l u false e rest has = ⊎_elim
    (λ one. inl (l, subst (λ y. Contains (t ∷ ts) y) one (0, omega arith, refl)))
    (λ old. ⊎_elim (λ z. inl (z.0, later t ts (z.0, u) z.1)) (λ z. inr z) (rest old))
    (in_first t (set_in x v ts) (l, u) (subst (λ zs. Contains zs (l, u)) (chosen x t ts v false e) has))

-- each value was there, or is the one that came
pub field_values : (x : ℕ) (v : Value) (ts : List (Label × Value)) (l : Label) (u : Value) → Contains (set_in x v ts) (l, u) → ((j : Label) × Contains ts (j, u)) ⊎ (u ≡ v)
field_values x v [] l u has = ⊎_elim (λ one. inr (sym (ap (λ (t : Label × Value). t.1) one))) (λ none. absurd (none_in (l, u) none)) (in_first (Field x, v) [] (l, u) has)
field_values x v (t ∷ ts) l u has = more_values x v t ts l u (is_field x t.0) refl (λ h. field_values x v ts l u h) has
