-- Fields by their names, and the nodes that they are of.
use Rattle.std.proofs.Common.{◌≡◌, ℕ, zero, suc, ◌<◌, ◌==◌, ◌⊎◌, ⊎_elim, inl, inr, true, false, List, [], ◌∷◌, ◌++◌, length, map, slice_get, slice_set, get_or, Some, Result, Ok, Err, IsOk, IfOk, IfErr, Contains, refl, ap, ◌∙◌, sym, subst, arith}
use Rattle.std.proofs.lemmas.Bool.Decides.{eqb_tells}
use Rattle.std.proofs.lemmas.List.Elements.{Contains-append_right}
use Rattle.std.proofs.lemmas.Option.{same_Some, none-some, slice_get-get_or, get_or_from_slice_get, slice_get_within}
use Rattle.rr_base.specs.declared.name.Sym.{Sym}
use Rattle.rr_space.specs.Graph.{Label, Field, Message, Cause, Ractor, Object}
use Rattle.rr_space.specs.Parts.{Parts, field_part, value_triple, below_ref, below_parts}
use Rattle.rr_space.specs.Views.{IsWithin, AllWithin}
use Rattle.rr_space.specs.Views.{IsFirstAt, label_part, ref_label, field_names}
use Rattle.rr_space.specs.declared.refer.Ref.{Ref}
use Rattle.rr_space.proofs.Placing.{map_set}
use Rattle.rr_space.proofs.Writing.{map_push, parts_set, parts_push, below_set, below_push}

pub later : {A : Type 0} (y x : A) (xs : List A) (i : ℕ) → IsFirstAt (y ∷ xs) x (suc i) → IsFirstAt xs x i
later y x xs i w = record { here = w.here; before = λ j lt. w.before (suc j) (omega (arith, lt)) }

-- there is but one first place
pub first_same : {A : Type 0} (xs : List A) (x : A) (i j : ℕ) → IsFirstAt xs x i → IsFirstAt xs x j → i ≡ j
first_same [] x i j v w = absurd (none-some x v.here)
first_same (y ∷ xs) x zero zero v w = refl
first_same (y ∷ xs) x zero (suc j) v w = absurd (w.before 0 (omega arith) v.here)
first_same (y ∷ xs) x (suc i) zero v w = absurd (v.before 0 (omega arith) w.here)
first_same (y ∷ xs) x (suc i) (suc j) v w = ap suc (first_same xs x i j (later y x xs i v) (later y x xs j w))

pub first_contains : {A : Type 0} (xs : List A) (x : A) (i : ℕ) → IsFirstAt xs x i → Contains xs x
first_contains xs x i w = (i, slice_get_within xs i x w.here, get_or_from_slice_get xs i x x w.here)

-- what no place has is not there
pub contains_at : {A : Type 0} (xs : List A) (x : A) → ((j : ℕ) → j < length xs → slice_get xs j ≡ Some x → ⊥) → Contains xs x → ⊥
contains_at xs x none (j, lt, e) = none j lt (slice_get-get_or xs j x lt ∙ ap Some e)

pub length-field_names : (fs : List (Sym × Ref)) → length (field_names fs) ≡ length fs
length-field_names [] = refl
length-field_names (f ∷ fs) = ap suc (length-field_names fs)

pub name_at : (fs : List (Sym × Ref)) (k : ℕ) (f : Sym × Ref) → k < length fs → f ≡ get_or fs k f → slice_get (field_names fs) k ≡ Some f.0.0
name_at [] k f lt e = absurd (let w : ⊥ = omega (arith, lt) in w)
name_at (g ∷ fs) zero f lt e = ap (λ (h : Sym × Ref). Some h.0.0) (sym e)
name_at (g ∷ fs) (suc k) f lt e = name_at fs k f (omega (arith, lt)) e

abbrev pub labels : List (Sym × Ref) → List Label
labels fs = map ref_label (map field_part fs)

named : (fs : List (Sym × Ref)) (i a : ℕ) → slice_get (labels fs) i ≡ Some (Field a) → slice_get (field_names fs) i ≡ Some a
named [] i a e = absurd (none-some (Field a) e)
named (f ∷ fs) zero a e = let w : Field f.0.0 ≡ Field a = same_Some (Field f.0.0) (Field a) e in ap Some (let z : f.0.0 ≡ a = cc in z)
named (f ∷ fs) (suc i) a e = named fs i a e

labelled_at : (fs : List (Sym × Ref)) (i a : ℕ) → slice_get (field_names fs) i ≡ Some a → slice_get (labels fs) i ≡ Some (Field a)
labelled_at [] i a e = absurd (none-some a e)
labelled_at (f ∷ fs) zero a e = ap (λ n. Some (Field n)) (same_Some f.0.0 a e)
labelled_at (f ∷ fs) (suc i) a e = labelled_at fs i a e

first_named : (fs : List (Sym × Ref)) (i a : ℕ) → IsFirstAt (labels fs) (Field a) i → IsFirstAt (field_names fs) a i
first_named fs i a w = record { here = named fs i a w.here; before = λ j lt e. w.before j lt (labelled_at fs j a e) }

unnamed : (fs : List (Sym × Ref)) (a : ℕ) → (Contains (labels fs) (Field a) → ⊥) → Contains (field_names fs) a → ⊥
unnamed fs a out = contains_at (field_names fs) a (λ j lt e. out (let w = labelled_at fs j a e in (j, slice_get_within (labels fs) j (Field a) w, get_or_from_slice_get (labels fs) j (Field a) (Field a) w)))

-- what setting a field does to the fields
pub record SetsField {A E : Type 0} (old new : List (Sym × Ref)) (name : Sym) (v : Ref) (r : Result A E) : Type 0 where
  pub present : (i : ℕ) → IsFirstAt (field_names old) name.0 i → IsOk r × (new ≡ slice_set old i (name, v))
  pub absent : (Contains (field_names old) name.0 → ⊥) → IfOk r (λ _. new ≡ old ++ (name, v) ∷ [])
  pub refused : IfErr r (λ _. new ≡ old)

module _ {A E : Type 0} (old new : List (Sym × Ref)) (name : Sym) (v : Ref) (r : Result A E) (s : SetsField old new name v r) where
  abbrev was : Parts
  was = map field_part old

  abbrev is_now : Parts
  is_now = map field_part new

  pub object_present : (i : ℕ) → IsFirstAt (map ref_label was) (Field name.0) i → IsOk r × (is_now ≡ slice_set was i (Field name.0, v))
  object_present i w = let p = s.present i (first_named old i name.0 w) in (p.0, ap (map field_part) p.1 ∙ map_set field_part old i (name, v))

  pub object_absent : (Contains (map ref_label was) (Field name.0) → ⊥) → IfOk r (λ _. is_now ≡ was ++ (Field name.0, v) ∷ [])
  object_absent out = by r (s.absent (unnamed old name.0 out))
    where
      by : (q : Result A E) → IfOk q (λ _. new ≡ old ++ (name, v) ∷ []) → IfOk q (λ _. is_now ≡ was ++ (Field name.0, v) ∷ [])
      by (Ok a) e = ap (map field_part) e ∙ map_push field_part old (name, v)
      by (Err e) w = tt

found : (ns : List ℕ) (a : ℕ) → ((i : ℕ) × IsFirstAt ns a i) ⊎ (Contains ns a → ⊥)
found [] a = inr (λ (i, lt, e). let w : ⊥ = omega (arith, lt) in w)
found (n ∷ ns) a = by (eqb_tells n a) (found ns a)
  where
    by : ((n == a) ≡ true) × (n ≡ a) ⊎ ((n == a) ≡ false) × (n ≡ a → ⊥) → ((i : ℕ) × IsFirstAt ns a i) ⊎ (Contains ns a → ⊥) → ((i : ℕ) × IsFirstAt (n ∷ ns) a i) ⊎ (Contains (n ∷ ns) a → ⊥)
    by (inl e) rest = inl (0, record { here = ap Some e.1; before = λ j lt at. let w : ⊥ = omega (arith, lt) in w })
    by (inr e) (inl (i, w)) = inl (suc i, record { here = w.here; before = λ j lt at. earlier j lt at })
      where
        earlier : (j : ℕ) → j < suc i → slice_get (n ∷ ns) j ≡ Some a → ⊥
        earlier zero lt at = e.1 (same_Some n a at)
        earlier (suc j) lt at = w.before j (omega (arith, lt)) at
    by (inr e) (inr out) = inr (contains_at (n ∷ ns) a (λ j lt at. nowhere j lt at))
      where
        nowhere : (j : ℕ) → j < length (n ∷ ns) → slice_get (n ∷ ns) j ≡ Some a → ⊥
        nowhere zero lt at = e.1 (same_Some n a at)
        nowhere (suc j) lt at = out (j, omega (arith, lt), get_or_from_slice_get ns j a a at)

-- the references are as they were, or one of them is another, or one is behind them
pub data Written (old new : Parts) (t : Label × Ref) : Type 0 where
  Same : (is : new ≡ old) → Written old new t
  Set : (i : ℕ) (is : new ≡ slice_set old i t) → Written old new t
  Pushed : (is : new ≡ old ++ t ∷ []) → Written old new t

behind : (x : Label × Ref) (old new : Parts) (t : Label × Ref) → Written old new t → Written (x ∷ old) (x ∷ new) t
behind x old new t (Same is) = Same (ap (λ ts. x ∷ ts) is)
behind x old new t (Set i is) = Set (suc i) (ap (λ ts. x ∷ ts) is)
behind x old new t (Pushed is) = Pushed (ap (λ ts. x ∷ ts) is)

pub written_within : (m : ℕ) (old new : Parts) (t : Label × Ref) → Written old new t → AllWithin m old → IsWithin m t.1 → AllWithin m new
written_within m old new t (Same is) all w = subst (AllWithin m) (sym is) all
written_within m old new t (Set i is) all w = subst (AllWithin m) (sym is) (parts_set m old i t all w)
written_within m old new t (Pushed is) all w = subst (AllWithin m) (sym is) (parts_push m old t all w)

pub written_below : (old new : Parts) (t : Label × Ref) → Written old new t → (e : ℕ × List Object) → Contains (below_parts new) e → Contains (below_parts old) e ⊎ Contains (below_ref t.1) e
written_below old new t (Same is) e has = inl (subst (λ (ts : Parts). Contains (below_parts ts) e) is has)
written_below old new t (Set i is) e has = below_set old i t e (subst (λ (ts : Parts). Contains (below_parts ts) e) is has)
written_below old new t (Pushed is) e has = below_push old t e (subst (λ (ts : Parts). Contains (below_parts ts) e) is has)

module _ {A E : Type 0} (old new : List (Sym × Ref)) (name : Sym) (v : Ref) where
  pub written : (r : Result A E) → SetsField old new name v r → Written (map field_part old) (map field_part new) (Field name.0, v)
  written r s = ⊎_elim (λ (i, w). Set i (ap (map field_part) (s.present i w).1 ∙ map_set field_part old i (name, v))) (λ out. by r s.refused (s.absent out)) (found (field_names old) name.0)
    where
      by : (q : Result A E) → IfErr q (λ _. new ≡ old) → IfOk q (λ _. new ≡ old ++ (name, v) ∷ []) → Written (map field_part old) (map field_part new) (Field name.0, v)
      by (Ok a) same more = Pushed (ap (map field_part) more ∙ map_push field_part old (name, v))
      by (Err e) same more = Same (ap (map field_part) same)

  -- an exception has its message, its cause and its ractor before its fields
  pub raised_written : (x y z : Label × Ref) (r : Result A E) → SetsField old new name v r → Written (x ∷ y ∷ z ∷ map field_part old) (x ∷ y ∷ z ∷ map field_part new) (Field name.0, v)
  raised_written x y z r s = behind x (y ∷ z ∷ map field_part old) (y ∷ z ∷ map field_part new) (Field name.0, v)
      (behind y (z ∷ map field_part old) (z ∷ map field_part new) (Field name.0, v) (behind z (map field_part old) (map field_part new) (Field name.0, v) (written r s)))

  pub raised_present : (x y z : Ref) (r : Result A E) → SetsField old new name v r → (i : ℕ)
      → IsFirstAt (map ref_label ((Message, x) ∷ (Cause, y) ∷ (Ractor, z) ∷ map field_part old)) (Field name.0) i
      → IsOk r × ◌≡◌ {A = Parts} ((Message, x) ∷ (Cause, y) ∷ (Ractor, z) ∷ map field_part new) (slice_set ((Message, x) ∷ (Cause, y) ∷ (Ractor, z) ∷ map field_part old) i (Field name.0, v))
  raised_present x y z r s zero w = absurd (let e : Message ≡ Field name.0 = same_Some Message (Field name.0) w.here in let f : ⊥ = cc in f)
  raised_present x y z r s (suc zero) w = absurd (let e : Cause ≡ Field name.0 = same_Some Cause (Field name.0) w.here in let f : ⊥ = cc in f)
  raised_present x y z r s (suc (suc zero)) w = absurd (let e : Ractor ≡ Field name.0 = same_Some Ractor (Field name.0) w.here in let f : ⊥ = cc in f)
  raised_present x y z r s (suc (suc (suc i))) w =
      let ls = labels old in
      let p = object_present old new name v r s i (later Ractor (Field name.0) ls i (later Cause (Field name.0) (Ractor ∷ ls) (suc i) (later Message (Field name.0) (Cause ∷ Ractor ∷ ls) (suc (suc i)) w))) in
      (p.0, ap (λ (ts : Parts). (Message, x) ∷ (Cause, y) ∷ (Ractor, z) ∷ ts) p.1)

  pub raised_absent : (x y z : Ref) (r : Result A E) → SetsField old new name v r
      → (Contains (map ref_label ((Message, x) ∷ (Cause, y) ∷ (Ractor, z) ∷ map field_part old)) (Field name.0) → ⊥)
      → IfOk r (λ _. ◌≡◌ {A = Parts} ((Message, x) ∷ (Cause, y) ∷ (Ractor, z) ∷ map field_part new) (((Message, x) ∷ (Cause, y) ∷ (Ractor, z) ∷ map field_part old) ++ (Field name.0, v) ∷ []))
  raised_absent x y z r s out = by r (object_absent old new name v r s (λ has. out (Contains-append_right (Message ∷ Cause ∷ Ractor ∷ []) (labels old) (Field name.0) has)))
    where
      by : (q : Result A E) → IfOk q (λ _. map field_part new ≡ map field_part old ++ (Field name.0, v) ∷ [])
          → IfOk q (λ _. ◌≡◌ {A = Parts} ((Message, x) ∷ (Cause, y) ∷ (Ractor, z) ∷ map field_part new) (((Message, x) ∷ (Cause, y) ∷ (Ractor, z) ∷ map field_part old) ++ (Field name.0, v) ∷ []))
      by (Ok a) e = ap (λ (ts : Parts). (Message, x) ∷ (Cause, y) ∷ (Ractor, z) ∷ ts) e
      by (Err e) w = tt

pub labels_same : (ts : Parts) → map label_part (map value_triple ts) ≡ map ref_label ts
labels_same [] = refl
labels_same (t ∷ ts) = ap (λ ls. t.0 ∷ ls) (labels_same ts)
