-- Fields that are found and set.
use Rattle.std.proofs.Common.{◌≡◌, ◌∙◌, ◌⊎◌, ⊎_elim, inl, inr, ◌<◌, ℕ, zero, suc, Bool, true, false, cond, if◌then◌else◌, List, [], ◌∷◌, ◌++◌, length, map, slice_get, slice_set, Some, None, Contains, find, get_or, refl, sym, ap, arith}
use Rattle.std.specs.Option.{option_map}
use Rattle.std.proofs.lemmas.Bool.{false≢true, eqb-true, eq-eqb, cases_Bool, false_from_ne_true}
use Rattle.std.proofs.lemmas.Option.{none-some, same_Some}
use Rattle.rr_space.specs.Graph.{Value, Label, Place, Field, KeyAt, ValueAt, Message, Cause, Ractor, Object}
use Rattle.rr_space.specs.Tables.{Table, Slot, Here, Below}
use Rattle.rr_space.specs.Kinds.{kind_at, class_at}
use Rattle.rr_space.specs.Labels.{IsFirstUnder}
use Rattle.rr_space.specs.Views.{IsFirstAt, label_part}
use Rattle.rr_space.specs.declared.kind.Kind.{Kind}
use Rattle.rr_space.specs.declared.kind.Kind.TheVariants as kind
use Rattle.rr_space.specs.declared.refer.Ref.{Ref}
use Rattle.rr_text.specs.Comparing.{part_value}
use Rattle.rr_text.specs.Reads.{IsReadWith}
use Rattle.rr_builtin.specs.declared.problem.Problem.{Problem}
use Rattle.rr_builtin.specs.declared.problem.Problem.TheVariants.{Frozen, Moved}
use Rattle.rr_builtin.specs.declared.built.Built.TheVariants as built
use Rattle.rr_builtin.specs.Acts.{Gives, Raises, changed, IsDone}
use Rattle.rr_builtin.specs.Kinds.{is_shell_kind}
use Rattle.rr_builtin.specs.Fields.{is_field, is_under, field_in, has_fields, with_field_in, with_field, can_set, set_field}
use Rattle.rr_builtin.proofs.Serving.{rest_same}

-- ---- Fields by their names.

label_is : (name : ℕ) (l : Label) → is_field name l ≡ true → l ≡ Field name
label_is name (Field n) e = ap Field (eqb-true n name e)
label_is name (Place k) e = absurd (false≢true e)
label_is name (KeyAt k) e = absurd (false≢true e)
label_is name (ValueAt k) e = absurd (false≢true e)
label_is name Message e = absurd (false≢true e)
label_is name Cause e = absurd (false≢true e)
label_is name Ractor e = absurd (false≢true e)

label_not : (name : ℕ) (l : Label) → is_field name l ≡ false → l ≡ Field name → ⊥
label_not name l e is = false≢true (sym e ∙ ap (is_field name) is ∙ eq-eqb name name refl)

module _ (name : ℕ) where
  found_from : (x : Value) (ts : List (Label × Value)) (k : ℕ) → slice_get ts k ≡ Some (Field name, x) → ((j : ℕ) (y : Value) → j < k → slice_get ts j ≡ Some (Field name, y) → ⊥)
      → field_in name ts ≡ Some x
  found_from x [] k here before = absurd (none-some (Field name, x) here)
  found_from x (t ∷ ts) zero here before =
      ap (λ (s : Label × Value). field_in name (s ∷ ts)) (same_Some t (Field name, x) here)
      ∙ ap (λ (b : Bool). option_map part_value (cond b (Some (Field name, x)) (find (is_under name) ts))) (eq-eqb name name refl)
  found_from x ((l, y) ∷ ts) (suc k) here before =
      ap (λ (b : Bool). option_map part_value (cond b (Some (l, y)) (find (is_under name) ts)))
      (false_from_ne_true (is_field name l) (λ e. before 0 y (omega arith) (ap (λ (m : Label). Some (m, y)) (label_is name l e))))
      ∙ found_from x ts k here (λ j z lt at. before (suc j) z (omega (arith, lt)) at)

  -- the first value under the label of a field
  pub first_found : (x : Value) (ts : List (Label × Value)) → IsFirstUnder ts (Field name) x → field_in name ts ≡ Some x
  first_found x ts first = found_from x ts first.0 first.1 first.2

  -- no value is under it
  pub none_found : (ts : List (Label × Value)) → ((x : Value) → Contains ts (Field name, x) → ⊥) → field_in name ts ≡ None
  none_found [] out = refl
  none_found ((l, y) ∷ ts) out =
      ap (λ (b : Bool). option_map part_value (cond b (Some (l, y)) (find (is_under name) ts)))
      (false_from_ne_true (is_field name l) (λ e. out y (0, omega arith, ap (λ (m : Label). (m, y)) (label_is name l e))))
      ∙ none_found ts (λ x (k, lt, e). out x (suc k, omega (arith, lt), e))

  -- ---- Fields that are set.

  module _ (x : Value) where
    pub place_of_field : (ts : List (Label × Value)) → ((i : ℕ) × IsFirstAt (map label_part ts) (Field name) i × (slice_set ts i (Field name, x) ≡ with_field_in name x ts))
        ⊎ ((Contains (map label_part ts) (Field name) → ⊥) × (ts ++ (Field name, x) ∷ [] ≡ with_field_in name x ts))
    place_of_field [] = inr (λ (i, lt, e). let w : ⊥ = omega (arith, lt) in w, refl)
    place_of_field (t ∷ ts) = by (cases_Bool (is_field name t.0)) (place_of_field ts)
      where
        by : (is_field name t.0 ≡ true) ⊎ (is_field name t.0 ≡ false)
            → ((i : ℕ) × IsFirstAt (map label_part ts) (Field name) i × (slice_set ts i (Field name, x) ≡ with_field_in name x ts))
            ⊎ ((Contains (map label_part ts) (Field name) → ⊥) × (ts ++ (Field name, x) ∷ [] ≡ with_field_in name x ts))
            → ((i : ℕ) × IsFirstAt (map label_part (t ∷ ts)) (Field name) i × (slice_set (t ∷ ts) i (Field name, x) ≡ with_field_in name x (t ∷ ts)))
            ⊎ ((Contains (map label_part (t ∷ ts)) (Field name) → ⊥) × ((t ∷ ts) ++ (Field name, x) ∷ [] ≡ with_field_in name x (t ∷ ts)))
        by (inl e) rest =
            inl (
              0,
              record { here = ap Some (label_is name t.0 e); before = λ j lt at. let w : ⊥ = omega (arith, lt) in w },
              ap (λ (b : Bool). if b then (Field name, x) ∷ ts else t ∷ with_field_in name x ts) (sym e),
            )
        by (inr e) (inl (i, first, is)) =
            inl (
              suc i,
              record { here = first.here; before = λ j lt at. earlier j lt at },
              ap (λ us. t ∷ us) is ∙ ap (λ (b : Bool). if b then (Field name, x) ∷ ts else t ∷ with_field_in name x ts) (sym e),
            )
          where
            earlier : (j : ℕ) → j < suc i → slice_get (map label_part (t ∷ ts)) j ≡ Some (Field name) → ⊥
            earlier zero lt at = label_not name t.0 e (same_Some t.0 (Field name) at)
            earlier (suc j) lt at = first.before j (omega (arith, lt)) at
        by (inr e) (inr (out, is)) =
            inr (
              λ (i, lt, at). nowhere i lt at,
              ap (λ us. t ∷ us) is ∙ ap (λ (b : Bool). if b then (Field name, x) ∷ ts else t ∷ with_field_in name x ts) (sym e),
            )
          where
            nowhere : (i : ℕ) → i < length (map label_part (t ∷ ts)) → get_or (map label_part (t ∷ ts)) i (Field name) ≡ Field name → ⊥
            nowhere zero lt at = label_not name t.0 e at
            nowhere (suc i) lt at = out (i, omega (arith, lt), at)

    -- what a write leaves
    pub field_written : (old new : List Slot) (n : ℕ) (o : Object)
        → ((i : ℕ) → IsFirstAt (map label_part o.triples) (Field name) i → new ≡ slice_set old n (Here (record o { triples = slice_set o.triples i (Field name, x) })))
        → ((Contains (map label_part o.triples) (Field name) → ⊥) → new ≡ slice_set old n (Here (record o { triples = o.triples ++ (Field name, x) ∷ [] })))
        → new ≡ slice_set old n (Here (with_field name x o))
    field_written old new n o present absent = ⊎_elim
        (λ p. present p.0 p.1 ∙ ap (λ ts. slice_set old n (Here (record o { triples = ts }))) p.2)
        (λ p. absent p.0 ∙ ap (λ ts. slice_set old n (Here (record o { triples = ts }))) p.1)
        (place_of_field o.triples)

pub kinds_with_fields : (k : Kind) → has_fields k ≡ true → (k ≡ kind.Object) ⊎ (k ≡ kind.Exception)
kinds_with_fields kind.Object e = inl refl
kinds_with_fields kind.Exception e = inr refl
kinds_with_fields kind.Nil e = absurd (false≢true e)
kinds_with_fields kind.Truth e = absurd (false≢true e)
kinds_with_fields kind.Integer e = absurd (false≢true e)
kinds_with_fields kind.Symbol e = absurd (false≢true e)
kinds_with_fields kind.Class e = absurd (false≢true e)
kinds_with_fields kind.Ractor e = absurd (false≢true e)
kinds_with_fields kind.Text e = absurd (false≢true e)
kinds_with_fields kind.Array e = absurd (false≢true e)
kinds_with_fields kind.Hash e = absurd (false≢true e)
kinds_with_fields kind.Shell e = absurd (false≢true e)

-- ---- What an exception in the place of an act leaves.

pub raised_done : (below : Below) (t : Table) (p : Problem) → IsReadWith t below → IsDone below (Raises p, t) t t (built.Raised p)
raised_done below t p read = record { outcome = refl; slots = refl; keys = refl; rest = rest_same t; read = read; within = tt; among = tt }

module _ (name : ℕ) (x : Value) (v : Ref) (t : Table) where
  pub set_moved : is_shell_kind (kind_at t v) ≡ true → set_field name x v t ≡ (Raises Moved, t)
  set_moved e = ap (λ (b : Bool). if b then (Raises Moved, t) else (if can_set t v then (Gives x, changed (with_field name x) v t) else (Raises (Frozen (class_at t v)), t))) e

  pub set_written : is_shell_kind (kind_at t v) ≡ false → can_set t v ≡ true → set_field name x v t ≡ (Gives x, changed (with_field name x) v t)
  set_written e can =
      ap (λ (b : Bool). if b then (Raises Moved, t) else (if can_set t v then (Gives x, changed (with_field name x) v t) else (Raises (Frozen (class_at t v)), t))) e
      ∙ ap (λ (b : Bool). if b then (Gives x, changed (with_field name x) v t) else (Raises (Frozen (class_at t v)), t)) can

  pub set_frozen : is_shell_kind (kind_at t v) ≡ false → can_set t v ≡ false → set_field name x v t ≡ (Raises (Frozen (class_at t v)), t)
  set_frozen e can =
      ap (λ (b : Bool). if b then (Raises Moved, t) else (if can_set t v then (Gives x, changed (with_field name x) v t) else (Raises (Frozen (class_at t v)), t))) e
      ∙ ap (λ (b : Bool). if b then (Gives x, changed (with_field name x) v t) else (Raises (Frozen (class_at t v)), t)) can
