-- What the first field of a name says of the references of its object.
use Rattle.std.proofs.Common.{◌≡◌, ℕ, zero, suc, List, [], ◌∷◌, map, slice_get, Some, Option, None, IfSome, IfNone, Contains, inl, ap, ◌∙◌, subst, sym}
use Rattle.std.specs.Option.{option_map}
use Rattle.std.proofs.lemmas.Option.{same_Some, none-some, slice_get-map, slice_get-get_or, slice_get_within, get_or_from_slice_get}
use Rattle.rr_base.specs.declared.name.Sym.{Sym}
use Rattle.rr_space.specs.Graph.{Label, Field, Value, Object}
use Rattle.rr_space.specs.Tables.{Table, joined}
use Rattle.rr_space.specs.Parts.{IsWithin, AllWithin, field_part, value_triple, value_of, below_parts}
use Rattle.rr_space.specs.Views.{IsFirstAt, IsKnownFrom, field_names}
use Rattle.rr_space.specs.Labels.{IsFirstUnder}
use Rattle.rr_space.specs.declared.refer.Ref.{Ref}
use Rattle.rr_space.specs.declared.label.Label.TheVariants.{Field as FieldCode}
use Rattle.rr_space.proofs.Knowing.{if_some, part_below}
use Rattle.rr_space.proofs.Within.{part_within}

-- the values of fields under their names
abbrev pub field_triples : List (Sym × Ref) → List (Label × Value)
field_triples fs = map value_triple (map field_part fs)

triple_name : (fs : List (Sym × Ref)) (j a : ℕ) (x : Value) → slice_get (field_triples fs) j ≡ Some (Field a, x) → slice_get (field_names fs) j ≡ Some a
triple_name [] j a x at = absurd (none-some (Field a, x) at)
triple_name (f ∷ fs) zero a x at =
    let w : Field f.0.0 ≡ Field a = ap (λ (t : Label × Value). t.0) (same_Some (Field f.0.0, value_of f.1) (Field a, x) at) in
    ap Some (let z : f.0.0 ≡ a = cc in z)
triple_name (f ∷ fs) (suc j) a x at = triple_name fs j a x at

module _ (fs : List (Sym × Ref)) (name : Sym) where
  -- the field that a search finds
  abbrev pub IsFound : Ref → Type 0
  IsFound r = (k : ℕ) × IsFirstAt (field_names fs) name.0 k × (slice_get (map field_part fs) k ≡ Some (Field name.0, r))

  triple_at : (k : ℕ) (r : Ref) → slice_get (map field_part fs) k ≡ Some (Field name.0, r) → slice_get (field_triples fs) k ≡ Some (Field name.0, value_of r)
  triple_at k r at = slice_get-map value_triple (map field_part fs) k ∙ ap (option_map value_triple) at

  first_under : (r : Ref) → IsFound r → IsFirstUnder (field_triples fs) (Field name.0) (value_of r)
  first_under r (k, first, at) = (k, triple_at k r at, λ j y lt found. first.before j lt (triple_name fs j name.0 y found))

  contained : (r : Ref) → IsFound r → Contains (field_triples fs) (Field name.0, value_of r)
  contained r (k, first, at) =
      let w = triple_at k r at in
      (k, slice_get_within (field_triples fs) k (Field name.0, value_of r) w, get_or_from_slice_get (field_triples fs) k (Field name.0, value_of r) (Field name.0, value_of r) w)

  absent : (Contains (field_names fs) name.0 → ⊥) → (x : Value) → Contains (field_triples fs) (Field name.0, x) → ⊥
  absent out x (j, lt, e) =
      let at = triple_name fs j name.0 x (slice_get-get_or (field_triples fs) j (Field name.0, x) lt ∙ ap Some e) in
      out (j, slice_get_within (field_names fs) j name.0 at, get_or_from_slice_get (field_names fs) j name.0 name.0 at)

  -- the same of a value whose triples they are
  module _ (r : Option Ref) (ts : List (Label × Value)) (is : ts ≡ field_triples fs) where
    pub read_some : IfSome r IsFound → IfSome r (λ x. Contains ts (Field name.0, value_of x))
    read_some = if_some r _ _ (λ x found. subst (λ (us : List (Label × Value)). Contains us (Field name.0, value_of x)) (sym is) (contained x found))

    pub read_first : IfSome r IsFound → IfSome r (λ x. IsFirstUnder ts (Field name.0) (value_of x))
    read_first = if_some r _ _ (λ x found. subst (λ (us : List (Label × Value)). IsFirstUnder us (Field name.0) (value_of x)) (sym is) (first_under x found))

    pub read_none : IfNone r (Contains (field_names fs) name.0 → ⊥) → IfNone r ((x : Value) → Contains ts (Field name.0, x) → ⊥)
    read_none = by r
      where
        by : (q : Option Ref) → IfNone q (Contains (field_names fs) name.0 → ⊥) → IfNone q ((x : Value) → Contains ts (Field name.0, x) → ⊥)
        by None out = λ x. subst (λ (us : List (Label × Value)). Contains us (Field name.0, x) → ⊥) (sym is) (absent out x)
        by (Some x) w = tt

  pub read_within : (m : ℕ) (r : Option Ref) → AllWithin m (map field_part fs) → IfSome r IsFound → IfSome r (IsWithin m)
  read_within m r all = if_some r _ _ (λ x (k, first, at). part_within m (map field_part fs) k (Some (FieldCode name, x)) all (sym at))

  pub read_known : (t : Table) (value : Ref) (r : Option Ref) → ((e : ℕ × List Object) → Contains (below_parts (map field_part fs)) e → Contains (joined t.below) e) → IfSome r IsFound → IfSome r (IsKnownFrom t value)
  read_known t value r known = if_some r _ _ (λ x (k, first, at) e has. inl (known e (part_below (map field_part fs) k (Some (FieldCode name, x)) (sym at) e has)))
