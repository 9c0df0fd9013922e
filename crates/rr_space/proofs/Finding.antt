-- The pair that a search finds is there, and no key is there twice.
use Rattle.std.proofs.Common.{◌≡◌, ℕ, zero, suc, ◌+◌, ◌*◌, ◌<◌, false, List, [], ◌∷◌, length, map, slice_get, Some, sym, ap, ◌∙◌, refl, arith}
use Rattle.std.specs.List.{IsDistinct}
use Rattle.std.specs.Map.{keys_of}
use Rattle.std.specs.Option.{option_map}
use Rattle.std.proofs.lemmas.Bool.{false≢true}
use Rattle.std.proofs.lemmas.Option.{slice_get-map, none-some}
use Rattle.rr_space.specs.Graph.{Label, Value, KeyAt, ValueAt}
use Rattle.rr_space.specs.Tables.{Table, numbered, numbered_triple, outer_objects}
use Rattle.rr_space.specs.Parts.{pairs_from, value_of, value_triple}
use Rattle.rr_space.specs.Views.{entry_key, slot_of, slot_object, StandsAt}
use Rattle.rr_space.specs.Kinds.{kind_at, object_kind}
use Rattle.rr_space.specs.Labels.{IsPairThere, triples_at, triples_of}
use Rattle.rr_space.specs.Lookups.{AreDistinct}
use Rattle.rr_space.specs.declared.refer.Ref.{Ref}
use Rattle.rr_space.specs.declared.refer.Ref.TheVariants.{Local}
use Rattle.rr_space.specs.declared.node.Held.TheVariants.{Forward}
use Rattle.rr_space.proofs.Carrying.{apart_at}
use Rattle.rr_space.proofs.Entering.{Entries}
use Rattle.rr_space.proofs.Keys.{key_eq, keys_decide}
use Rattle.rr_space.proofs.Parting.{hold_first, triples_here}
use Rattle.rr_space.proofs.Renaming.{mapped_at}

pair_at : (ps : List (Ref × Ref)) (j i : ℕ) → i < length ps
    → (p : Ref × Ref) × (slice_get (pairs_from j ps) (2 * i) ≡ Some (KeyAt (j + i), p.0)) × (slice_get (pairs_from j ps) (2 * i + 1) ≡ Some (ValueAt (j + i), p.1))
pair_at [] j i lt = absurd (let w : ⊥ = omega (arith, lt) in w)
pair_at (p ∷ ps) j zero lt =
    let z : j ≡ j + 0 = omega arith in
    (p, ap (λ n. Some (KeyAt n, p.0)) z, ap (λ n. Some (ValueAt n, p.1)) z)
pair_at (p ∷ ps) j (suc i) lt =
    let q = pair_at ps (j + 1) i (omega (arith, lt)) in
    let z : (j + 1) + i ≡ j + suc i = omega arith in
    let first : 2 * suc i ≡ suc (suc (2 * i)) = omega arith in
    let second : 2 * suc i + 1 ≡ suc (suc (2 * i + 1)) = omega arith in (
      q.0,
      ap (slice_get (pairs_from j (p ∷ ps))) first ∙ q.1 ∙ ap (λ n. Some (KeyAt n, q.0.0)) z,
      ap (slice_get (pairs_from j (p ∷ ps))) second ∙ q.2 ∙ ap (λ n. Some (ValueAt n, q.0.1)) z,
    )

pub pair_there : (ps : List (Ref × Ref)) (i : ℕ) → i < length ps → IsPairThere (map value_triple (pairs_from 0 ps)) i
pair_there ps i lt =
    let q = pair_at ps 0 i lt in
    let z : 0 + i ≡ i = omega arith in (
      value_of q.0.0,
      value_of q.0.1,
      slice_get-map value_triple (pairs_from 0 ps) (2 * i) ∙ ap (option_map value_triple) q.1 ∙ ap (λ n. Some (KeyAt n, value_of q.0.0)) z,
      slice_get-map value_triple (pairs_from 0 ps) (2 * i + 1) ∙ ap (option_map value_triple) q.2 ∙ ap (λ n. Some (ValueAt n, value_of q.0.1)) z,
    )

pub numbered_there : (c : ℕ) (ts : List (Label × Value)) (i : ℕ) → IsPairThere ts i → IsPairThere (map (numbered_triple c) ts) i
numbered_there c ts i h = (
  numbered c h.0,
  numbered c h.1,
  slice_get-map (numbered_triple c) ts (2 * i) ∙ ap (option_map (numbered_triple c)) h.2,
  slice_get-map (numbered_triple c) ts (2 * i + 1) ∙ ap (option_map (numbered_triple c)) h.3,
)

pub none_distinct : {A : Type 0} → AreDistinct {A = A} []
none_distinct = λ i j x at at2. absurd (none-some x at)

pub keys_distinct : (es : Entries) → IsDistinct key_eq (keys_of es) → AreDistinct (map entry_key es)
unfolding IsDistinct
keys_distinct [] d i j x at at2 = absurd (none-some x at)
keys_distinct (e ∷ es) d zero zero x at at2 = refl
keys_distinct (e ∷ es) d zero (suc j) x at at2 =
    let m = mapped_at entry_key es j x at2 in
    let first : Some (entry_key e) ≡ Some x = at in
    let same : entry_key e ≡ x = cc in
    absurd (false≢true (sym (apart_at (λ y. key_eq e.0 y ≡ false) es j m.0 d.0 m.1) ∙ (keys_decide e.0 m.0.0).1 (same ∙ sym m.2)))
keys_distinct (e ∷ es) d (suc i) zero x at at2 =
    let m = mapped_at entry_key es i x at in
    let first : Some (entry_key e) ≡ Some x = at2 in
    let same : entry_key e ≡ x = cc in
    absurd (false≢true (sym (apart_at (λ y. key_eq e.0 y ≡ false) es i m.0 d.0 m.1) ∙ (keys_decide e.0 m.0.0).1 (same ∙ sym m.2)))
keys_distinct (e ∷ es) d (suc i) (suc j) x at at2 = ap suc (keys_distinct es d.1 i j x at at2)

-- the object that a forward leads to
module _ (t : Table) (n p : ℕ) (v : Ref) (c : _) (is : v ≡ Local n) (s : StandsAt t n (Forward p c)) where
  pub forward_kind : kind_at t v ≡ object_kind (slice_get (outer_objects c.now) p)
  forward_kind = ap (kind_at t) is ∙ ap (λ x. object_kind (slot_object x (slice_get t.below n))) s.slot
      ∙ ap (λ x. object_kind (slot_object (Some (slot_of (Forward p c))) x)) s.below ∙ ap object_kind (hold_first c.now p)

  pub forward_triples : triples_at t v ≡ triples_of (slice_get (outer_objects c.now) p)
  forward_triples = triples_here t n v (Forward p c) is s ∙ ap triples_of (hold_first c.now p)
