-- What stands in the slots of a published plan is what stands in its cluster.
use Rattle.std.proofs.Common.{◌≡◌, ℕ, ⊎_elim, List, [], ◌∷◌, map, Option, Some, None, slice_get, Contains, sym, ap, ◌∙◌, subst, refl, arith}
use Rattle.std.specs.Prelude.{slice_index}
use Rattle.std.specs.List.{AllZip}
use Rattle.std.proofs.lemmas.Option.{same_Some}
use Rattle.rr_space.specs.Graph.{Own, Published, Value, Plain, At, Label, Object, Matches, SameTriple, SameValue, IsAt}
use Rattle.rr_space.specs.Tables.{Slot, Here, Led, numbered_object, outer_objects, renamed_triple, resolve, resolve_slot, resolve_triple, resolve_object}
use Rattle.rr_space.specs.Readings.{Space, Shared, Owned, Objects, Naming, Reads as TableReads, named, name_in}
use Rattle.rr_space.proofs.Renaming.{at_contains, map_at, mapped_at}
use Rattle.rr_space.proofs.Shares.{same_object}
use Rattle.rr_world.specs.Views.{PublishedPlan, Member, Assembly, IsPublishedFit, seen_slots, seen_through}
use Rattle.rr_world.specs.Layouts.{layout, IsRead}
use Rattle.rr_world.specs.Readings.{value_in}
use Rattle.rr_world.proofs.Forwarding.{IsOut, seen_forwards, seen_out}
use Rattle.rr_world.proofs.Published.{outer_named}
use Rattle.rr_world.proofs.Seeing.{space_table}
use Rattle.rr_space.proofs.Keeping.{list_has}

-- a forward of the space is none of a published plan
pub forward_out : (m : Member) (x : Option PublishedPlan) → IsPublishedFit m.space x → (i c q : ℕ) → slice_get m.space.slots i ≡ Some (Led c q) → IsOut x i
forward_out m None fit i c q at = tt
forward_out m (Some p) fit i c q at = λ has.
    let j = at_contains p.places i has in
    let s = fit.same i j.0 j.1 in
    let z : Here s.0 ≡ Led c q = same_Some _ _ (sym s.2 ∙ at) in let y : ⊥ = cc in y

pub forward_seen : (m : Member) → IsPublishedFit m.space m.published → (i c q : ℕ) → slice_get m.space.slots i ≡ Some (Led c q) → slice_get (seen_slots m) i ≡ Some (Led c q)
forward_seen m fit i c q at = seen_out m.space m.published i fit (forward_out m m.published fit i c q at) ∙ at

module _ (w : Assembly) (names : Naming) (bound : ℕ) (g : Objects) (R : IsRead w names bound g) (k : ℕ) (m : Member) (at : slice_get w.ractors k ≡ Some m) (fit : IsPublishedFit m.space m.published) where
  reads : TableReads (layout w) names g (Space k) (seen_slots m)
  reads = R.tables.reads (Space k) (seen_slots m) (space_table w k m at)

  -- a value has one name with and without its forward followed
  pub followed : (x : Value) → value_in names (Space k) (resolve m.space.slots x) ≡ value_in names (Space k) x
  followed (Plain n) = refl
  followed (At (Published d q)) = refl
  followed (At (Own i)) = on (slice_get m.space.slots i) refl
    where
      on : (y : Option Slot) → slice_get m.space.slots i ≡ y → value_in names (Space k) (At (resolve_slot (slice_get m.space.slots i) i)) ≡ At (Own (slice_index (names (Space k)) i))
      on None e = ap (λ z. value_in names (Space k) (At (resolve_slot z i))) e
      on (Some (Here o)) e = ap (λ z. value_in names (Space k) (At (resolve_slot z i))) e
      on (Some (Led d q)) e = ap (λ z. value_in names (Space k) (At (resolve_slot z i))) e ∙ ap (λ z. At (Own z)) (sym (reads.led i d q (forward_seen m fit i d q e)))

  module _ (p : PublishedPlan) (waits : m.published ≡ Some p) where
    abbrev c : ℕ
    c = p.cluster.number

    fits : IsPublishedFit m.space (Some p)
    fits = subst (IsPublishedFit m.space) waits fit

    -- the slot of a place is seen as a forward to it
    led : (n i : ℕ) → IsAt p.places n i → slice_get (seen_slots m) n ≡ Some (Led c i)
    led n i there = ap (λ x. slice_get (seen_through x m.space.slots) n) waits ∙ (seen_forwards m.space p fits).named n i there

    value_turned : (x y : Value) → SameValue (IsAt p.places) x y → value_in names (Shared c) y ≡ value_in names (Space k) x
    value_turned (Plain a) (Plain b) e = ap Plain (sym e)
    value_turned (Plain a) (At n) e = absurd e
    value_turned (At (Own n)) (Plain b) e = absurd e
    value_turned (At (Published d q)) (Plain b) e = absurd e
    value_turned (At (Own n)) (At (Own i)) e = ap (λ z. At (Own z)) (sym (reads.led n c i (led n i e)))
    value_turned (At (Own n)) (At (Published d q)) e = absurd e
    value_turned (At (Published d q)) (At (Own i)) e = absurd e
    value_turned (At (Published d q)) (At (Published f r)) e = ap (λ z. At (Own (slice_index (names (Shared z)) r))) (sym e.0) ∙ ap (λ z. At (Own (slice_index (names (Shared d)) z))) (sym e.1)

    triples_turned : (xs ys : List (Label × Value)) → AllZip (SameTriple (IsAt p.places)) (map (resolve_triple m.space.slots) xs) ys
        → map (renamed_triple (name_in names (Shared c))) ys ≡ map (renamed_triple (name_in names (Space k))) xs
    triples_turned [] [] z = refl
    triples_turned [] (y ∷ ys) z = absurd z
    triples_turned (x ∷ xs) [] z = absurd z
    triples_turned (x ∷ xs) (y ∷ ys) z =
        let head : value_in names (Shared c) y.1 ≡ value_in names (Space k) x.1 = value_turned (resolve m.space.slots x.1) y.1 z.0.1 ∙ followed x.1 in
        let label : x.0 ≡ y.0 = z.0.0 in
        ap (λ l. (l, value_in names (Shared c) y.1) ∷ map (renamed_triple (name_in names (Shared c))) ys) (sym label)
        ∙ ap (λ v. (x.0, v) ∷ map (renamed_triple (name_in names (Shared c))) ys) head
        ∙ ap (λ us. renamed_triple (name_in names (Space k)) x ∷ us) (triples_turned xs ys z.1)

    pub object_turned : (o q : Object) → Matches (IsAt p.places) (resolve_object m.space.slots o) q → named names (Shared c) q ≡ named names (Space k) o
    object_turned o q match = same_object _ _ (sym match.kind) (sym match.class) (sym match.bytes) (sym match.frozen) (triples_turned o.triples q.triples match.triples)

    -- the object in a slot of the plan is the cluster's
    placed_seen : (i : ℕ) (raw : Object) → slice_get m.space.slots i ≡ Some (Here raw) → Contains p.places i → (y : Owned) × (g (slice_index (names (Space k)) i) ≡ Some y) × (y.object ≡ named names (Space k) raw)
    placed_seen i raw s has =
        let j = at_contains p.places i has in
        let x = fits.same i j.0 j.1 in
        let one : x.0 ≡ raw = let z : Here x.0 ≡ Here raw = same_Some _ _ (sym x.2 ∙ s) in cc in
        let a = ((R.knows.ractors k m at).published p waits).known c (outer_objects p.cluster) (0, omega arith, refl) in
        let b = mapped_at (numbered_object c) a.0 j.0 (numbered_object c x.1) (ap (λ os. slice_get os j.0) a.2 ∙ map_at (numbered_object c) p.cluster.own j.0 x.1 x.3) in
        let there = (R.tables.reads (Shared c) (map Here a.0) a.1).here j.0 b.0 (map_at Here a.0 j.0 b.0 b.1) in
        let same : named names (Shared c) b.0 ≡ named names (Space k) x.0 =
        outer_named names (Space k) c b.0 ∙ ap (named names (Space k)) b.2 ∙ sym (outer_named names (Space k) c x.1) ∙ object_turned x.0 x.1 x.5 in (
          record { owner = Shared c; object = named names (Shared c) b.0 },
          ap g (reads.led i c j.0 (led i j.0 j.1)) ∙ there,
          same ∙ ap (named names (Space k)) one,
        )

  -- the object in a slot has the slot's name, whether it waits to be promoted or not
  pub raw_seen : (i : ℕ) (raw : Object) → slice_get m.space.slots i ≡ Some (Here raw) → (y : Owned) × (g (slice_index (names (Space k)) i) ≡ Some y) × (y.object ≡ named names (Space k) raw)
  raw_seen i raw s = by m.published refl
    where
      out : IsOut m.published i → (y : Owned) × (g (slice_index (names (Space k)) i) ≡ Some y) × (y.object ≡ named names (Space k) raw)
      out apart = (record { owner = Space k; object = named names (Space k) raw }, reads.here i raw (seen_out m.space m.published i fit apart ∙ s), refl)

      by : (x : Option PublishedPlan) → m.published ≡ x → (y : Owned) × (g (slice_index (names (Space k)) i) ≡ Some y) × (y.object ≡ named names (Space k) raw)
      by None e = out (subst (λ x. IsOut x i) (sym e) tt)
      by (Some p) e = ⊎_elim (λ has. placed_seen p e i raw s has) (λ none. out (subst (λ x. IsOut x i) (sym e) none)) (list_has p.places i)
