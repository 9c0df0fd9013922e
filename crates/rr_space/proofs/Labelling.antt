-- Where labels stand among what objects lead to.
use Rattle.std.proofs.Common.{◌≡◌, ℕ, zero, suc, ◌+◌, ◌*◌, ◌/◌, ◌%◌, Bool, true, false, nat_eq, eq-eqb, cond, List, [], length, map, slice_get, Option, Some, None, sym, ap, ◌∙◌, subst, refl, arith}
use Rattle.std.specs.Option.{option_map}
use Rattle.std.proofs.lemmas.Bool.{eqb-true}
use Rattle.std.proofs.lemmas.List.{length-map}
use Rattle.std.proofs.lemmas.Option.{same_Some, none-some, slice_get-map}
use Rattle.rr_base.specs.declared.name.Sym.{Sym}
use Rattle.rr_space.specs.Graph.{Label, Place, KeyAt, ValueAt, Value, Object}
use Rattle.rr_space.specs.Tables.{numbered_triple, numbered_object}
use Rattle.rr_space.specs.Parts.{Parts, places_from, pairs_from, field_part, raised_parts, value_triple, sealed_parts, sealed_object}
use Rattle.rr_space.specs.Views.{node_parts}
use Rattle.rr_space.specs.Labels.{IsPlacedAt, AreLabelsPlaced, pair_half, triples_of}
use Rattle.rr_space.specs.declared.refer.Raised.{Raised}
use Rattle.rr_space.specs.declared.refer.Ref.{Ref}
use Rattle.rr_space.specs.declared.refer.Sealed.{Sealed}
use Rattle.rr_space.specs.declared.refer.Sealed.TheVariants.{Text as SealedText, Array as SealedArray, Hash as SealedHash, Object as SealedObject, Exception as SealedException}
use Rattle.rr_space.specs.declared.node.Node.{Node}
use Rattle.rr_space.specs.declared.node.Node.TheVariants.{Text, Array, Hash, Object as PlainObject, Exception}
use Rattle.rr_space.proofs.Listing.{place_first, pair_first}
use Rattle.rr_space.proofs.Renaming.{mapped_at}

abbrev ArePlaced : Parts → Type 0
ArePlaced ts = (j : ℕ) (p : Label × Ref) → slice_get ts j ≡ Some p → IsPlacedAt p.0 j

none_placed : ArePlaced []
none_placed = λ j p at. absurd (none-some p at)

places_placed : (rs : List Ref) → ArePlaced (places_from 0 rs)
places_placed rs j p at = by (slice_get rs j) (sym (place_first rs j) ∙ at)
  where
    by : (r : Option Ref) → option_map (λ (x : Ref). (Place j, x)) r ≡ Some p → IsPlacedAt p.0 j
    by None e = absurd (none-some p e)
    by (Some r) e = subst (λ (q : Label × Ref). IsPlacedAt q.0 j) (same_Some (Place j, r) p e) refl

pairs_placed : (ps : List (Ref × Ref)) → ArePlaced (pairs_from 0 ps)
pairs_placed ps j p at = by (slice_get ps (j / 2)) (sym (pair_first ps j) ∙ at)
  where
    half : (r : Ref × Ref) (b : Bool) → nat_eq (j % 2) 0 ≡ b → cond b (Some (KeyAt (j / 2), r.0)) (Some (ValueAt (j / 2), r.1)) ≡ Some p → IsPlacedAt p.0 j
    half r true even e =
        let z : j % 2 ≡ 0 = eqb-true (j % 2) 0 even in
        subst (λ (q : Label × Ref). IsPlacedAt q.0 j) (same_Some (KeyAt (j / 2), r.0) p e) (let w : j ≡ 2 * (j / 2) = omega (arith, z) in w)
    half r false odd e =
        let z : j % 2 ≡ 0 → ⊥ = λ q. (let w : true ≡ false = sym (eq-eqb (j % 2) 0 q) ∙ odd in cc) in
        subst (λ (q : Label × Ref). IsPlacedAt q.0 j) (same_Some (ValueAt (j / 2), r.1) p e) (let w : j ≡ 2 * (j / 2) + 1 = omega (arith, z) in w)

    by : (r : Option (Ref × Ref)) → pair_half j r ≡ Some p → IsPlacedAt p.0 j
    by None e = absurd (none-some p e)
    by (Some r) e = half r (nat_eq (j % 2) 0) refl e

field_placed : (fs : List (Sym × Ref)) (i j : ℕ) (p : Label × Ref) → slice_get (map field_part fs) i ≡ Some p → IsPlacedAt p.0 j
field_placed fs i j p at = let m = mapped_at field_part fs i p at in subst (λ (q : Label × Ref). IsPlacedAt q.0 j) m.2 tt

raised_placed : (e : Raised) → ArePlaced (raised_parts e)
raised_placed e zero p at = subst (λ (q : Label × Ref). IsPlacedAt q.0 0) (same_Some _ p at) refl
raised_placed e (suc zero) p at = subst (λ (q : Label × Ref). IsPlacedAt q.0 1) (same_Some _ p at) refl
raised_placed e (suc (suc zero)) p at = subst (λ (q : Label × Ref). IsPlacedAt q.0 2) (same_Some _ p at) refl
raised_placed e (suc (suc (suc j))) p at = field_placed e.fields.items j (suc (suc (suc j))) p at

values_placed : (ts : Parts) → ArePlaced ts → AreLabelsPlaced (map value_triple ts)
values_placed ts all j l x at =
    let m = mapped_at value_triple ts j (l, x) at in
    subst (λ (k : Label). IsPlacedAt k j) (ap (λ (t : Label × Value). t.0) m.2) (all j m.0 m.1)

pub node_placed : (n : Node) → AreLabelsPlaced (map value_triple (node_parts n))
node_placed (Text b) = values_placed [] none_placed
node_placed (Array rs) = values_placed (places_from 0 rs) (places_placed rs)
node_placed (Hash es) = values_placed (node_parts (Hash es)) (pairs_placed _)
node_placed (PlainObject c fs) = values_placed (map field_part fs.items) (λ j p at. field_placed fs.items j j p at)
node_placed (Exception c r) = values_placed (raised_parts r.value) (raised_placed r.value)

sealed_placed : (s : Sealed) → AreLabelsPlaced (map value_triple (sealed_parts s))
sealed_placed (SealedText b) = values_placed [] none_placed
sealed_placed (SealedArray rs) = values_placed (places_from 0 rs.items) (places_placed rs.items)
sealed_placed (SealedHash ps) = values_placed (pairs_from 0 ps.items) (pairs_placed ps.items)
sealed_placed (SealedObject c fs) = values_placed (map field_part fs.items) (λ j p at. field_placed fs.items j j p at)
sealed_placed (SealedException c r) = values_placed (raised_parts r.value) (raised_placed r.value)

pub cluster_placed : (ss : List Sealed) (place : ℕ) → AreLabelsPlaced (triples_of (slice_get (map sealed_object ss) place))
cluster_placed ss place = by (slice_get (map sealed_object ss) place) refl
  where
    by : (o : Option Object) → slice_get (map sealed_object ss) place ≡ o → AreLabelsPlaced (triples_of o)
    by None e = λ j l x at. absurd (none-some (l, x) at)
    by (Some o) e = let m = mapped_at sealed_object ss place o e in subst (λ (q : Object). AreLabelsPlaced q.triples) m.2 (sealed_placed m.0)

numbered_placed : (c : ℕ) (ts : List (Label × Value)) → AreLabelsPlaced ts → AreLabelsPlaced (map (numbered_triple c) ts)
numbered_placed c ts all j l x at =
    let m = mapped_at (numbered_triple c) ts j (l, x) at in
    subst (λ (k : Label). IsPlacedAt k j) (ap (λ (t : Label × Value). t.0) m.2) (all j m.0.0 m.0.1 m.1)

pub outer_placed : (c : ℕ) (os : List Object) (place : ℕ) → AreLabelsPlaced (triples_of (slice_get os place)) → AreLabelsPlaced (triples_of (slice_get (map (numbered_object c) os) place))
outer_placed c os place all = by (slice_get (map (numbered_object c) os) place) refl
  where
    by : (o : Option Object) → slice_get (map (numbered_object c) os) place ≡ o → AreLabelsPlaced (triples_of o)
    by None e = λ j l x at. absurd (none-some (l, x) at)
    by (Some o) e =
        let m = mapped_at (numbered_object c) os place o e in
        subst (λ (q : Object). AreLabelsPlaced q.triples) m.2 (numbered_placed c m.0.triples (subst (λ q. AreLabelsPlaced (triples_of q)) m.1 all))

pub outer_count : (c : ℕ) (os : List Object) (place : ℕ) → length (triples_of (slice_get (map (numbered_object c) os) place)) ≡ length (triples_of (slice_get os place))
outer_count c os place = ap (λ o. length (triples_of o)) (slice_get-map (numbered_object c) os place) ∙ by (slice_get os place)
  where
    by : (o : Option Object) → length (triples_of (option_map (numbered_object c) o)) ≡ length (triples_of o)
    by None = refl
    by (Some o) = length-map o.triples (numbered_triple c)
