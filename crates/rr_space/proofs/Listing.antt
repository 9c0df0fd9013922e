-- The references in arrays, hashes and objects, one by one.
use Rattle.std.proofs.Common.{◌≡◌, ℕ, zero, suc, ◌+◌, ◌*◌, ◌/◌, ◌%◌, ◌<◌, ◌≤◌, nat_eq, cond, List, [], ◌∷◌, length, map, slice_get, get_or, Option, Some, None, sym, ap, ◌∙◌, refl, arith}
use Rattle.std.specs.Option.{option_map}
use Rattle.std.proofs.lemmas.Option.{slice_get-map, slice_get_read, slice_get_past}
use Rattle.rr_space.specs.Graph.{Label, Place, KeyAt, ValueAt, Value, Object}
use Rattle.rr_space.specs.Parts.{Parts, places_from, pairs_from, value_triple, sealed_parts, sealed_object}
use Rattle.rr_space.specs.Labels.{pair_half, labelled, labelled_value, triples_of}
use Rattle.rr_space.specs.declared.label.Label.{Label as CodeLabel}
use Rattle.rr_space.specs.declared.refer.Sealed.{Sealed}
use Rattle.rr_space.specs.Tables.{Whole, outer_objects, numbered_object, numbered_triple}
use Rattle.rr_space.specs.declared.refer.Ref.{Ref}
use Rattle.rr_space.specs.declared.refer.Ref.TheVariants.{Nil, False, True, Int, Symbol, Class, Ractor, Local, Shared}

pub length-places_from : (rs : List Ref) (j : ℕ) → length (places_from j rs) ≡ length rs
length-places_from [] j = refl
length-places_from (r ∷ rs) j = omega (arith, length-places_from rs (j + 1))

pub length-pairs_from : (ps : List (Ref × Ref)) (j : ℕ) → length (pairs_from j ps) ≡ 2 * length ps
length-pairs_from [] j = refl
length-pairs_from (p ∷ ps) j = omega (arith, length-pairs_from ps (j + 1))

pub places_at : (rs : List Ref) (j k : ℕ) → slice_get (places_from j rs) k ≡ option_map (λ r. (Place (j + k), r)) (slice_get rs k)
places_at [] j k = refl
places_at (r ∷ rs) j zero = ap (λ n. Some (Place n, r)) (let z : j ≡ j + 0 = omega arith in z)
places_at (r ∷ rs) j (suc k) = places_at rs (j + 1) k ∙ ap (λ n. option_map (λ (x : Ref). (Place n, x)) (slice_get rs k)) (let z : (j + 1) + k ≡ j + suc k = omega arith in z)

abbrev half_from : ℕ → ℕ → Option (Ref × Ref) → Option (Label × Ref)
half_from j k None = None
half_from j k (Some p) = cond (nat_eq (k % 2) 0) (Some (KeyAt (j + k / 2), p.0)) (Some (ValueAt (j + k / 2), p.1))

half_later : (j k : ℕ) (p : Option (Ref × Ref)) → half_from (j + 1) k p ≡ half_from j (suc (suc k)) p
half_later j k None = refl
half_later j k (Some p) =
    let same : suc (suc k) % 2 ≡ k % 2 = omega arith in
    let next : j + suc (suc k) / 2 ≡ (j + 1) + k / 2 = omega arith in
    sym (ap (λ n. cond (nat_eq n 0) (Some (KeyAt (j + suc (suc k) / 2), p.0)) (Some (ValueAt (j + suc (suc k) / 2), p.1))) same
    ∙ ap (λ n. cond (nat_eq (k % 2) 0) (Some (KeyAt n, p.0)) (Some (ValueAt n, p.1))) next)

pub pairs_at : (ps : List (Ref × Ref)) (j k : ℕ) → slice_get (pairs_from j ps) k ≡ half_from j k (slice_get ps (k / 2))
pairs_at [] j k = refl
pairs_at (p ∷ ps) j zero = ap (λ n. Some (KeyAt n, p.0)) (let z : j ≡ j + 0 = omega arith in z)
pairs_at (p ∷ ps) j (suc zero) = ap (λ n. Some (ValueAt n, p.1)) (let z : j ≡ j + 0 = omega arith in z)
pairs_at (p ∷ ps) j (suc (suc k)) =
    pairs_at ps (j + 1) k ∙ half_later j k (slice_get ps (k / 2))
    ∙ ap (λ n. half_from j (suc (suc k)) (slice_get (p ∷ ps) n)) (let z : suc (k / 2) ≡ suc (suc k) / 2 = omega arith in z)

half_first : (k : ℕ) (p : Option (Ref × Ref)) → half_from 0 k p ≡ pair_half k p
half_first k None = refl
half_first k (Some p) = ap (λ n. cond (nat_eq (k % 2) 0) (Some (KeyAt n, p.0)) (Some (ValueAt n, p.1))) (let z : 0 + k / 2 ≡ k / 2 = omega arith in z)

pub pair_first : (ps : List (Ref × Ref)) (k : ℕ) → slice_get (pairs_from 0 ps) k ≡ pair_half k (slice_get ps (k / 2))
pair_first ps k = pairs_at ps 0 k ∙ half_first k (slice_get ps (k / 2))

pub place_first : (rs : List Ref) (k : ℕ) → slice_get (places_from 0 rs) k ≡ option_map (λ r. (Place k, r)) (slice_get rs k)
place_first rs k = places_at rs 0 k ∙ ap (λ n. option_map (λ (x : Ref). (Place n, x)) (slice_get rs k)) (let z : 0 + k ≡ k = omega arith in z)

pub place_read : (rs : List Ref) (k : ℕ) (r : Ref) → k < length rs → r ≡ get_or rs k r → slice_get (places_from 0 rs) k ≡ Some (Place k, r)
place_read rs k r lt at = place_first rs k ∙ ap (option_map (λ (x : Ref). (Place k, x))) (slice_get_read rs (length rs) k r refl lt at)

pub place_none : (rs : List Ref) (k : ℕ) → length rs ≤ k → slice_get (places_from 0 rs) k ≡ None
place_none rs k le = place_first rs k ∙ ap (option_map (λ (x : Ref). (Place k, x))) (slice_get_past rs k le)

pub valued_part : (ts : Parts) (k : ℕ) (r : Option (CodeLabel × Ref)) → option_map labelled r ≡ slice_get ts k → option_map labelled_value r ≡ slice_get (map value_triple ts) k
valued_part ts k r e = by r ∙ ap (option_map value_triple) e ∙ sym (slice_get-map value_triple ts k)
  where
    by : (r : Option (CodeLabel × Ref)) → option_map labelled_value r ≡ option_map value_triple (option_map labelled r)
    by None = refl
    by (Some t) = refl

-- the k-th part of the object under a place of a cluster
pub cluster_part : (nodes : List Sealed) (own : List Object) (p k : ℕ) (s : Sealed) (r : Option (CodeLabel × Ref)) → map sealed_object nodes ≡ own → p < length nodes → s ≡ get_or nodes p s
    → option_map labelled r ≡ slice_get (sealed_parts s) k → option_map labelled_value r ≡ slice_get (triples_of (slice_get own p)) k
cluster_part nodes own p k s r is lt at e =
    let found : slice_get own p ≡ Some (sealed_object s) = ap (λ (os : List Object). slice_get os p) (sym is) ∙ slice_get-map sealed_object nodes p ∙ ap (option_map sealed_object) (slice_get_read nodes (length nodes) p s refl lt at) in
    valued_part (sealed_parts s) k r e ∙ ap (λ (o : Option Object). slice_get (triples_of o) k) (sym found)

pub cluster_none : (nodes : List Sealed) (own : List Object) (p k : ℕ) → map sealed_object nodes ≡ own → length nodes ≤ p → slice_get (triples_of (slice_get own p)) k ≡ None
cluster_none nodes own p k is le = ap (λ (o : Option Object). slice_get (triples_of o) k) (ap (λ (os : List Object). slice_get os p) (sym is) ∙ slice_get-map sealed_object nodes p ∙ ap (option_map sealed_object) (slice_get_past nodes p le))

-- the k-th part of an object of a cluster, as it is seen from outside
pub outer_part : (w : Whole) (p k : ℕ) (r : Option (Label × Value)) → r ≡ slice_get (triples_of (slice_get w.own p)) k → option_map (numbered_triple w.number) r ≡ slice_get (triples_of (slice_get (outer_objects w) p)) k
outer_part w p k r e =
    ap (option_map (numbered_triple w.number)) e ∙ by (slice_get w.own p)
    ∙ ap (λ (o : Option Object). slice_get (triples_of o) k) (sym (slice_get-map (numbered_object w.number) w.own p))
  where
    by : (o : Option Object) → option_map (numbered_triple w.number) (slice_get (triples_of o) k) ≡ slice_get (triples_of (option_map (numbered_object w.number) o)) k
    by None = refl
    by (Some o) = sym (slice_get-map (numbered_triple w.number) o.triples k)

-- a part that is no place of the cluster is the same from outside
same_outside : (n : ℕ) (l : CodeLabel) (r : Ref) → ((q : ℕ) → r ≡ Local q → ⊥) → labelled_value (l, r) ≡ numbered_triple n (labelled_value (l, r))
same_outside n l Nil out = refl
same_outside n l False out = refl
same_outside n l True out = refl
same_outside n l (Int z) out = refl
same_outside n l (Symbol s) out = refl
same_outside n l (Class c) out = refl
same_outside n l (Ractor r) out = refl
same_outside n l (Local q) out = absurd (out q refl)
same_outside n l (Shared p c) out = refl
