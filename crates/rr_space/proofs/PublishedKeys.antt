-- Which pair of a published hash a key has.
use Rattle.std.proofs.Common.{◌≡◌, ℕ, zero, suc, ◌+◌, ◌<◌, List, [], ◌∷◌, ◌++◌, map, slice_get, Option, Some, None, Contains, MatchOption, refl, ap, sym, ◌∙◌, subst, arith}
use Rattle.std.specs.Option.{option_map, option_and_then}
use Rattle.std.proofs.lemmas.List.Elements.{Contains-append_left, Contains-append_right}
use Rattle.std.proofs.lemmas.Option.{slice_get-map, same_Some, none-some}
use Rattle.rr_space.specs.Graph.{Label, KeyAt, ValueAt, Value, Object}
use Rattle.rr_space.specs.Tables.{Below, Whole, Table, HashKey, below_hold, outer_objects, published_at, numbered, numbered_object, numbered_triple}
use Rattle.rr_space.specs.Parts.{value_of, value_triple, pairs_from, below_ref, below_parts}
use Rattle.rr_space.specs.Lookups.{key_of_object, key_of_value, IsOneEach, HasKeyAt, IsPairOf, IsKeyOfPair, led_object, published_object, below_or_none, below_of}
use Rattle.rr_space.specs.Views.{StandsAt, slot_of, below_held, held_keys}
use Rattle.rr_space.specs.Views.{keys_here, keys_at}
use Rattle.rr_space.specs.declared.refer.Ref.TheVariants.{Local}
use Rattle.rr_space.specs.declared.node.Held.{Held}
use Rattle.rr_space.specs.declared.refer.Ref.{Ref}
use Rattle.rr_space.proofs.Parting.{hold_first}
use Rattle.rr_space.proofs.Spaces.{entry_of}
use Rattle.rr_space.proofs.Sounds.{finds}

-- an object seen from outside is the same key
outer_key : (n : ℕ) (o : Option Object) → key_of_object (option_map (numbered_object n) o) ≡ key_of_object o
outer_key n None = refl
outer_key n (Some o) = refl

-- the key of an object of the cluster itself
pub own_key : (w : Whole) (p : ℕ) → key_of_object (published_at (below_hold w) w.number p) ≡ key_of_object (slice_get w.own p)
own_key w p = ap key_of_object (hold_first w p ∙ slice_get-map (numbered_object w.number) w.own p) ∙ outer_key w.number (slice_get w.own p)

-- the key of an object of another cluster that is led to
pub other_key : (below : Below) (d : Whole) (p : ℕ) → IsOneEach below → Contains below (d.number, outer_objects d) → key_of_object (published_at below d.number p) ≡ key_of_object (slice_get d.own p)
other_key below d p one has =
    let f = finds below d.number (outer_objects d) has in
    let same : f.0 ≡ outer_objects d = one d.number f.0 (outer_objects d) (entry_of below d.number f.0 f.1) has in
    ap (λ c. key_of_object (option_and_then (λ (os : List Object). slice_get os p) c)) f.1
    ∙ ap (λ (os : List Object). key_of_object (slice_get os p)) same
    ∙ ap key_of_object (slice_get-map (numbered_object d.number) d.own p) ∙ outer_key d.number (slice_get d.own p)

pub pair_below : (ps : List (Ref × Ref)) (j i : ℕ) (p : Ref × Ref) (e : ℕ × List Object) → slice_get ps i ≡ Some p → Contains (below_ref p.0) e → Contains (below_parts (pairs_from j ps)) e
pair_below [] j i p e at has = absurd (none-some p at)
pair_below (q ∷ ps) j zero p e at has =
    Contains-append_left (below_ref q.0) (below_ref q.1 ++ below_parts (pairs_from (j + 1) ps)) e (subst (λ (x : Ref × Ref). Contains (below_ref x.0) e) (sym (same_Some q p at)) has)
pair_below (q ∷ ps) j (suc i) p e at has =
    Contains-append_right (below_ref q.0) (below_ref q.1 ++ below_parts (pairs_from (j + 1) ps)) e
    (Contains-append_right (below_ref q.1) (below_parts (pairs_from (j + 1) ps)) e (pair_below ps (j + 1) i p e at has))

-- the triples of a hash of a cluster, seen from outside
abbrev pub outer_pairs : ℕ → ℕ → List (Ref × Ref) → List (Label × Value)
outer_pairs n j ps = map (numbered_triple n) (map value_triple (pairs_from j ps))

key_there : (n : ℕ) (ps : List (Ref × Ref)) (j i : ℕ) (p : Ref × Ref) → slice_get ps i ≡ Some p → Contains (outer_pairs n j ps) (KeyAt (j + i), numbered n (value_of p.0))
key_there n [] j i p at = absurd (none-some p at)
key_there n (q ∷ ps) j zero p at =
    let named : KeyAt j ≡ KeyAt (j + 0) = ap KeyAt (let z : j ≡ j + 0 = omega arith in z) in
    (0, omega arith, ap (λ (l : Label). (l, numbered n (value_of q.0))) named ∙ ap (λ (x : Ref × Ref). (KeyAt (j + 0), numbered n (value_of x.0))) (same_Some q p at))
key_there n (q ∷ ps) j (suc i) p at =
    Contains-append_right ((KeyAt j, numbered n (value_of q.0)) ∷ (ValueAt j, numbered n (value_of q.1)) ∷ []) (outer_pairs n (j + 1) ps) (KeyAt (j + suc i), numbered n (value_of p.0))
    (subst (λ m. Contains (outer_pairs n (j + 1) ps) (KeyAt m, numbered n (value_of p.0))) (let z : (j + 1) + i ≡ j + suc i = omega arith in z) (key_there n ps (j + 1) i p at))

key_back : (n : ℕ) (ps : List (Ref × Ref)) (j m : ℕ) (x : Value) → Contains (outer_pairs n j ps) (KeyAt m, x)
    → (i : ℕ) × (p : Ref × Ref) × (m ≡ j + i) × (slice_get ps i ≡ Some p) × (x ≡ numbered n (value_of p.0))
key_back n [] j m x (k, lt, e) = absurd (let w : ⊥ = omega (arith, lt) in w)
key_back n (q ∷ ps) j m x (zero, lt, e) =
    let named : KeyAt j ≡ KeyAt m = ap (λ (t : Label × Value). t.0) e in
    let same : j ≡ m = cc in
    (0, q, omega (arith, same), refl, sym (ap (λ (t : Label × Value). t.1) e))
key_back n (q ∷ ps) j m x (suc zero, lt, e) =
    let named : ValueAt j ≡ KeyAt m = ap (λ (t : Label × Value). t.0) e in
    absurd (let w : ⊥ = cc in w)
key_back n (q ∷ ps) j m x (suc (suc k), lt, e) =
    let r = key_back n ps (j + 1) m x (k, omega (arith, lt), e) in
    (suc r.0, r.1, omega (arith, r.2), r.3, r.4)

module _ (w : Whole) (ps : List (Ref × Ref)) (key : HashKey) where
  forth : (i : ℕ) → IsKeyOfPair w ps key i → HasKeyAt (below_hold w) (outer_pairs w.number 0 ps) key i
  forth i (p, at, e) =
      (numbered w.number (value_of p.0), subst (λ m. Contains (outer_pairs w.number 0 ps) (KeyAt m, numbered w.number (value_of p.0))) (let z : 0 + i ≡ i = omega arith in z) (key_there w.number ps 0 i p at), e)

  back : (i : ℕ) → HasKeyAt (below_hold w) (outer_pairs w.number 0 ps) key i → IsKeyOfPair w ps key i
  back i (x, has, e) =
      let r = key_back w.number ps 0 i x has in
      let same : r.0 ≡ i = omega (arith, r.2) in
      (r.1, ap (slice_get ps) (sym same) ∙ r.3, ap (key_of_value (below_hold w)) (sym r.4) ∙ e)

  -- a search among the pairs is a search among what the object leads to
  pub among : (found : Option ℕ) → MatchOption found ((i : ℕ) → IsKeyOfPair w ps key i → ⊥) (λ i. IsKeyOfPair w ps key i × ((j : ℕ) → j < i → IsKeyOfPair w ps key j → ⊥))
      → IsPairOf (below_hold w) (outer_pairs w.number 0 ps) key found
  among None out = λ i h. out i (back i h)
  among (Some i) h = (forth i h.0, λ j lt g. h.1 j lt (back j g))

-- what a look-up sees of what stands in a slot
module _ (t : Table) (n : ℕ) (v : Ref) (h : Held) (is : v ≡ Local n) (s : StandsAt t n h) where
  pub keys_here_are : keys_at t v ≡ keys_here (Some (slot_of h)) (Some (held_keys h))
  keys_here_are = ap (keys_at t) is ∙ ap (λ x. keys_here x (slice_get t.keys n)) s.slot ∙ ap (λ x. keys_here (Some (slot_of h)) x) s.keys

  pub led_here_is : published_object t v ≡ led_object (Some (slot_of h)) (Some (below_held h))
  led_here_is = ap (published_object t) is ∙ ap (λ x. led_object x (slice_get t.below n)) s.slot ∙ ap (λ x. led_object (Some (slot_of h)) x) s.below

  pub below_here_is : below_of t v ≡ below_held h
  below_here_is = ap (below_of t) is ∙ ap below_or_none s.below

module _ (t : Table) (n : ℕ) (v : Ref) (is : v ≡ Local n) (past : slice_get t.slots n ≡ None) where
  pub keys_past : keys_at t v ≡ None
  keys_past = ap (keys_at t) is ∙ ap (λ x. keys_here x (slice_get t.keys n)) past

  pub led_past : published_object t v ≡ None
  led_past = ap (published_object t) is ∙ ap (λ x. led_object x (slice_get t.below n)) past
