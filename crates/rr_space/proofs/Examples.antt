-- What the definitions say of small graphs.
use Rattle.std.proofs.Common.{◌≡◌, ℕ, zero, suc, ◌<◌, ◌⊎◌, ⊎_elim, inl, inr, Bool, true, false, List, [], ◌∷◌, Some, Contains, sym, ap, ◌∙◌, subst, refl, arith}
use Rattle.std.proofs.lemmas.Option.{same_Some, none-some}
use Rattle.rr_space.specs.Graph.{Graph, Name, Own, Published, Immediate, Value, Plain, At, Label, Place, Object, Leads, Reaches, IsSolid, IsShareable}
use Rattle.rr_space.specs.Graph.{IsAt, Matches}
use Rattle.rr_space.specs.Tables.{Slot, IsSealed}
use Rattle.rr_space.specs.Laws.{Copied}
use Rattle.rr_space.specs.Examples.{array_object, slots_graph, cycle, over_text, over_shell, beside_text, knot, turned_knot, one_text_twice, two_texts, loop, FirstIsShareable, FirstReaches, HasPairing, Examples}
use Rattle.rr_space.proofs.Leaves.{found_all}
use Rattle.rr_space.proofs.Copies.{copies_are_alike}
use Rattle.rr_space.proofs.Sounds.{none_in, in_first}

-- the slot of a value that names one
abbrev slot_in : Value → ℕ
slot_in (At (Own n)) = n
slot_in (At (Published c p)) = 0
slot_in (Plain i) = 0

one_end : (p l : Label) (k m : ℕ) → Contains {X = Label × Value} ((p, At (Own k)) ∷ []) (l, At (Own m)) → k ≡ m
one_end p l k m has = ⊎_elim (λ e. ap (λ (t : Label × Value). slot_in t.1) e) (λ h. absurd (none_in _ h)) (in_first _ [] (l, At (Own m)) has)

two_ends : (p q l : Label) (j k m : ℕ) → Contains {X = Label × Value} ((p, At (Own j)) ∷ (q, At (Own k)) ∷ []) (l, At (Own m)) → (j ≡ m) ⊎ (k ≡ m)
two_ends p q l j k m has = ⊎_elim (λ e. inl (ap (λ (t : Label × Value). slot_in t.1) e)) (λ h. inr (one_end q l k m h)) (in_first (p, At (Own j)) ((q, At (Own k)) ∷ []) (l, At (Own m)) has)

sealed : (slots : List Slot) → IsSealed (slots_graph slots)
sealed slots = record { solid = λ c p o e. absurd (none-some o e); shut = λ c p o l x e has. absurd (none-some o e) }

both : (n : ℕ) → n < 2 → Contains (0 ∷ 1 ∷ []) n
both zero lt = (0, omega arith, refl)
both (suc zero) lt = (1, omega arith, refl)
both (suc (suc n)) lt = absurd (let w : ⊥ = omega (arith, lt) in w)

-- the step from slot 0 to slot 1
next : (slots : List Slot) (o : Object) (l : Label) → slots_graph slots (Own 0) ≡ Some o → Contains o.triples (l, At (Own 1)) → Reaches (slots_graph slots) (At (Own 0)) (Own 1)
next slots o l here has = (l ∷ [], (At (Own 1), (Own 0, o, refl, here, has), refl))

module _ (frozen : Bool) where
  cycle_closed : (n m : ℕ) (o : Object) (l : Label) → slots_graph (cycle frozen) (Own n) ≡ Some o → Contains o.triples (l, At (Own m)) → m < 2
  cycle_closed zero m o l e has = let q = one_end (Place 0) l 1 m (subst (λ (x : Object). Contains x.triples (l, At (Own m))) (sym (same_Some _ o e)) has) in omega (arith, q)
  cycle_closed (suc zero) m o l e has = let q = one_end (Place 0) l 0 m (subst (λ (x : Object). Contains x.triples (l, At (Own m))) (sym (same_Some _ o e)) has) in omega (arith, q)
  cycle_closed (suc (suc n)) m o l e has = absurd (none-some o e)

cycle_reached : FirstReaches (cycle true) (0 ∷ 1 ∷ [])
cycle_reached n = (to n, λ r. found_all (slots_graph (cycle true)) (0 ∷ 1 ∷ []) (sealed (cycle true)) (λ k m o l has e in_o. both m (cycle_closed true k m o l e in_o)) r.0 (At (Own 0)) n (λ m e. both m (let q : 0 ≡ m = ap slot_in e in omega (arith, q))) r.1)
  where
    to : (n : ℕ) → Contains (0 ∷ 1 ∷ []) n → Reaches (slots_graph (cycle true)) (At (Own 0)) (Own n)
    to zero has = ([], refl)
    to (suc zero) has = next (cycle true) _ (Place 0) refl (0, omega arith, refl)
    to (suc (suc n)) has = absurd (⊎_elim (λ (e : 0 ≡ suc (suc n)). let w : ⊥ = omega (arith, e) in w) (λ h. ⊎_elim (λ (e : 1 ≡ suc (suc n)). let w : ⊥ = omega (arith, e) in w) (λ h2. none_in _ h2) (in_first 1 [] _ h)) (in_first 0 (1 ∷ []) _ has))

cycle_shareable : FirstIsShareable (cycle true)
cycle_shareable (Own zero) o reach e = subst IsSolid (same_Some _ o e) (record { frozen = refl; no_shell = λ q. cc })
cycle_shareable (Own (suc zero)) o reach e = subst IsSolid (same_Some _ o e) (record { frozen = refl; no_shell = λ q. cc })
cycle_shareable (Own (suc (suc n))) o reach e = absurd (none-some o e)
cycle_shareable (Published c p) o reach e = absurd (none-some o e)

text_shareable : FirstIsShareable (over_text true)
text_shareable (Own zero) o reach e = subst IsSolid (same_Some _ o e) (record { frozen = refl; no_shell = λ q. cc })
text_shareable (Own (suc zero)) o reach e = subst IsSolid (same_Some _ o e) (record { frozen = refl; no_shell = λ q. cc })
text_shareable (Own (suc (suc zero))) o reach e = subst IsSolid (same_Some _ o e) (record { frozen = refl; no_shell = λ q. cc })
text_shareable (Own (suc (suc (suc n)))) o reach e = absurd (none-some o e)
text_shareable (Published c p) o reach e = absurd (none-some o e)

open_cycle : FirstIsShareable (cycle false) → ⊥
open_cycle all = let s = all (Own 0) _ ([], refl) refl in let q : false ≡ true = s.frozen in cc

open_text : FirstIsShareable (over_text false) → ⊥
open_text all =
    let path : Reaches (slots_graph (over_text false)) (At (Own 0)) (Own 2) = (Place 0 ∷ Place 0 ∷ [], (At (Own 1), (Own 0, _, refl, refl, (0, omega arith, refl)), (At (Own 2), (Own 1, _, refl, refl, (0, omega arith, refl)), refl))) in
    let s = all (Own 2) _ path refl in let q : false ≡ true = s.frozen in cc

a_shell : FirstIsShareable over_shell → ⊥
a_shell all = (all (Own 1) _ (next over_shell _ (Place 0) refl (0, omega arith, refl)) refl).no_shell refl

-- an empty array leads to itself alone
alone : (path : List Label) (n : Name) → Leads (slots_graph beside_text) (At (Own 0)) path (At n) → n ≡ Own 0
alone [] n e = name_is n e
  where
    name_of : Value → Name
    name_of (At n) = n
    name_of (Plain i) = Own 0

    name_is : (n : Name) → At (Own 0) ≡ At n → n ≡ Own 0
    name_is n e = sym (ap name_of e)
alone (l ∷ path) n (x, (m, o, is, here, has), rest) = absurd (empty m o is here has)
  where
    name_of : Value → Name
    name_of (At n) = n
    name_of (Plain i) = Own 0

    empty : (m : Name) (o : Object) → At (Own 0) ≡ At m → slots_graph beside_text m ≡ Some o → Contains o.triples (l, x) → ⊥
    empty m o is here has = none_in _ (subst (λ (y : Object). Contains y.triples (l, x)) (sym (same_Some _ o (ap (slots_graph beside_text) (ap name_of is) ∙ here))) has)

beside : FirstIsShareable beside_text
beside n o reach e = subst IsSolid (same_Some _ o (ap (slots_graph beside_text) (sym (alone reach.0 n reach.1)) ∙ e)) (record { frozen = refl; no_shell = λ q. cc })

plain_shareable : (g : Graph) (i : Immediate) → IsShareable g (Plain i)
plain_shareable g i n o ([], e) here = absurd (let w : ⊥ = cc in w)
plain_shareable g i n o (l ∷ path, (x, (m, p, is, at, has), rest)) here = absurd (let w : ⊥ = cc in w)

-- ---- pairings

-- the pairing that turns two slots
abbrev turned : List ℕ
turned = 1 ∷ 0 ∷ []

turned_one : (n i j : ℕ) → IsAt turned n i → IsAt turned n j → i ≡ j
turned_one n zero zero p q = refl
turned_one n zero (suc zero) p q = absurd (let w : 1 ≡ 0 = same_Some 1 n p ∙ sym (same_Some 0 n q) in cc)
turned_one n (suc zero) zero p q = absurd (let w : 0 ≡ 1 = same_Some 0 n p ∙ sym (same_Some 1 n q) in cc)
turned_one n (suc zero) (suc zero) p q = refl
turned_one n (suc (suc i)) j p q = absurd (none-some n p)
turned_one n i (suc (suc j)) p q = absurd (none-some n q)

knot_closed : (n m : ℕ) (o : Object) (l : Label) → slots_graph knot (Own n) ≡ Some o → Contains o.triples (l, At (Own m)) → m < 2
knot_closed zero m o l e has = ⊎_elim (λ (q : 1 ≡ m). omega (arith, q)) (λ (q : 1 ≡ m). omega (arith, q)) (two_ends (Place 0) (Place 1) l 1 1 m (subst (λ (x : Object). Contains x.triples (l, At (Own m))) (sym (same_Some _ o e)) has))
knot_closed (suc zero) m o l e has = let q = one_end (Place 0) l 0 m (subst (λ (x : Object). Contains x.triples (l, At (Own m))) (sym (same_Some _ o e)) has) in omega (arith, q)
knot_closed (suc (suc n)) m o l e has = absurd (none-some o e)

knot_bounded : (n : ℕ) → Reaches (slots_graph knot) (At (Own 0)) (Own n) → Contains (0 ∷ 1 ∷ []) n
knot_bounded n r = found_all (slots_graph knot) (0 ∷ 1 ∷ []) (sealed knot) (λ k m o l has e in_o. both m (knot_closed k m o l e in_o)) r.0 (At (Own 0)) n (λ m e. both m (let q : 0 ≡ m = ap slot_in e in omega (arith, q))) r.1

swapped : (n : ℕ) → Contains (0 ∷ 1 ∷ []) n → Contains turned n
swapped n has = ⊎_elim (λ e. subst (Contains turned) e (1, omega arith, refl)) (λ h. ⊎_elim (λ e. subst (Contains turned) e (0, omega arith, refl)) (λ h2. absurd (none_in n h2)) (in_first 1 [] n h)) (in_first 0 (1 ∷ []) n has)

knot_reaches : (n : ℕ) → Contains turned n → Reaches (slots_graph knot) (At (Own 0)) (Own n)
knot_reaches n has = ⊎_elim
    (λ e. subst (λ k. Reaches (slots_graph knot) (At (Own 0)) (Own k)) e (next knot _ (Place 0) refl (0, omega arith, refl)))
    (λ h. ⊎_elim (λ e. subst (λ k. Reaches (slots_graph knot) (At (Own 0)) (Own k)) e ([], refl)) (λ h2. absurd (none_in n h2)) (in_first 0 [] n h))
    (in_first 1 (0 ∷ []) n has)

open_knot : (n : ℕ) → Contains (0 ∷ 1 ∷ []) n → IsShareable (slots_graph knot) (At (Own n)) → ⊥
open_knot zero has all = let s = all (Own 0) _ ([], refl) refl in let q : false ≡ true = s.frozen in cc
open_knot (suc zero) has all = let s = all (Own 1) _ ([], refl) refl in let q : false ≡ true = s.frozen in cc
open_knot (suc (suc n)) has all = none_in _ (later n (swapped _ has))
  where
    later : (n : ℕ) → Contains turned (suc (suc n)) → Contains [] (suc (suc n))
    later n has = ⊎_elim (λ (e : 1 ≡ suc (suc n)). absurd (let w : ⊥ = omega (arith, e) in w)) (λ h. ⊎_elim (λ (e : 0 ≡ suc (suc n)). absurd (let w : ⊥ = omega (arith, e) in w)) (λ h2. h2) (in_first 0 [] _ h)) (in_first 1 (0 ∷ []) _ has)

single : Matches (IsAt turned) (array_object false (0 ∷ [])) (array_object false (1 ∷ []))
single = record { kind = refl; class = refl; bytes = refl; frozen = refl; triples = ((refl, refl), tt) }

double : Matches (IsAt turned) (array_object false (1 ∷ 1 ∷ [])) (array_object false (0 ∷ 0 ∷ []))
double = record { kind = refl; class = refl; bytes = refl; frozen = refl; triples = ((refl, refl), ((refl, refl), tt)) }

there : (n m : ℕ) (o : Object) → IsAt turned n m → slots_graph knot (Own n) ≡ Some o → (p : Object) × (slots_graph turned_knot (Own m) ≡ Some p) × Matches (IsAt turned) o p
there n (suc (suc m)) o at e = absurd (none-some n at)
there n zero o at e = (
  (array_object false (1 ∷ [])),
  refl,
  subst (λ x. Matches (IsAt turned) x (array_object false (1 ∷ []))) (same_Some (array_object false (0 ∷ [])) o (ap (λ k. slots_graph knot (Own k)) (same_Some 1 n at) ∙ e)) single,
)
there n (suc zero) o at e = (
  (array_object false (0 ∷ 0 ∷ [])),
  refl,
  subst (λ x. Matches (IsAt turned) x (array_object false (0 ∷ 0 ∷ []))) (same_Some (array_object false (1 ∷ 1 ∷ [])) o (ap (λ k. slots_graph knot (Own k)) (same_Some 0 n at) ∙ e)) double,
)

back : (n m : ℕ) (p : Object) → IsAt turned n m → slots_graph turned_knot (Own m) ≡ Some p → (o : Object) × (slots_graph knot (Own n) ≡ Some o) × Matches (IsAt turned) o p
back n (suc (suc m)) p at e = absurd (none-some n at)
back n zero p at e = ((array_object false (0 ∷ [])), ap (λ k. slots_graph knot (Own k)) (sym (same_Some 1 n at)), subst (λ x. Matches (IsAt turned) (array_object false (0 ∷ [])) x) (same_Some (array_object false (1 ∷ [])) p e) single)
back n (suc zero) p at e = ((array_object false (1 ∷ 1 ∷ [])), ap (λ k. slots_graph knot (Own k)) (sym (same_Some 0 n at)), subst (λ x. Matches (IsAt turned) (array_object false (1 ∷ 1 ∷ [])) x) (same_Some (array_object false (0 ∷ 0 ∷ [])) p e) double)

knots_copied : Copied (slots_graph knot) (At (Own 0)) turned (slots_graph turned_knot) (At (Own 1))
knots_copied = record {
  exact = λ n. (knot_reaches n, λ r. swapped n (knot_bounded n r));
  distinct = turned_one;
  left_sealed = sealed knot;
  right_sealed = sealed turned_knot;
  promoted = λ n r all. open_knot n (knot_bounded n r) all;
  there = there;
  back = back;
  roots = refl;
}

knots_alike : HasPairing knot 0 turned_knot 1
knots_alike = (turned, copies_are_alike (slots_graph knot) (At (Own 0)) turned (slots_graph turned_knot) (At (Own 1)) knots_copied)

sharing_lost : HasPairing one_text_twice 0 two_texts 0 → ⊥
sharing_lost (names, a) =
    let m = a.same 0 0 (array_object false (1 ∷ 1 ∷ [])) (array_object false (1 ∷ 2 ∷ [])) a.roots refl refl in
    let q : 1 ≡ 2 = a.one_left 1 1 2 m.triples.0.1 m.triples.1.0.1 in omega (arith, q)

sharing_made : HasPairing two_texts 0 one_text_twice 0 → ⊥
sharing_made (names, a) =
    let m = a.same 0 0 (array_object false (1 ∷ 2 ∷ [])) (array_object false (1 ∷ 1 ∷ [])) a.roots refl refl in
    let q : 1 ≡ 2 = a.one_right 1 2 1 m.triples.0.1 m.triples.1.0.1 in omega (arith, q)

unrolled : HasPairing loop 0 (cycle false) 0 → ⊥
unrolled (names, a) =
    let m = a.same 0 0 (array_object false (0 ∷ [])) (array_object false (1 ∷ [])) a.roots refl refl in
    let q : 0 ≡ 1 = a.one_left 0 0 1 a.roots m.triples.0.1 in omega (arith, q)

pub examples : Examples
examples = record {
  immediates_are_shareable = plain_shareable;
  a_cycle_is_reached = cycle_reached;
  a_frozen_cycle_is_shareable = cycle_shareable;
  an_open_cycle_is_not = open_cycle;
  frozen_arrays_over_a_frozen_text_are = text_shareable;
  frozen_arrays_over_an_open_text_are_not = open_text;
  a_shell_is_not = a_shell;
  what_is_not_reached_is_not_asked = beside;
  sharing_and_cycles_are_paired = knots_alike;
  sharing_is_not_lost = sharing_lost;
  sharing_is_not_made = sharing_made;
  a_cycle_is_not_unrolled = unrolled;
}
