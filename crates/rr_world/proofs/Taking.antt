-- An element goes from an array, and a part of an exception is set.
use Rattle.std.proofs.Common.{◌≡◌, ℕ, zero, suc, ◌+◌, ⊎_elim, List, [], ◌∷◌, map, slice_get, Contains, sym, ap, ◌∙◌, subst, refl, arith, Option, Some, None, IsSome, IfSome}
use Rattle.std.specs.Prelude.{remove, slice_set}
use Rattle.rr_space.specs.Graph.{Name, Value, Label, Place, Object}
use Rattle.rr_space.specs.Tables.{renamed, renamed_triple, Slot, Here}
use Rattle.rr_space.specs.Views.{placed_from}
use Rattle.rr_space.specs.Readings.{Owner, Naming, named, name_in}
use Rattle.rr_space.proofs.Removing.{map_remove}
use Rattle.rr_space.proofs.Renaming.{contains_map_back}
use Rattle.rr_space.proofs.Sounds.{none_in, in_first}
use Rattle.rr_world.specs.ObjectCases.{value_under, without}
use Rattle.rr_space.specs.Parts.{value_of}
use Rattle.rr_space.specs.declared.refer.Ref.{Ref}

pub later : {X : Type 0} (a : X) (xs : List X) (y : X) → Contains xs y → Contains (a ∷ xs) y
later a xs y (n, lt, e) = (suc n, omega (arith, lt), e)

-- what is placed is what was in the list
in_placed : (k : ℕ) (vs : List Value) (l : Label) (x : Value) → Contains (placed_from k vs) (l, x) → Contains vs x
in_placed k [] l x has = absurd (none_in (l, x) has)
in_placed k (v ∷ vs) l x has = ⊎_elim
    (λ one. subst (λ y. Contains (v ∷ vs) y) (ap (λ (t : Label × Value). t.1) one) (0, omega arith, refl))
    (λ old. later v vs x (in_placed (k + 1) vs l x old))
    (in_first (Place k, v) (placed_from (k + 1) vs) (l, x) has)

pub in_rest : {X : Type 0} (vs : List X) (i : ℕ) (x : X) → Contains (remove vs i) x → Contains vs x
in_rest [] zero x has = has
in_rest [] (suc i) x has = has
in_rest (v ∷ vs) zero x has = later v vs x has
in_rest (v ∷ vs) (suc i) x has = ⊎_elim
    (λ one. subst (λ y. Contains (v ∷ vs) y) one (0, omega arith, refl))
    (λ old. later v vs x (in_rest vs i x old))
    (in_first v (remove vs i) x has)

-- each value that is left was there
pub left_values : (o : Object) (i : ℕ) (l : Label) (x : Value) → Contains (without i o).triples (l, x) → (j : Label) × Contains o.triples (j, x)
left_values o i l x has =
    let z = contains_map_back value_under o.triples x (in_rest (map value_under o.triples) i x (in_placed 0 (remove (map value_under o.triples) i) l x has)) in
    (z.0.0, subst (λ y. Contains o.triples (z.0.0, y)) z.2 z.1)

placed_renamed : (f : Name → Name) (k : ℕ) (vs : List Value) → map (renamed_triple f) (placed_from k vs) ≡ placed_from k (map (renamed f) vs)
placed_renamed f k [] = refl
placed_renamed f k (v ∷ vs) = ap (λ ts. (Place k, renamed f v) ∷ ts) (placed_renamed f (k + 1) vs)

values_renamed : (f : Name → Name) (ts : List (Label × Value)) → map (renamed f) (map value_under ts) ≡ map value_under (map (renamed_triple f) ts)
values_renamed f [] = refl
values_renamed f (t ∷ ts) = ap (λ vs. renamed f t.1 ∷ vs) (values_renamed f ts)

-- names do not matter to which element goes
pub without_same : (names : Naming) (h : Owner) (i : ℕ) (o : Object) → named names h (without i o) ≡ without i (named names h o)
without_same names h i o =
    let f = name_in names h in
    ap (λ ts. let p : Object = record o { triples = ts } in p) (placed_renamed f 0 (remove (map value_under o.triples) i)
    ∙ ap (placed_from 0) (map_remove (renamed f) (map value_under o.triples) i ∙ ap (λ vs. remove vs i) (values_renamed f o.triples)))

placed_values : (k : ℕ) (vs : List Value) → map value_under (placed_from k vs) ≡ vs
placed_values k [] = refl
placed_values k (v ∷ vs) = ap (λ us. v ∷ us) (placed_values (k + 1) vs)

-- what the space has then
pub taken_is : (o : Object) (vs : List Value) (i : ℕ) → o.triples ≡ placed_from 0 vs → record o { triples = placed_from 0 (remove vs i) } ≡ without i o
taken_is o vs i e = ap (λ us. let p : Object = record o { triples = placed_from 0 (remove us i) } in p) (sym (ap (map value_under) e ∙ placed_values 0 vs))

pub taken_slots : (r : Option Ref) (slots new : List Slot) (n i : ℕ) (o : Object) → IsSome r
    → IfSome r (λ x. (vs : List Value) × (o.triples ≡ placed_from 0 vs) × (slice_get vs i ≡ Some (value_of x)) × (new ≡ slice_set slots n (Here (record o { triples = placed_from 0 (remove vs i) }))))
    → new ≡ slice_set slots n (Here (without i o))
taken_slots (Some x) slots new n i o is (vs, e, at, after) = after ∙ ap (λ p. slice_set slots n (Here p)) (taken_is o vs i e)
taken_slots None slots new n i o is h = let z : ⊥ = cc in absurd z
