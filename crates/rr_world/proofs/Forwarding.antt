-- The slots of a space as they are seen through a published plan.
use Rattle.std.proofs.Common.{◌≡◌, ℕ, zero, suc, ◌+◌, ◌<◌, List, [], ◌∷◌, ◌++◌, length, Option, Some, None, true, slice_get, slice_set, Contains, sym, ap, ◌∙◌, subst, refl, arith, length-set}
use Rattle.std.proofs.lemmas.Option.{same_Some}
use Rattle.rr_space.specs.Graph.{Object}
use Rattle.rr_space.specs.Tables.{Table, Slot, Here, Led}
use Rattle.rr_space.specs.Moves.{IsForwarded, forwarded_from}
use Rattle.rr_space.proofs.Keeping.{forwarded_is_exact}
use Rattle.rr_space.proofs.Renaming.{at_contains}
use Rattle.rr_share.specs.declared.planned.Plan.{Plan}
use Rattle.rr_share.proofs.Forwards.{planned_within}
use Rattle.rr_world.specs.Views.{PublishedPlan, Member, ArePlacesBelow, IsPlanFit, IsPublishedFit, seen_slots, seen_through}

-- the slot is none of the published plan
abbrev pub IsOut : Option PublishedPlan → ℕ → Type 0
IsOut None n = Unit {0}
IsOut (Some p) n = Contains p.places n → ⊥

pub seen_plain : (m : Member) → m.published ≡ None → seen_slots m ≡ m.space.slots
seen_plain m none = ap (λ x. seen_through x m.space.slots) none

forwarded_size : (c i : ℕ) (places : List ℕ) (slots : List Slot) → length (forwarded_from c i places slots) ≡ length slots
forwarded_size c i [] slots = refl
forwarded_size c i (n ∷ places) slots = forwarded_size c (i + 1) places (slice_set slots n (Led c i)) ∙ length-set slots n (Led c i)

pub seen_length : (x : Option PublishedPlan) (slots : List Slot) → length (seen_through x slots) ≡ length slots
seen_length None slots = refl
seen_length (Some p) slots = forwarded_size p.cluster.number 0 p.places slots

-- the places of a plan are slots with frozen objects
pub plan_below : (t : Table) (x : Option Plan) → IsPlanFit t x → ArePlacesBelow (length t.slots) x
plan_below t None fit = tt
plan_below t (Some plan) fit = λ n has. let q = at_contains plan.places n has in planned_within t plan.cluster plan.places fit q.0 n q.1

pub seen_forwards : (t : Table) (p : PublishedPlan) → IsPublishedFit t (Some p) → IsForwarded p.cluster.number p.places t.slots (seen_through (Some p) t.slots)
seen_forwards t p fit = forwarded_is_exact p.cluster.number p.places t.slots fit.distinct (λ n i at. planned_within t p.cluster p.places fit i n at)

-- an object that is seen is the space's still
pub seen_here : (t : Table) (x : Option PublishedPlan) (n : ℕ) (o : Object) → IsPublishedFit t x → slice_get (seen_through x t.slots) n ≡ Some (Here o) → IsOut x n
seen_here t None n o fit at = tt
seen_here t (Some p) n o fit at = λ has.
    let q = at_contains p.places n has in
    let z : Here o ≡ Led p.cluster.number q.0 = same_Some _ _ (sym at ∙ (seen_forwards t p fit).named n q.0 q.1) in
    let y : ⊥ = cc in y

pub seen_out : (t : Table) (x : Option PublishedPlan) (n : ℕ) → IsPublishedFit t x → IsOut x n → slice_get (seen_through x t.slots) n ≡ slice_get t.slots n
seen_out t None n fit out = refl
seen_out t (Some p) n fit out = (seen_forwards t p fit).others n out

-- what is not frozen is in no plan
pub thawed_out : (t : Table) (x : Option PublishedPlan) (n : ℕ) (o : Object) → IsPublishedFit t x → slice_get t.slots n ≡ Some (Here o) → (o.frozen ≡ true → ⊥) → IsOut x n
thawed_out t None n o fit at thawed = tt
thawed_out t (Some p) n o fit at thawed = λ has.
    let q = at_contains p.places n has in
    let s = fit.same n q.0 q.1 in
    thawed (subst (λ (y : Object). y.frozen ≡ true) (let z : Here s.0 ≡ Here o = same_Some _ _ (sym s.2 ∙ at) in let y : s.0 ≡ o = cc in y) s.4)

set_apart : {A : Type 0} (xs : List A) (i j : ℕ) (x y : A) → (i ≡ j → ⊥) → slice_set (slice_set xs i x) j y ≡ slice_set (slice_set xs j y) i x
set_apart [] i j x y differ = refl
set_apart (z ∷ xs) zero zero x y differ = absurd (differ refl)
set_apart (z ∷ xs) zero (suc j) x y differ = refl
set_apart (z ∷ xs) (suc i) zero x y differ = refl
set_apart (z ∷ xs) (suc i) (suc j) x y differ = ap (λ ys. z ∷ ys) (set_apart xs i j x y (λ e. differ (ap suc e)))

forwarded_set : (c i : ℕ) (places : List ℕ) (slots : List Slot) (n : ℕ) (s : Slot) → (Contains places n → ⊥) → forwarded_from c i places (slice_set slots n s) ≡ slice_set (forwarded_from c i places slots) n s
forwarded_set c i [] slots n s out = refl
forwarded_set c i (m ∷ places) slots n s out =
    ap (forwarded_from c (i + 1) places) (set_apart slots n m s (Led c i) (λ e. out (0, omega arith, sym e)))
    ∙ forwarded_set c (i + 1) places (slice_set slots m (Led c i)) n s (λ (k, lt, e). out (suc k, omega (arith, lt), e))

-- another slot is set, and slots come behind
pub seen_set : (x : Option PublishedPlan) (slots : List Slot) (n : ℕ) (s : Slot) → IsOut x n → seen_through x (slice_set slots n s) ≡ slice_set (seen_through x slots) n s
seen_set None slots n s out = refl
seen_set (Some p) slots n s out = forwarded_set p.cluster.number 0 p.places slots n s out

set_before : {A : Type 0} (xs ys : List A) (i : ℕ) (x : A) → i < length xs → slice_set (xs ++ ys) i x ≡ slice_set xs i x ++ ys
set_before [] ys i x lt = absurd (omega (arith, lt))
set_before (z ∷ xs) ys zero x lt = refl
set_before (z ∷ xs) ys (suc i) x lt = ap (λ zs. z ∷ zs) (set_before xs ys i x (omega (arith, lt)))

forwarded_more : (c i : ℕ) (places : List ℕ) (slots more : List Slot) → ((n : ℕ) → Contains places n → n < length slots) → forwarded_from c i places (slots ++ more) ≡ forwarded_from c i places slots ++ more
forwarded_more c i [] slots more within = refl
forwarded_more c i (m ∷ places) slots more within =
    ap (forwarded_from c (i + 1) places) (set_before slots more m (Led c i) (within m (0, omega arith, refl)))
    ∙ forwarded_more c (i + 1) places (slice_set slots m (Led c i)) more (λ n (k, lt, e). let l = within n (suc k, omega (arith, lt), e) in omega (arith, l, length-set slots m (Led c i)))

pub published_below : (t : Table) (p : PublishedPlan) → IsPublishedFit t (Some p) → (n : ℕ) → Contains p.places n → n < length t.slots
published_below t p fit n has = let q = at_contains p.places n has in planned_within t p.cluster p.places fit q.0 n q.1

pub seen_more : (t : Table) (x : Option PublishedPlan) (more : List Slot) → IsPublishedFit t x → seen_through x (t.slots ++ more) ≡ seen_through x t.slots ++ more
seen_more t None more fit = refl
seen_more t (Some p) more fit = forwarded_more p.cluster.number 0 p.places t.slots more (published_below t p fit)
