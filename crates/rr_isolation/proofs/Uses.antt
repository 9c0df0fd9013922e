-- The uses that are counted are the uses of outer variables, and what is told of a block is what it tells.
use Rattle.std.proofs.Common.{◌≡◌, ◌∙◌, sym, ap, subst, refl, arith, ℕ, zero, suc, ◌+◌, ◌<◌, ◌≤◌, ◌⊎◌, ⊎_elim, inl, inr, Bool, true, false, ◌||◌, List, [], ◌∷◌, length, Contains, nat_lt, if◌then◌else◌}
use Rattle.std.specs.List.{flat_map, list_any}
use Rattle.std.proofs.lemmas.Bool.Decides.{nat_tests}
use Rattle.std.proofs.lemmas.List.Elements.{Contains-append_left, Contains-append_right, Contains-append_cases, Contains-push}
use Rattle.std.proofs.lemmas.List.Folds.{Any-from_list_any, list_any-from_Any}
use Rattle.rr_tree.specs.Tree.{Tree, tree_at, IsOrdered, local, assign, super, forwarding_super, yield}
use Rattle.rr_tree.specs.declared.node.Node.{Node}
use Rattle.rr_isolation.specs.Names.{use_at, uses_in, is_yield, yields_in}
use Rattle.rr_isolation.specs.Outer.{LeadsOut, IsYield, IsBlock, IsOuterUse, UsesYield}
use Rattle.rr_isolation.specs.Parts.{parts, opened, Within, itself, in_part}
use Rattle.rr_isolation.proofs.Numbered.{part_before}
use Rattle.rr_isolation.proofs.Searching.{only, top}

nothing : {A : Type 0} {x : A} → Contains [] x → ⊥
nothing has = omega (arith, has.1)

-- an element of one of the lists
from_flat : {A B : Type 0} (f : A → List B) (xs : List A) (y : B) → Contains (flat_map f xs) y → (x : A) × Contains xs x × Contains (f x) y
from_flat f [] y has = absurd (nothing has)
from_flat f (x ∷ xs) y has = ⊎_elim
    (λ here. (x, (0, omega arith, refl), here))
    (λ later. let r = from_flat f xs y later in let at = r.1 in (r.0, (suc at.0, let lt = at.1 in omega arith, at.2), r.2))
    (Contains-append_cases (f x) (flat_map f xs) y has)

in_flat : {A B : Type 0} (f : A → List B) (xs : List A) (x : A) (y : B) → Contains xs x → Contains (f x) y → Contains (flat_map f xs) y
in_flat f [] x y has at = absurd (nothing has)
in_flat f (z ∷ xs) x y (zero, lt, e) at = Contains-append_left (f z) (flat_map f xs) y (subst (λ w. Contains (f w) y) (sym e) at)
in_flat f (z ∷ xs) x y (suc k, lt, e) at = Contains-append_right (f z) (flat_map f xs) y (in_flat f xs x y (k, omega arith, e) at)

-- ---- uses

variable_use : (scopes depth y w x b : ℕ) → Contains {X = ℕ × ℕ} (if nat_lt depth scopes then [] else (y, w) ∷ []) (x, b) → (y ≡ x) × (w ≡ b) × (scopes ≤ depth)
variable_use scopes depth y w x b has = elim (nat_lt depth scopes) as (λ r. nat_lt depth scopes ≡ r → Contains {X = ℕ × ℕ} (if r then [] else (y, w) ∷ []) (x, b) → (y ≡ x) × (w ≡ b) × (scopes ≤ depth)) [
  | true ↦ λ e h. absurd (nothing h)
  | false ↦ λ e h. let same = only (y, w) (x, b) h in (ap (λ (p : ℕ × ℕ). p.0) same, ap (λ (p : ℕ × ℕ). p.1) same, grind (arith, nat_tests))
] refl has

use_variable : (scopes depth y w : ℕ) → scopes ≤ depth → Contains {X = ℕ × ℕ} (if nat_lt depth scopes then [] else (y, w) ∷ []) (y, w)
use_variable scopes depth y w le = elim (nat_lt depth scopes) as (λ r. nat_lt depth scopes ≡ r → Contains {X = ℕ × ℕ} (if r then [] else (y, w) ∷ []) (y, w)) [
  | true ↦ λ e. absurd (grind (arith, nat_tests))
  | false ↦ λ e. Contains-push [] (y, w)
] refl

use_at-sound : (scopes : ℕ) (t : Tree) (x b : ℕ) → Contains (use_at scopes t) (x, b) → LeadsOut scopes t x b
use_at-sound scopes (local depth slot y w) x b has = variable_use scopes depth y w x b has
use_at-sound scopes (assign depth slot y w value) x b has = variable_use scopes depth y w x b has
use_at-sound scopes _ x b has = absurd (nothing has)

use_at-complete : (scopes : ℕ) (t : Tree) (x b : ℕ) → LeadsOut scopes t x b → Contains (use_at scopes t) (x, b)
use_at-complete scopes (local depth slot y w) x b (name, words, le) = subst (λ (p : ℕ × ℕ). Contains (use_at scopes (local depth slot y w)) p) (ap (λ (m : ℕ). (m, w)) name ∙ ap (λ (m : ℕ). (x, m)) words) (use_variable scopes depth y w le)
use_at-complete scopes (assign depth slot y w value) x b (name, words, le) = subst (λ (p : ℕ × ℕ). Contains (use_at scopes (assign depth slot y w value)) p) (ap (λ (m : ℕ). (m, w)) name ∙ ap (λ (m : ℕ). (x, m)) words) (use_variable scopes depth y w le)
use_at-complete scopes _ x b out = absurd out

-- a use stands somewhere in the tree
record Stands (blocks : ℕ) (t : Tree) (x b : ℕ) : Type 0 where
  inside : ℕ
  at : Tree
  within : Within inside at t
  leads_out : LeadsOut (blocks + inside) at x b

uses_sound : (d blocks : ℕ) (t : Tree) (x b : ℕ) → Contains (uses_in d blocks t) (x, b) → Stands blocks t x b
uses_sound zero blocks t x b has = absurd (nothing has)
uses_sound (suc d) blocks t x b has = ⊎_elim
    (λ here. record {
      inside = 0;
      at = t;
      within = itself t;
      leads_out = subst (λ k. LeadsOut k t x b) (omega arith) (use_at-sound blocks t x b here);
    })
    (λ later.
    let f = λ (p : Tree). uses_in d (opened t + blocks) p in
    let from = from_flat f (parts t) (x, b) later in
    let below = uses_sound d (opened t + blocks) from.0 x b from.2 in
    record {
      inside = opened t + below.inside;
      at = below.at;
      within = in_part below.inside below.at from.0 t from.1 below.within;
      leads_out = subst (λ k. LeadsOut k below.at x b) (omega arith) below.leads_out;
    })
    (Contains-append_cases (use_at blocks t) (flat_map (λ p. uses_in d (opened t + blocks) p) (parts t)) (x, b) has)

uses_complete : (ns : List Node) → IsOrdered ns → (d blocks i : ℕ) → i < d → (x b : ℕ) → Stands blocks (tree_at ns i) x b → Contains (uses_in d blocks (tree_at ns i)) (x, b)
uses_complete ns all zero blocks i lt x b s = absurd (omega arith)
uses_complete ns all (suc d) blocks i lt x b s =
    let t = tree_at ns i in
    let f = λ (p : Tree). uses_in d (opened t + blocks) p in
    ⊎_elim
    (λ at_top.
    let none = at_top.0 in
    let same : blocks + s.inside ≡ blocks = omega arith in
    Contains-append_left (use_at blocks t) (flat_map f (parts t)) (x, b) (use_at-complete blocks t x b (subst (λ k. LeadsOut k t x b) same (subst (λ u. LeadsOut (blocks + s.inside) u x b) at_top.1 s.leads_out))))
    (λ deep.
    let from = part_before ns all (suc i) i (omega arith) deep.part deep.has in
    let lower = from.before in
    let is = deep.is in
    let under : Stands (opened t + blocks) (tree_at ns from.at) x b = record {
      inside = deep.inside;
      at = s.at;
      within = subst (λ u. Within deep.inside s.at u) (sym from.is) deep.stands;
      leads_out = subst (λ k. LeadsOut k s.at x b) (omega arith) s.leads_out;
    } in
    let found : Contains (f deep.part) (x, b) = subst (λ u. Contains (f u) (x, b)) from.is (uses_complete ns all d (opened t + blocks) from.at (omega arith) x b under) in
    Contains-append_right (use_at blocks t) (flat_map f (parts t)) (x, b) (in_flat f (parts t) deep.part (x, b) deep.has found))
    (top s.inside s.at t s.within)

-- the uses in a block that lead out of it
pub uses_are : (ns : List Node) → IsOrdered ns → (i : ℕ) → i < length ns → IsBlock (tree_at ns i) → (x b : ℕ) → (Contains (uses_in (length ns) 0 (tree_at ns i)) (x, b) → IsOuterUse (tree_at ns i) x b) × (IsOuterUse (tree_at ns i) x b → Contains (uses_in (length ns) 0 (tree_at ns i)) (x, b))
uses_are ns all i lt is_block x b = (
  λ has. let s = uses_sound (length ns) 0 (tree_at ns i) x b has in record { block = is_block; blocks = s.inside; at = s.at; stands = s.within; leads_out = subst (λ k. LeadsOut k s.at x b) (omega arith) s.leads_out },
  λ u. uses_complete ns all (length ns) 0 i lt x b (record { inside = u.blocks; at = u.at; within = u.stands; leads_out = subst (λ k. LeadsOut k u.at x b) (omega arith) u.leads_out }),
)

-- ---- `yield`

is_yield-sound : (t : Tree) → is_yield t ≡ true → IsYield t
is_yield-sound (yield l) e = tt
is_yield-sound (super l) e = tt
is_yield-sound forwarding_super e = tt
is_yield-sound _ e = absurd (cc e)

is_yield-complete : (t : Tree) → IsYield t → is_yield t ≡ true
is_yield-complete (yield l) h = refl
is_yield-complete (super l) h = refl
is_yield-complete forwarding_super h = refl
is_yield-complete _ h = absurd h

record Yields (t : Tree) : Type 0 where
  inside : ℕ
  at : Tree
  within : Within inside at t
  yields : IsYield at

or_cases : (a b : Bool) → (a || b) ≡ true → (a ≡ true) ⊎ (b ≡ true)
or_cases true b e = inl refl
or_cases false b e = inr e

or_left : (a b : Bool) → a ≡ true → (a || b) ≡ true
or_left true b e = refl
or_left false b e = absurd (cc e)

or_right : (a b : Bool) → b ≡ true → (a || b) ≡ true
or_right true b e = refl
or_right false b e = e

yields_sound : (d : ℕ) (t : Tree) → yields_in d t ≡ true → Yields t
yields_sound zero t e = absurd (cc e)
yields_sound (suc d) t e = ⊎_elim
    (λ here. record { inside = 0; at = t; within = itself t; yields = is_yield-sound t here })
    (λ later.
    let some = Any-from_list_any (λ p. yields_in d p) (parts t) later in
    let p = some.1 in
    let has : Contains (parts t) p = (some.0, some.2, some.3) in
    let below = yields_sound d p some.4 in
    record { inside = opened t + below.inside; at = below.at; within = in_part below.inside below.at p t has below.within; yields = below.yields })
    (or_cases (is_yield t) (list_any (λ p. yields_in d p) (parts t)) e)

yields_complete : (ns : List Node) → IsOrdered ns → (d i : ℕ) → i < d → Yields (tree_at ns i) → yields_in d (tree_at ns i) ≡ true
yields_complete ns all zero i lt y = absurd (omega arith)
yields_complete ns all (suc d) i lt y =
    let t = tree_at ns i in
    let others = list_any (λ p. yields_in d p) (parts t) in
    ⊎_elim
    (λ at_top. or_left (is_yield t) others (is_yield-complete t (subst IsYield at_top.1 y.yields)))
    (λ deep.
    let from = part_before ns all (suc i) i (omega arith) deep.part deep.has in
    let lower = from.before in
    let under : Yields (tree_at ns from.at) = record { inside = deep.inside; at = y.at; within = subst (λ u. Within deep.inside y.at u) (sym from.is) deep.stands; yields = y.yields } in
    let found : yields_in d deep.part ≡ true = subst (λ u. yields_in d u ≡ true) from.is (yields_complete ns all d from.at (omega arith) under) in
    or_right (is_yield t) others (list_any-from_Any (λ p. yields_in d p) (parts t) (deep.has.0, deep.part, deep.has.1, deep.has.2, found)))
    (top y.inside y.at t y.within)

-- `yield` or `super` stands in a block
pub yields_are : (ns : List Node) → IsOrdered ns → (i : ℕ) → i < length ns → IsBlock (tree_at ns i) → (yields_in (length ns) (tree_at ns i) ≡ true → UsesYield (tree_at ns i)) × (UsesYield (tree_at ns i) → yields_in (length ns) (tree_at ns i) ≡ true)
yields_are ns all i lt is_block = (
  λ e. let y = yields_sound (length ns) (tree_at ns i) e in record { block = is_block; blocks = y.inside; at = y.at; stands = y.within; yields = y.yields },
  λ u. yields_complete ns all (length ns) i lt (record { inside = u.blocks; at = u.at; within = u.stands; yields = u.yields }),
)
