-- A search through a block: what was found, and what is left to look at.
use Rattle.std.proofs.Common.{◌≡◌, ◌∙◌, sym, ap, subst, refl, arith, ℕ, ◌+◌, ◌<◌, ◌≤◌, ◌⊎◌, ⊎_elim, inl, inr, List, [], ◌∷◌, ◌++◌, length, map, All, Contains, IsTrue, IsFalse, Some, None, true, false, nat_lt, get_or}
use Rattle.std.proofs.lemmas.Bool.Decides.{nat_tests}
use Rattle.std.proofs.lemmas.List.Elements.{Contains-append_left, Contains-append_right, Contains-append_cases, Contains-push, Contains-push_cases, All-contains}
use Rattle.std.proofs.Math.ListN.{get_or-eq_default}
use Rattle.rr_tree.specs.Tree.{Tree, tree_at, HasPartsBefore}
use Rattle.rr_tree.specs.Nodes.{node_tree, IsNoItem}
use Rattle.rr_tree.specs.declared.node.Node.{Node}
use Rattle.rr_tree.specs.declared.node.Node.TheVariants as node
use Rattle.rr_isolation.specs.Parts.{parts, opened, Within, itself, in_part}
use Rattle.rr_isolation.specs.Outer.{LeadsOut, IsBlock, IsYield}
use Rattle.rr_isolation.specs.Finds.{first_of, Knows, Describes}
use Rattle.rr_isolation.specs.Numbers.{numbers, spots}
use Rattle.rr_isolation.specs.declared.found.Found.{Found}
use Rattle.rr_isolation.specs.declared.parts.PartNumbers.{PartNumbers}
use Rattle.rr_isolation.specs.declared.search.Spot.{Spot}
use Rattle.rr_isolation.proofs.Spots.{spot, contained, contains_map, contained_spot}

-- ---- trees in trees

-- what stands in a tree is the tree, or stands in a part
pub record Deeper (k : ℕ) (u t : Tree) : Type 0 where
  pub part : Tree
  pub has : Contains (parts t) part
  pub inside : ℕ
  pub stands : Within inside u part
  pub is : k ≡ opened t + inside

pub top : (k : ℕ) (u t : Tree) → Within k u t → ((k ≡ 0) × (u ≡ t)) ⊎ Deeper k u t
top _ _ _ (itself t) = inl (refl, refl)
top _ _ _ (in_part k u p t has rest) = inr (record { part = p; has = has; inside = k; stands = rest; is = refl })

-- a part of what stands in a tree stands there too
below : (p : Tree) (k : ℕ) (u t : Tree) → Contains (parts u) p → Within k u t → Within (opened u + k) p t
below p _ _ _ has (itself t) = in_part 0 p p t has (itself p)
below p _ _ _ has (in_part k u q t in_t rest) =
    subst (λ j. Within j p t) (omega arith) (in_part (opened u + k) p q t in_t (below p k u q has rest))

-- ---- what is left to look at

-- the tree stands, so many blocks deep, in what is left
pub record IsPending (ns : List Node) (pending : List Spot) (blocks : ℕ) (t : Tree) : Type 0 where
  pub spot : Spot
  pub here : Contains pending spot
  pub inside : ℕ
  pub stands : Within inside t (tree_at ns spot.node)
  pub is : blocks ≡ spot.blocks + inside

-- a use or a `yield` was found, or stands in what is left; what was found, and what is left, stands in the block
pub record IsSearch (ns : List Node) (block : ℕ) (f : Found) (pending : List Spot) : Type 0 where
  pub stands : (s : Spot) → Contains pending s → Within s.blocks (tree_at ns s.node) (tree_at ns block)
  pub fits : (s : Spot) → Contains pending s → s.node + s.blocks ≤ block
  pub reaches : (k : ℕ) (t : Tree) → Within k t (tree_at ns block) → Knows f k t ⊎ IsPending ns pending k t
  pub names : (x b : ℕ) → first_of f x ≡ Some b → (k : ℕ) × (t : Tree) × Within k t (tree_at ns block) × LeadsOut k t x b
  pub yields : IsTrue f.yields → (k : ℕ) × (t : Tree) × Within k t (tree_at ns block) × IsYield t

-- ---- one step

-- a node whose parts stand before its number stands at a place within the table, or could
record Fits (ns : List Node) (n : Node) : Type 0 where
  at : ℕ
  before : HasPartsBefore at n
  within : at ≤ length ns

fits : (ns : List Node) (i : ℕ) (n : Node) → n ≡ get_or ns i node.Nil → HasPartsBefore i n → Fits ns n
fits ns i n e before = elim (nat_lt i (length ns)) as (λ b. nat_lt i (length ns) ≡ b → Fits ns n) [
  | true ↦ λ t. record { at = i; before = before; within = grind (arith, nat_tests) }
  | false ↦ λ t. let past : length ns ≤ i = grind (arith, nat_tests) in record { at = 0; before = subst (HasPartsBefore 0) (sym (e ∙ get_or-eq_default ns node.Nil past)) tt; within = omega arith }
] refl

-- a node is an item or none
pub item_or : (n : Node) → ((a : ℕ) × (n ≡ node.Item a)) ⊎ IsNoItem n
item_or (node.Item a) = inl (a, refl)
item_or n = inr tt

pub only : {A : Type 0} (a m : A) → Contains (a ∷ []) m → a ≡ m
only a m has = ⊎_elim (λ none. absurd (omega (arith, none.1))) (λ e. e) (Contains-push_cases [] a m has)

-- the node at a spot is looked at, and its parts are left to look at
pub record IsStep (ns : List Node) (s : Spot) (n : Node) (p : PartNumbers) (inside : ℕ) (f g : Found) : Type 0 where
  pub there : n ≡ get_or ns s.node node.Nil
  pub tree : tree_at ns s.node ≡ node_tree ns n
  pub before : HasPartsBefore s.node n
  pub numbers_before : All (λ k. k < s.node) (numbers p)
  pub trees : (i : ℕ) → IsNoItem n → HasPartsBefore i n → i ≤ length ns → map (tree_at ns) (numbers p) ≡ parts (node_tree ns n)
  pub item : (a : ℕ) → n ≡ node.Item a → (numbers p ≡ a ∷ []) × (inside ≡ s.blocks)
  pub opens : IsNoItem n → inside ≡ opened (node_tree ns n) + s.blocks
  pub most : inside ≤ s.blocks + 1
  pub knows : IsNoItem n → Knows g s.blocks (node_tree ns n)
  pub keeps : (k : ℕ) (t : Tree) → Knows f k t → Knows g k t
  pub names : (x b : ℕ) → first_of g x ≡ Some b → (first_of f x ≡ Some b) ⊎ LeadsOut s.blocks (node_tree ns n) x b
  pub yields : IsTrue g.yields → IsTrue f.yields ⊎ IsYield (node_tree ns n)

module _ (ns : List Node) (block : ℕ) (s : Spot) (n : Node) (p : PartNumbers) (inside : ℕ) (f g : Found) (rest : List Spot) (step : IsStep ns s n p inside f g)
    (old : IsSearch ns block f (rest ++ s ∷ [])) where
  abbrev new : List Spot
  new = rest ++ spots inside (numbers p)

  trees_are : IsNoItem n → map (tree_at ns) (numbers p) ≡ parts (tree_at ns s.node)
  trees_are no_item = let at = fits ns s.node n step.there step.before in step.trees at.at no_item at.before at.within ∙ ap parts (sym step.tree)

  opens_are : IsNoItem n → inside ≡ opened (tree_at ns s.node) + s.blocks
  opens_are no_item = step.opens no_item ∙ ap (λ t. opened t + s.blocks) (sym step.tree)

  item_tree : (a : ℕ) → n ≡ node.Item a → tree_at ns s.node ≡ tree_at ns a
  item_tree a e = step.tree ∙ ap (node_tree ns) e

  here : Within s.blocks (tree_at ns s.node) (tree_at ns block)
  here = old.stands s (Contains-push rest s)

  -- a part stands in the block
  part_stands : (m : ℕ) → Contains (numbers p) m → Within inside (tree_at ns m) (tree_at ns block)
  part_stands m has = ⊎_elim
      (λ item.
      let is = step.item item.0 item.1 in
      let same : item.0 ≡ m = only item.0 m (subst (λ (l : List ℕ). Contains l m) is.0 has) in
      subst (λ j. Within j (tree_at ns m) (tree_at ns block)) (sym is.1)
      (subst (λ t. Within s.blocks t (tree_at ns block)) (item_tree item.0 item.1 ∙ ap (tree_at ns) same) here))
      (λ no_item. subst (λ j. Within j (tree_at ns m) (tree_at ns block)) (sym (opens_are no_item))
      (below (tree_at ns m) s.blocks (tree_at ns s.node) (tree_at ns block) (subst (λ (l : List Tree). Contains l (tree_at ns m)) (trees_are no_item) (contains_map (tree_at ns) (numbers p) m has)) here))
      (item_or n)

  -- what stands at the spot was found, or stands in a part
  found_or_left : (j : ℕ) (t : Tree) → Within j t (tree_at ns s.node) → Knows g (s.blocks + j) t ⊎ IsPending ns new (s.blocks + j) t
  found_or_left j t stands = ⊎_elim
      (λ item.
      let is = step.item item.0 item.1 in
      let in_parts : Contains (numbers p) item.0 = subst (λ (l : List ℕ). Contains l item.0) (sym is.0) (Contains-push [] item.0) in
      inr (record {
        spot = spot inside item.0;
        here = left item.0 in_parts;
        inside = j;
        stands = subst (λ u. Within j t u) (item_tree item.0 item.1) stands;
        is = ap (λ b. b + j) (sym is.1);
      }))
      (λ no_item. ⊎_elim
      (λ at_top.
      let none = at_top.0 in
      let blocks : s.blocks ≡ s.blocks + j = omega arith in
      inl (subst (λ k. Knows g k t) blocks (subst (λ u. Knows g s.blocks u) (sym step.tree ∙ sym at_top.1) (step.knows no_item))))
      (λ d.
      let m = contained (tree_at ns) 0 (numbers p) d.part (subst (λ (l : List Tree). Contains l d.part) (sym (trees_are no_item)) d.has) in
      let deep = d.is in
      let opens = opens_are no_item in
      inr (record {
        spot = spot inside m.0;
        here = left m.0 m.1;
        inside = d.inside;
        stands = subst (λ u. Within d.inside t u) (sym m.2) d.stands;
        is = omega arith;
      }))
      (top j t (tree_at ns s.node) stands))
      (item_or n)
    where
      left : (m : ℕ) → Contains (numbers p) m → Contains new (spot inside m)
      left m has = Contains-append_right rest (spots inside (numbers p)) (spot inside m) (contains_map (spot inside) (numbers p) m has)

  pub searched : IsSearch ns block g new
  searched = record {
    stands = λ q has. ⊎_elim (λ left. old.stands q (Contains-append_left rest (s ∷ []) q left))
        (λ part. let is = contained_spot inside (numbers p) q part in subst (λ j. Within j (tree_at ns q.node) (tree_at ns block)) (sym is.1) (part_stands q.node is.0))
        (Contains-append_cases rest (spots inside (numbers p)) q has);
    fits = λ q has. ⊎_elim (λ left. old.fits q (Contains-append_left rest (s ∷ []) q left))
        (λ part. let is = contained_spot inside (numbers p) q part in
        let lt : q.node < s.node = All-contains (λ k. k < s.node) (numbers p) q.node step.numbers_before is.0 in
        let most = step.most in
        let all = old.fits s (Contains-push rest s) in
        let same = is.1 in
        omega arith)
        (Contains-append_cases rest (spots inside (numbers p)) q has);
    reaches = λ k t stands. ⊎_elim (λ known. inl (step.keeps k t known))
        (λ w. ⊎_elim (λ left. inr (record { spot = w.spot; here = Contains-append_left rest (spots inside (numbers p)) w.spot left; inside = w.inside; stands = w.stands; is = w.is }))
        (λ same. let stands_here : Within w.inside t (tree_at ns s.node) = subst (λ (q : Spot). Within w.inside t (tree_at ns q.node)) (sym same) w.stands in
        let blocks : s.blocks + w.inside ≡ k = ap (λ (q : Spot). q.blocks + w.inside) same ∙ sym w.is in
        subst (λ j. Knows g j t ⊎ IsPending ns new j t) blocks (found_or_left w.inside t stands_here))
        (Contains-push_cases rest s w.spot w.here))
        (old.reaches k t stands);
    names = λ x b e. ⊎_elim (λ was. old.names x b was) (λ out. (s.blocks, tree_at ns s.node, here, subst (λ t. LeadsOut s.blocks t x b) (sym step.tree) out)) (step.names x b e);
    yields = λ yes. ⊎_elim (λ was. old.yields was) (λ out. (s.blocks, tree_at ns s.node, here, subst IsYield (sym step.tree) out)) (step.yields yes);
  }

-- ---- the first spot, and the last

pub begun : (ns : List Node) (block : ℕ) (f : Found) (pending : List Spot) → ((x : ℕ) → first_of f x ≡ None) → IsFalse f.yields → pending ≡ spot 0 block ∷ [] → IsSearch ns block f pending
begun ns block f pending names yields is = record {
  stands = λ q has. subst (λ (r : Spot). Within r.blocks (tree_at ns r.node) (tree_at ns block)) (first q has) (itself (tree_at ns block));
  fits = λ q has. subst (λ (r : Spot). r.node + r.blocks ≤ block) (first q has) (omega arith);
  reaches = λ k t stands. inr (record {
    spot = spot 0 block;
    here = subst (λ (l : List Spot). Contains l (spot 0 block)) (sym is) (Contains-push [] (spot 0 block));
    inside = k;
    stands = stands;
    is = omega arith;
  });
  names = λ x b e. let none = names x in absurd (cc);
  yields = λ yes. absurd (cc);
}
  where
    first : (q : Spot) → Contains pending q → spot 0 block ≡ q
    first q has = only (spot 0 block) q (subst (λ (l : List Spot). Contains l q) is has)

pub ended : (ns : List Node) (block : ℕ) (f : Found) (pending : List Spot) → pending ≡ [] → IsSearch ns block f pending → IsBlock (tree_at ns block) → Describes f (tree_at ns block)
ended ns block f pending none all is_block = record {
  sound = λ x b e. let w = all.names x b e in record { block = is_block; blocks = w.0; at = w.1; stands = w.2; leads_out = w.3 };
  complete = λ x b u. ⊎_elim (λ knows. knows.uses x b u.leads_out) (λ w. absurd (nowhere w)) (all.reaches u.blocks u.at u.stands);
  yields = (
    λ yes. let w = all.yields yes in record { block = is_block; blocks = w.0; at = w.1; stands = w.2; yields = w.3 },
    λ u. ⊎_elim (λ knows. knows.yields u.yields) (λ w. absurd (nowhere w)) (all.reaches u.blocks u.at u.stands),
  );
}
  where
    nowhere : {k : ℕ} {t : Tree} → IsPending ns pending k t → ⊥
    nowhere w = let has : Contains {X = Spot} [] w.spot = subst (λ (l : List Spot). Contains l w.spot) none w.here in omega (arith, has.1)
