-- Operators on arguments, which stand in the place of a frame's variables.
use Rattle.std.proofs.Common.{◌≡◌, ◌∙◌, ℕ, zero, suc, ◌+◌, ◌≤◌, ap, subst, refl, arith, Bool, true, false, if◌then◌else◌, List, [], ◌∷◌, ◌++◌, length, Option, None, Some, slice_get}
use Rattle.std.proofs.lemmas.List.{append_assoc}
use Rattle.rr_parser.specs.Grammar.Names.{is_splat}
use Rattle.rr_frames.specs.Frames.{Frame as Activated}
use Rattle.rr_space.specs.Tables.{Table}
use Rattle.rr_space.specs.declared.refer.Ref.{Ref}
use Rattle.rr_tree.specs.Nodes.{trees_before}
use Rattle.rr_tree.specs.Tree.{Tree, int, local, binary, call, listed, sequence, empty, then_one, tree_at}
use Rattle.rr_tree.specs.declared.node.BinaryOperator.{BinaryOperator}
use Rattle.rr_tree.specs.declared.node.Node.{Node}
use Rattle.rr_tree.specs.declared.program.Program.{Program}
use Rattle.rr_eval.specs.declared.chains.Chain.{Chain}
use Rattle.rr_eval.specs.declared.chains.Link.{Link}
use Rattle.rr_eval.specs.declared.problem.Answer.TheVariants.{Gave}
use Rattle.rr_eval.specs.Context.{Context}
use Rattle.rr_eval.specs.Filled.{FillsInside, leaf_values, value_or_nil}
use Rattle.rr_eval.specs.Frames.{runs_in}
use Rattle.rr_eval.specs.Rules.{arguments, on_value, operation}
use Rattle.rr_eval.specs.Script.{Ret}
use Rattle.rr_eval.specs.SimpleParts.{IsFilled, are_leaves, filled, filled_list, is_leaf, linked, links_of, most, operator_on}
use Rattle.rr_eval.specs.Splats.{spread}
use Rattle.rr_eval.specs.Turns.{context_of, code_of, leaf_value, state_of}
use Rattle.rr_eval.specs.Unframed.{TakesInside, framed_with}
use Rattle.rr_eval.specs.Usual.{ComesTo, TakeFirst, TakesNow}
use Rattle.rr_eval.specs.View.{View}
use Rattle.rr_eval.proofs.Frameless.{reads_own}
use Rattle.rr_eval.proofs.Quickly.{leaf_takes}
use Rattle.rr_eval.proofs.QuickParts.{comes_then, first_none, part_comes}
use Rattle.rr_eval.proofs.Simply.{operation_takes}
use Rattle.rr_eval.proofs.StraightRounds.{list_sets}
use Rattle.rr_eval.proofs.Trees.{items_listed}

-- a leaf has a value, and is no splat
leaf_has : (a : Tree) (frames : List Activated) → is_leaf a ≡ true → leaf_value a frames ≡ Some (value_or_nil (leaf_value a frames))
leaf_has (int z) frames e = refl
leaf_has (local depth slot x behind) frames e = refl
leaf_has _ frames e = absurd (cc e)

leaf_plain : (a : Tree) → is_leaf a ≡ true → is_splat a ≡ false
leaf_plain (int z) e = refl
leaf_plain (local depth slot x behind) e = refl
leaf_plain _ e = absurd (cc e)

-- leaves are the first one and the others
first_leaf : (b : Bool) (rest : Bool) → (if b then rest else false) ≡ true → (b ≡ true) × (rest ≡ true)
first_leaf true rest e = (refl, e)
first_leaf false rest e = absurd (cc e)

-- one of them
leaf_among : (trees : List Tree) (slot : ℕ) (a : Tree) → are_leaves trees ≡ true → slice_get trees slot ≡ Some a → is_leaf a ≡ true
leaf_among [] slot a leaves e = absurd (cc e)
leaf_among (b ∷ more) zero a leaves e = let same : b ≡ a = cc e in subst (λ z. is_leaf z ≡ true) same (first_leaf (is_leaf b) (are_leaves more) leaves).0
leaf_among (b ∷ more) (suc slot) a leaves e = leaf_among more slot a (first_leaf (is_leaf b) (are_leaves more) leaves).1 e

value_among : (trees : List Tree) (frames : List Activated) (slot : ℕ) (a : Tree) (v : Ref) → slice_get trees slot ≡ Some a → leaf_value a frames ≡ Some v → slice_get (leaf_values trees frames) slot ≡ Some v
value_among [] frames slot a v e is = absurd (cc e)
value_among (b ∷ more) frames zero a v e is = let same : b ≡ a = cc e in ap (λ z. Some (value_or_nil (leaf_value z frames))) same ∙ ap (λ o. Some (value_or_nil o)) is
value_among (b ∷ more) frames (suc slot) a v e is = value_among more frames slot a v e is

pub values_as_many : (trees : List Tree) (frames : List Activated) → length (leaf_values trees frames) ≡ length trees
values_as_many [] frames = refl
values_as_many (a ∷ more) frames = ap suc (values_as_many more frames)

-- leaves that are arguments take a step each
pub leaves_take : (p : Program) (m : View) (t : Table) (trees : List Tree) → are_leaves trees ≡ true → TakeFirst p m t trees (length trees) (leaf_values trees m.calls.frames) []
leaves_take p m t [] leaves = first_none p m t [] [] refl
leaves_take p m t (a ∷ more) leaves = λ stand next.
    let own = context_of p in
    let both = first_leaf (is_leaf a) (are_leaves more) leaves in
    let v = value_or_nil (leaf_value a m.calls.frames) in
    let vs = leaf_values more m.calls.frames in
    let takes = leaf_takes p m t a v (leaf_has a m.calls.frames both.0) in
    let go_on = λ (ws : List Ref). arguments own more (stand ++ ws) next in
    let first : ComesTo p m t (arguments own (a ∷ more) stand next) 1 (arguments own more (stand ++ v ∷ []) next) = λ h n.
    part_comes p m t a 1 v (on_value (λ w. spread own (is_splat a) w go_on)) takes h n
    ∙ ap (λ b. runs_in (code_of p h.world) (spread own b v go_on) (state_of p m t h) n) (leaf_plain a both.0) in
    let all : (stand ++ v ∷ []) ++ vs ≡ stand ++ v ∷ vs = append_assoc stand (v ∷ []) vs in
    λ h n.
    let sum : length (a ∷ more) + n ≡ 1 + length more + n = omega arith in
    ap (λ k. runs_in (code_of p h.world) (arguments own (a ∷ more) stand next) (state_of p m t h) k) sum
    ∙ comes_then p m t (arguments own (a ∷ more) stand next) (arguments own more (stand ++ v ∷ []) next) (next ((stand ++ v ∷ []) ++ vs)) 1 (length more) first (leaves_take p m t more both.1 (stand ++ v ∷ []) next) h n
    ∙ ap (λ l. runs_in (code_of p h.world) (next l) (state_of p m t h) n) all

-- what an operator on two options is
operator_is : (op : BinaryOperator) (x y : Option Tree) (whole : Tree) → operator_on op x y ≡ Some whole → (a : Tree) × (b : Tree) × (x ≡ Some a) × (y ≡ Some b) × (binary op a b ≡ whole)
operator_is op (Some a) (Some b) whole e = (a, b, refl, refl, cc e)
operator_is op (Some a) None whole e = absurd (cc e)
operator_is op None y whole e = absurd (cc e)

no_leaf : (op : BinaryOperator) (a b whole : Tree) (frames : List Activated) (v : Ref) → binary op a b ≡ whole → leaf_value whole frames ≡ Some v → ⊥
no_leaf op a b whole frames v e is = cc (ap (λ z. leaf_value z frames) e ∙ is)

-- what a leaf stands for, or is
pub leaf_fills : (p : Program) (m : View) (trees : List Tree) (home : ℕ) (whole : Tree) (v : Ref) → leaf_value whole m.calls.frames ≡ Some v → FillsInside p m trees home whole 1 v
leaf_fills p m trees home whole v is (int z) e = λ f t lies.
    let same : int z ≡ whole = cc e in
    leaf_takes p (framed_with f m) t (int z) v (ap (λ y. leaf_value y m.calls.frames) same ∙ is)
leaf_fills p m trees home whole v is (local zero slot x behind) e = λ f t lies.
    let there = value_among trees m.calls.frames slot whole v e is in
    leaf_takes p (framed_with f m) t (local zero slot x behind) v (ap Some (reads_own m.calls.frames f (leaf_values trees m.calls.frames) home slot v lies there))
leaf_fills p m trees home whole v is (local (suc depth) slot x behind) e = absurd (cc e)
leaf_fills p m trees home whole v is (binary op a b) e = let both = operator_is op (filled trees a) (filled trees b) whole e in absurd (no_leaf op both.0 both.1 whole m.calls.frames v both.4 is)
leaf_fills p m trees home whole v is _ e = absurd (cc e)

-- an operator on what stands for a tree, and a leaf
binary_parts : (o op : BinaryOperator) (a b x y : Tree) → binary o a b ≡ binary op x y → (o ≡ op) × (a ≡ x) × (b ≡ y)
binary_parts o op a b x y e = (cc e, cc e, cc e)

pub link_fills : (p : Program) (m : View) (trees : List Tree) (home : ℕ) (op : BinaryOperator) (whole right : Tree) (steps all : ℕ) (v w r : Ref) → are_leaves trees ≡ true → FillsInside p m trees home whole steps v → leaf_value right m.calls.frames ≡ Some w
    → ((c : Context) → operation c op v w ≡ Ret (Gave r)) → all ≡ steps + 2 → FillsInside p m trees home (binary op whole right) all r
link_fills p m trees home op whole right steps all v w r leaves fills is gives sum (int z) e = absurd (cc e)
link_fills p m trees home op whole right steps all v w r leaves fills is gives sum (local zero slot x behind) e = let none = leaf_among trees slot (binary op whole right) leaves e in absurd (cc none)
link_fills p m trees home op whole right steps all v w r leaves fills is gives sum (local (suc depth) slot x behind) e = absurd (cc e)
link_fills p m trees home op whole right steps all v w r leaves fills is gives sum (binary o a b) e = λ f t lies.
    let both = operator_is o (filled trees a) (filled trees b) (binary op whole right) e in
    let parts = binary_parts o op both.0 both.1 whole right both.4 in
    let first = fills a (both.2 ∙ ap Some parts.1) f t lies in
    let second = leaf_fills p m trees home right w is b (both.3 ∙ ap Some parts.2) f t lies in
    let two : steps + 1 + 1 ≡ all = omega (arith, sum) in
    subst (λ k. TakesNow p (framed_with f m) t (binary o a b) k r) two (operation_takes p (framed_with f m) t o a b steps 1 v w r first second (λ c. ap (λ q. operation c q v w) parts.0 ∙ gives c))
link_fills p m trees home op whole right steps all v w r leaves fills is gives sum _ e = absurd (cc e)

-- what is known of a call that is a chain
pub filled_call : (p : Program) (links : List Link) (chain : Chain) (body tree : Tree) (x : ℕ) (trees : List Tree) → tree ≡ call x (listed trees) → IsFilled p links chain body tree
    → (chain.count ≤ most) × (length trees ≤ most) × (are_leaves trees ≡ true) × (filled_list trees body ≡ Some (linked p (tree_at p.nodes.items chain.first) (links_of links chain)))
filled_call p links chain body tree x trees is known =
    let own = subst (IsFilled p links chain body) is known in
    let all = items_listed trees in
    let whole = linked p (tree_at p.nodes.items chain.first) (links_of links chain) in
    (own.1, subst (λ l. length l ≤ most) all own.2, subst (λ l. are_leaves l ≡ true) all own.3, subst (λ l. filled_list l body ≡ Some whole) all own.4)

-- statements that are one
list_is : (trees : List Tree) (body whole : Tree) → filled_list trees body ≡ Some whole → (a : Tree) × (body ≡ sequence (then_one empty a)) × (filled trees a ≡ Some whole)
list_is trees (sequence (then_one empty a)) whole e = (a, refl, e)
list_is trees _ whole e = absurd (cc e)

pub list_fills : (p : Program) (m : View) (trees : List Tree) (home : ℕ) (body whole : Tree) (steps : ℕ) (v : Ref) → filled_list trees body ≡ Some whole → FillsInside p m trees home whole steps v → TakesInside p m (leaf_values trees m.calls.frames) home body (steps + 1) v
list_fills p m trees home body whole steps v e fills = λ f t lies.
    let list = list_is trees body whole e in
    list_sets p (framed_with f m) (framed_with f m) t steps body list.0 v list.1 (fills list.0 list.2 f t lies)

-- how many the trees of a list are
pub trees_as_many : (ns : List Node) (end count : ℕ) → length (trees_before ns end count) ≡ count
trees_as_many ns end zero = refl
trees_as_many ns end (suc more) = ap suc (trees_as_many ns end more)
