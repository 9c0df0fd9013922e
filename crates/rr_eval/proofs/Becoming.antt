-- Operators of a method with arguments in the place of its parameters, read out of the program.
use Rattle.std.proofs.Common.{◌≡◌, ◌∙◌, ℕ, zero, suc, ◌+◌, ◌-◌, ◌<◌, ◌≤◌, ap, sym, subst, refl, arith, true, false, if◌then◌else◌, ℤ, List, [], ◌∷◌, ◌++◌, length, drop, take, Option, None, Some, Result, Ok, Err, IfOk, IfSome, slice_get}
use Rattle.std.proofs.lemmas.List.{append-nil, append_assoc, take_all}
use Rattle.std.proofs.Math.Seq.{drop-append_seam}
use Rattle.rr_tree.specs.Nodes.{trees_before}
use Rattle.rr_tree.specs.Tree.{Tree, int, local, binary, tree_at}
use Rattle.rr_tree.specs.declared.node.BinaryOperator.{BinaryOperator}
use Rattle.rr_tree.specs.declared.node.Node.{Node}
use Rattle.rr_tree.specs.declared.node.Node.TheVariants.{Sequence}
use Rattle.rr_tree.specs.declared.program.Program.{Program}
use Rattle.rr_eval.specs.declared.call_stack.Variable.{Variable as Local}
use Rattle.rr_eval.specs.declared.chains.Link.{Link}
use Rattle.rr_eval.specs.declared.simple_parts.SimplePart.{SimplePart}
use Rattle.rr_eval.specs.declared.simple_parts.SimplePart.TheVariants.{Int, Variable}
use Rattle.rr_eval.specs.Nodes.{evaluated_tree}
use Rattle.rr_eval.specs.SimpleParts.{AreSimple, are_leaves, filled, filled_list, is_leaf, linked, operand_of, operation_of, operator_on, simple_of}
use Rattle.rr_eval.proofs.Linked.{linked_more, parts_wider}

-- an operator is no leaf
no_variable : (o : BinaryOperator) (s t : SimplePart) (v : Local) → Variable v ≡ operation_of o s t → ⊥
no_variable o (Variable w) (Int y) v e = cc e
no_variable o (Variable w) (Variable y) v e = cc e
no_variable o (Variable w) _ v e = cc e
no_variable o _ _ v e = cc e

no_integer : (o : BinaryOperator) (s t : SimplePart) (z : ℤ) → Int z ≡ operation_of o s t → ⊥
no_integer o (Variable w) (Int y) z e = cc e
no_integer o (Variable w) (Variable y) z e = cc e
no_integer o (Variable w) _ z e = cc e
no_integer o _ _ z e = cc e

-- variables and integers are leaves
pub variable_leaf : (a : Tree) (v : Local) → Variable v ≡ simple_of a → is_leaf a ≡ true
variable_leaf (local depth slot x behind) v e = refl
variable_leaf (binary o a b) v e = absurd (no_variable o (operand_of a) (operand_of b) v e)
variable_leaf _ v e = absurd (cc e)

pub integer_leaf : (a : Tree) (z : ℤ) → Int z ≡ simple_of a → is_leaf a ≡ true
integer_leaf (int y) z e = refl
integer_leaf (binary o a b) z e = absurd (no_integer o (operand_of a) (operand_of b) z e)
integer_leaf _ z e = absurd (cc e)

-- one leaf more
pub leaf_more : (ns : List Node) (end done place : ℕ) → place ≡ end - suc done → is_leaf (tree_at ns place) ≡ true → are_leaves (trees_before ns end done) ≡ true → are_leaves (trees_before ns end (suc done)) ≡ true
leaf_more ns end done place at leaf leaves =
    let its = subst (λ x. is_leaf (tree_at ns x) ≡ true) at leaf in
    ap (λ b. if b then are_leaves (trees_before ns end done) else false) its ∙ leaves

-- the trees of a list, by their places
tree_of : (ns : List Node) (end count slot : ℕ) → slot < count → count ≤ end → slice_get (trees_before ns end count) slot ≡ Some (tree_at ns (end - count + slot))
tree_of ns end zero slot less fits = absurd (omega (arith, less))
tree_of ns end (suc more) zero less fits = let same : end - suc more ≡ end - suc more + 0 = omega arith in ap (λ x. Some (tree_at ns x)) same
tree_of ns end (suc more) (suc slot) less fits =
    let same : end - more + slot ≡ end - suc more + suc slot = omega (arith, fits) in
    tree_of ns end more slot (omega (arith, less)) (omega (arith, fits)) ∙ ap (λ x. Some (tree_at ns x)) same

-- what a variable is
slot_of : (v : Local) (depth slot : ℕ) → Variable v ≡ Variable (record { depth = depth; slot = slot }) → (v.depth ≡ depth) × (v.slot ≡ slot)
slot_of v depth slot e = let same : v ≡ record { depth = depth; slot = slot } = cc e in (ap (λ w. w.depth) same, ap (λ w. w.slot) same)

-- a parameter becomes its argument, and an integer is what it is
pub variable_fills : (ns : List Node) (first count : ℕ) (a : Tree) (v : Local) → Variable v ≡ simple_of a → v.depth ≡ 0 → v.slot < count → filled (trees_before ns (first + count) count) a ≡ Some (tree_at ns (first + v.slot))
variable_fills ns first count (local zero slot x behind) v e own less =
    let same : v.slot ≡ slot = (slot_of v zero slot e).1 in
    let within : slot < count = omega (arith, same, less) in
    let place : first + count - count + slot ≡ first + v.slot = omega (arith, same) in
    tree_of ns (first + count) count slot within (omega arith) ∙ ap (λ y. Some (tree_at ns y)) place
variable_fills ns first count (local (suc depth) slot x behind) v e own less = let deep : v.depth ≡ suc depth = (slot_of v (suc depth) slot e).0 in absurd (omega (arith, own, deep))
variable_fills ns first count (binary o a b) v e own less = absurd (no_variable o (operand_of a) (operand_of b) v e)
variable_fills ns first count _ v e own less = absurd (cc e)

pub integer_fills : (trees : List Tree) (a : Tree) (z : ℤ) → Int z ≡ simple_of a → filled trees a ≡ Some a
integer_fills trees (int y) z e = refl
integer_fills trees (binary o a b) z e = absurd (no_integer o (operand_of a) (operand_of b) z e)
integer_fills trees _ z e = absurd (cc e)

-- one link more
pub link_fills : (p : Program) (trees : List Tree) (a whole : Tree) (done made : List Link) (op : BinaryOperator) (from to : ℕ) → filled trees (linked p a done) ≡ Some (linked p whole made) → filled trees (tree_at p.nodes.items from) ≡ Some (tree_at p.nodes.items to)
    → filled trees (linked p a (done ++ record { op = op; right = from } ∷ [])) ≡ Some (linked p whole (made ++ record { op = op; right = to } ∷ []))
link_fills p trees a whole done made op from to so its =
    let l : Link = record { op = op; right = from } in
    let k : Link = record { op = op; right = to } in
    ap (filled trees) (linked_more p a done l)
    ∙ ap (λ x. operator_on op x (filled trees (tree_at p.nodes.items from))) so
    ∙ ap (operator_on op (Some (linked p whole made))) its
    ∙ ap Some (sym (linked_more p whole made k))

-- parts are what they were where more links stand behind the others
pub parts_wider_all : (p : Program) (links more : List Link) (parts : List SimplePart) → AreSimple p links parts → AreSimple p (links ++ more) parts
parts_wider_all p links [] parts are = subst (λ l. AreSimple p l parts) (sym (append-nil links)) are
parts_wider_all p links (l ∷ more) parts are = subst (λ k. AreSimple p k parts) (append_assoc links (l ∷ []) more) (parts_wider_all p (links ++ l ∷ []) more parts (parts_wider p links l parts are))

-- what lies behind the others
pub links_behind : (links more : List Link) (from count : ℕ) → from ≡ length links → count ≡ length more → take count (drop from (links ++ more)) ≡ more
links_behind links more from count at all =
    ap (λ n. take count (drop n (links ++ more))) at ∙ ap (take count) (drop-append_seam links more) ∙ ap (λ n. take n more) all ∙ take_all (length more) more (omega arith)

-- what is known of an option that has something
pub known_some : {A : Type 0} (o : Option A) (a : A) (P : A → Type 0) → o ≡ Some a → IfSome o P → P a
known_some o a P e h = subst (λ q. IfSome q P) e h

-- what is known inside of a result
pub known_inside : {A : Type 0} {E : Type 0} (r : Result (Option A) E) (P Q : A → Type 0) → ((a : A) → P a → Q a) → IfOk r (λ o. IfSome o P) → IfOk r (λ o. IfSome o Q)
known_inside (Ok (Some a)) P Q f h = f a h
known_inside (Ok None) P Q f h = tt
known_inside (Err e) P Q f h = tt

-- statements that are one
pub filled_single : (ns : List Node) (trees : List Tree) (body : Tree) (first : ℕ) → body ≡ evaluated_tree ns (Sequence first 1) → filled_list trees body ≡ filled trees (tree_at ns first)
filled_single ns trees body first is =
    let place : first + 1 - 1 ≡ first = omega arith in
    ap (filled_list trees) is ∙ ap (λ x. filled trees (tree_at ns x)) place
