-- Clauses are tried in order.
use Rattle.std.proofs.Common.{◌≡◌, ℕ, zero, suc, ◌<◌, ◌+◌, ◌-◌, ◌∙◌, sym, ap, refl, arith, true, false, if◌then◌else◌, List, []}
use Rattle.rr_base.specs.declared.name.TheConstants.ClassId.{STANDARD_ERROR}
use Rattle.rr_space.specs.Kinds.{class_at}
use Rattle.rr_space.specs.declared.refer.Ref.{Ref}
use Rattle.rr_tree.specs.Tree.{Tree, tree_at}
use Rattle.rr_tree.specs.Nodes.{trees_before}
use Rattle.rr_tree.specs.declared.node.Node.{Node}
use Rattle.rr_tree.specs.Ancestors.{descends}
use Rattle.rr_eval.specs.Basics.{on_value}
use Rattle.rr_eval.specs.Context.{Context}
use Rattle.rr_eval.specs.Frames.{Code, runs_in}
use Rattle.rr_eval.specs.Rescuing.{class_parts, taken_by, fitted, tried_classes, tried_clause, tried}
use Rattle.rr_eval.specs.Script.{State, Script, Go}

-- the clause that is tried, and those behind it
pub tried_from : (c : Context) (ns : List Node) (e : Ref) (end count : ℕ) → 0 < count
    → tried c e (trees_before ns end count) ≡ tried_clause c e (class_parts (tree_at ns (end - count))) (taken_by (tree_at ns (end - count)) e) (tried c e (trees_before ns end (count - 1)))
tried_from c ns e end zero h = absurd (omega arith)
tried_from c ns e end (suc k) h =
    let same : suc k - 1 ≡ k = omega arith in
    ap (λ m. tried_clause c e (class_parts (tree_at ns (end - suc k))) (taken_by (tree_at ns (end - suc k)) e) (tried c e (trees_before ns end m))) (sym same)

-- a clause without classes takes a StandardError
pub standard_takes : (c : Code) (e : Ref) (parts : List Tree) (take other : Script) (s : State) (n : ℕ) → parts ≡ [] → descends c.context.program (class_at s.memory.table e).0 STANDARD_ERROR.0 ≡ true
    → runs_in c (tried_clause c.context e parts take other) s n ≡ runs_in c take s n
standard_takes c e parts take other s n none fits =
    ap (λ ts. runs_in c (tried_clause c.context e ts take other) s n) none
    ∙ ap (λ b. runs_in c (if b then take else other) s n) fits

-- and nothing else
standard_passes : (c : Code) (e : Ref) (parts : List Tree) (take other : Script) (s : State) (n : ℕ) → parts ≡ [] → descends c.context.program (class_at s.memory.table e).0 STANDARD_ERROR.0 ≡ false
    → runs_in c (tried_clause c.context e parts take other) s n ≡ runs_in c other s n
standard_passes c e parts take other s n none fits =
    ap (λ ts. runs_in c (tried_clause c.context e ts take other) s n) none
    ∙ ap (λ b. runs_in c (if b then take else other) s n) fits

pub passed : (c : Code) (e : Ref) (end count : ℕ) (s : State) (n : ℕ) → 0 < count → class_parts (tree_at c.nodes (end - count)) ≡ [] → descends c.context.program (class_at s.memory.table e).0 STANDARD_ERROR.0 ≡ false
    → runs_in c (tried c.context e (trees_before c.nodes end count)) s n ≡ runs_in c (tried c.context e (trees_before c.nodes end (count - 1))) s n
passed c e end count s n some none fits =
    ap (λ p. runs_in c p s n) (tried_from c.context c.nodes e end count some)
    ∙ standard_passes c e (class_parts (tree_at c.nodes (end - count))) (taken_by (tree_at c.nodes (end - count)) e) (tried c.context e (trees_before c.nodes end (count - 1))) s n none fits

pub taken : (c : Code) (e : Ref) (end count : ℕ) (s : State) (n : ℕ) → 0 < count → class_parts (tree_at c.nodes (end - count)) ≡ [] → descends c.context.program (class_at s.memory.table e).0 STANDARD_ERROR.0 ≡ true
    → runs_in c (tried c.context e (trees_before c.nodes end count)) s n ≡ runs_in c (taken_by (tree_at c.nodes (end - count)) e) s n
taken c e end count s n some none fits =
    ap (λ p. runs_in c p s n) (tried_from c.context c.nodes e end count some)
    ∙ standard_takes c e (class_parts (tree_at c.nodes (end - count))) (taken_by (tree_at c.nodes (end - count)) e) (tried c.context e (trees_before c.nodes end (count - 1))) s n none fits

-- the next class of a clause, and those behind it
pub class_next : (c : Context) (ns : List Node) (e : Ref) (last left place : ℕ) (take other : Script) → 0 < left → place ≡ last - left
    → Go (tree_at ns place) (on_value (λ v. fitted c e v take (tried_classes c e (trees_before ns last (left - 1)) take other))) ≡ tried_classes c e (trees_before ns last left) take other
class_next c ns e last zero place take other h at = absurd (omega arith)
class_next c ns e last (suc k) place take other h at =
    let same : suc k - 1 ≡ k = omega arith in
    ap (λ m. Go (tree_at ns place) (on_value (λ v. fitted c e v take (tried_classes c e (trees_before ns last m) take other)))) same
    ∙ ap (λ p. Go (tree_at ns p) (on_value (λ v. fitted c e v take (tried_classes c e (trees_before ns last k) take other)))) at

-- the first class of a clause
classes_are : (c : Context) (ns : List Node) (e : Ref) (last left : ℕ) (take other : Script) → 0 < left → tried_classes c e (trees_before ns last left) take other ≡ tried_clause c e (trees_before ns last left) take other
classes_are c ns e last zero take other h = absurd (omega arith)
classes_are c ns e last (suc k) take other h = refl

pub class_first : (c : Context) (ns : List Node) (e : Ref) (parts : List Tree) (first count : ℕ) (take other : Script) → 0 < count → trees_before ns (first + count) count ≡ parts
    → Go (tree_at ns first) (on_value (λ v. fitted c e v take (tried_classes c e (trees_before ns (first + count) (count - 1)) take other))) ≡ tried_clause c e parts take other
class_first c ns e parts first count take other some is =
    let at : first ≡ first + count - count = omega arith in
    class_next c ns e (first + count) count first take other some at
    ∙ classes_are c ns e (first + count) count take other some
    ∙ ap (λ ts. tried_clause c e ts take other) is
