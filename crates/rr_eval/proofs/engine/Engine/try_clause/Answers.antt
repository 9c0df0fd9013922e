-- The first class of a clause is evaluated.
use Rattle.std.proofs.Common.{◌≡◌, ◌<◌, ◌+◌, ◌-◌, ◌∙◌, suc, sym, ap, arith}
use Rattle.rr_tree.specs.Nodes.{trees_before}
use Rattle.rr_tree.specs.Tree.{tree_at}
use Rattle.rr_eval.specs.Basics.{on_value}
use Rattle.rr_eval.specs.Rescuing.{class_parts, taken_by, fitted, tried_classes, tried}
use Rattle.rr_eval.specs.Script.{Go}
use Rattle.rr_eval.specs.Turns.{context_of, after_script}
use Rattle.rr_eval.specs.Views.{view_of}
use Rattle.rr_eval.proofs.Trying.{tried_from, class_first}
use Rattle.rr_eval.proofs.engine.Engine.try_clause.Goals as goal

pub returns-in_default-clause-goes : goal.returns-in_default-clause-goes
returns-in_default-clause-goes c h n =
    let p = c.args.program.now in
    let ns = p.nodes.items in
    let own = context_of p in
    let m = view_of c.args.self.now in
    let t = c.args.space.now in
    let e = c.args.exception in
    let end = c.args.end in
    let count = c.args.count in
    let first = c.clause_at-clause.result.first in
    let classes = c.clause_at-clause.result.count in
    let tree = tree_at ns (end - count) in
    let other = tried own e (trees_before ns end (count - 1)) in
    let some : 0 < classes = omega arith in
    let here : 0 < count = c.requires.some in
    let more : count ≡ suc (count - 1) = omega arith in
    let parts : trees_before ns (first + classes) classes ≡ class_parts tree = c.clause_at-clause.ensures.classes ∙ ap (λ x. class_parts (tree_at ns x)) c.saturating_sub-place.ensures in
    ap (λ s. after_script p m t s h n) (tried_from own ns e end count here)
    ∙ ap (λ s. after_script p m t s h n) (sym (class_first own ns e (class_parts tree) first classes (taken_by tree e) other some parts))
    ∙ ap (λ x. after_script p m t (Go (tree_at ns first) (on_value (λ v. fitted own e v (taken_by (tree_at ns (end - x)) e) (tried_classes own e (trees_before ns (first + classes) (classes - 1)) (taken_by (tree_at ns (end - x)) e) other)))) h n) more
    ∙ c.enter_above.ensures.goes p t h n
