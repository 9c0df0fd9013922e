-- An operator on a call and a part takes a step more than they.
use Rattle.std.proofs.Common.{◌+◌, ◌∙◌, ap, subst, sym}
use Rattle.rr_tree.specs.Tree.{tree_at}
use Rattle.rr_eval.specs.Nodes.{evaluated_tree}
use Rattle.rr_eval.specs.Usual.{TakesNow}
use Rattle.rr_eval.specs.Views.{view_of}
use Rattle.rr_eval.proofs.Simply.{operation_takes}
use Rattle.rr_eval.proofs.engine.Engine.called_value.Goals as goal

pub returns-clause-takes : goal.returns-clause-takes
returns-clause-takes c =
    let p = c.args.prepared.now.program in
    let ns = p.nodes.items in
    let m = view_of c.args.self.now in
    let t = c.args.space.now in
    let node = c.in-Some-Binary in
    let called = c.in_ok-called.called in
    let other = c.in_ok-other.other in
    let total = c.in_ok-operated.field-0 in
    let at = node.ensures.tree ∙ ap (evaluated_tree ns) node.field-0-is in
    subst (λ z. TakesNow p m t z (called.steps + other.steps + 1) total) (sym at)
    (operation_takes p m t node.op (tree_at ns node.left) (tree_at ns node.right) called.steps other.steps called.value other.value total c.in_ok-called.ensures.takes (c.in_ok-other.ensures.takes t) c.in_ok-operated.ensures.gives)

pub returns-clause-within : goal.returns-clause-within
returns-clause-within c k h = c.in_ok-operated.ensures.within k
