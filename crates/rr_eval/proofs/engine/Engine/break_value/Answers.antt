-- The `break` has the value of its part.
use Rattle.std.proofs.Common.{◌+◌, ◌∙◌, ap, refl}
use Rattle.rr_tree.specs.Tree.{tree_at}
use Rattle.rr_eval.specs.Nodes.{evaluated_tree}
use Rattle.rr_eval.specs.Unframed.{framed_with}
use Rattle.rr_eval.specs.Views.{view_of}
use Rattle.rr_eval.proofs.Breaks.{break_ends}
use Rattle.rr_eval.proofs.engine.Engine.break_value.Goals as goal

pub returns-clause-breaks : goal.returns-clause-breaks
returns-clause-breaks c = λ f t lies.
    let p = c.args.prepared.now.program in
    let ns = p.nodes.items in
    let m = framed_with f (view_of c.args.self.now) in
    let node = c.in-Some-Break in
    let found = c.in_ok-found.found in
    break_ends p m t (tree_at ns c.args.place) (tree_at ns node.value) found.steps (found.steps + 1) found.value (node.ensures.tree ∙ ap (evaluated_tree ns) node.field-0-is) (c.in_ok-found.ensures.takes f t lies) refl

pub returns-clause-within : goal.returns-clause-within
returns-clause-within c = c.in_ok-found.ensures.within
