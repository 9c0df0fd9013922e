-- An operator on two parts takes a step more than they.
use Rattle.rr_tree.specs.Tree.{tree_at}
use Rattle.rr_eval.specs.Unframed.{framed_with}
use Rattle.rr_eval.specs.Views.{view_of}
use Rattle.rr_eval.proofs.Simply.{operation_takes}
use Rattle.rr_eval.proofs.engine.Engine.link_unframed.Goals as goal

pub returns-clause-takes : goal.returns-clause-takes
returns-clause-takes c = λ tree takes f t lies.
    let p = c.args.prepared.now.program in
    let right = c.in_ok-right.right in
    let link = c.args.link in
    operation_takes p (framed_with f (view_of c.args.self.now)) t link.op tree (tree_at p.nodes.items link.right) c.args.found.steps right.steps c.args.found.value right.value c.in_ok-operated.field-0 (takes f t lies) (c.in_ok-right.ensures.takes f t lies) c.in_ok-operated.ensures.gives

pub returns-clause-within : goal.returns-clause-within
returns-clause-within c = c.in_ok-operated.ensures.within
