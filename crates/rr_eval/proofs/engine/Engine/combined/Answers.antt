-- Both operands need no frame.
use Rattle.std.proofs.Common.{length}
use Rattle.rr_tree.specs.Tree.{tree_at}
use Rattle.rr_eval.specs.Views.{view_of}
use Rattle.rr_eval.specs.Within.{reach}
use Rattle.rr_eval.proofs.Simply.{operation_takes}
use Rattle.rr_eval.proofs.engine.Engine.combined.Goals as goal

pub returns-in-Some-operated-clause-takes : goal.returns-in-Some-operated-clause-takes
returns-in-Some-operated-clause-takes c =
    let p = c.args.prepared.now.program in
    let ns = p.nodes.items in
    let left = c.in-Some.left in
    let right = c.in-Some-quick.right in
    operation_takes p (view_of c.args.self.now) c.args.space.now c.args.op (tree_at ns c.args.a) (tree_at ns c.args.b) left.steps right.steps left.value right.value c.in-Some-operated.value c.in-Some.ensures.takes c.in-Some-quick.ensures.takes c.in-Some-operated.ensures.gives

pub returns-in-Some-operated-clause-within : goal.returns-in-Some-operated-clause-within
returns-in-Some-operated-clause-within c clusters h = c.in-Some-operated.ensures.within (reach (length c.args.space.now.slots) clusters)
