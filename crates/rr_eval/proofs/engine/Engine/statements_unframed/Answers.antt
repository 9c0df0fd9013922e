-- A block is a step more than the list of its statements, which is one more than they.
use Rattle.std.proofs.Common.{◌+◌}
use Rattle.rr_tree.specs.Tree.{tree_at}
use Rattle.rr_eval.specs.Unframed.{framed_with}
use Rattle.rr_eval.specs.Views.{view_of}
use Rattle.rr_eval.proofs.Frameless.{block_sets}
use Rattle.rr_eval.proofs.engine.Engine.statements_unframed.Goals as goal

pub returns-clause-sets : goal.returns-clause-sets
returns-clause-sets c = λ f t lies.
    let p = c.args.prepared.now.program in
    let ns = p.nodes.items in
    let m = framed_with f (view_of c.args.self.now) in
    let n = framed_with f (view_of c.body_unframed.new.self) in
    let has = c.requires.has in
    let first = c.args.statements.first in
    let count = c.args.statements.count in
    let done = c.in_ok-done.done in
    block_sets p m n t has.0 has.1 has.2 done.steps (first + count) count (tree_at ns c.args.place) has.3 done.value has.4 has.5 (c.in_ok-done.ensures.sets f t lies)

pub returns-clause-value : goal.returns-clause-value
returns-clause-value c = c.in_ok-done.ensures.value
