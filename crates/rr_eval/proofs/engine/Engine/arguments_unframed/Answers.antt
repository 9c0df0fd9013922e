-- One value more stands behind the others.
use Rattle.std.proofs.Common.{◌+◌, ◌-◌, ◌∙◌, arith, set, take}
use Rattle.std.proofs.lemmas.List.{length-set, take_more_set}
use Rattle.rr_tree.specs.Nodes.{trees_before}
use Rattle.rr_eval.specs.Views.{view_of}
use Rattle.rr_eval.proofs.QuickParts.{first_more}
use Rattle.rr_eval.proofs.engine.Engine.arguments_unframed.Goals as goal

pub loop-done-preserved : goal.loop-done-preserved
loop-done-preserved c =
    let p = c.args.prepared.now.program in
    let before = c.loop-done in
    let now = before.invariant in
    let found = c.in_ok-found.found in
    let end = c.args.first + c.args.count in
    let size = now.size in
    let few = now.few in
    let its = c.in_ok-found.ensures.few in
    let more = c.loop-done-test.true in
    let most = c.requires.most in
    record {
      takes = λ t.
          first_more p (view_of c.args.self.now) t (trees_before p.nodes.items end c.args.count) end before.steps (c.args.count - before.done) found.steps (c.args.first + before.done) (c.args.count - (before.done + 1)) (take before.done before.values) (take (before.done + 1) (set before.values before.done found.value)) found.value
          (now.takes t) (omega (arith, more)) (omega (arith, more)) (omega (arith, more)) (take_more_set before.values before.done found.value (omega (arith, more, most, size))) c.in_ok-found.ensures.plain (c.in_ok-found.ensures.takes t);
      fewer = omega (arith, more);
      size = length-set before.values before.done found.value ∙ size;
      few = omega (arith, few, its);
    }
