-- The next target is a local variable.
use Rattle.std.proofs.Common.{◌∙◌, ◌≤◌, sym, arith}
use Rattle.std.proofs.Math.Nat.{eq-or-lt_of_le}
use Rattle.rr_eval.proofs.Targets.{variables_more}
use Rattle.rr_eval.proofs.usual_several.are_variables.Goals as goal

pub loop-left-preserved : goal.loop-left-preserved
loop-left-preserved c =
    let ns = c.args.program.now.nodes.items in
    let left = c.loop-left.left in
    let now = c.loop-left.invariant in
    let fewer = now.fewer in
    record {
      fewer = omega (arith, fewer);
      are = λ k less le none.
          let same : left ≤ k = omega (arith, less) in
          variables_more ns c.args.end left c.args.count k c.saturating_sub.result c.in-Some.field-0 c.saturating_sub.ensures (sym c.variable_of.ensures ∙ c.in-Some.is) now.are (eq-or-lt_of_le same) le none;
    }
