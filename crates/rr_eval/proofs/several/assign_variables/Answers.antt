-- The next target gets its value, where it is a variable.
use Rattle.std.proofs.Common.{◌∙◌, ◌<◌, sym, subst, ap, arith, drop}
use Rattle.std.specs.List.{All}
use Rattle.rr_eval.specs.Basics.{variable_of}
use Rattle.rr_eval.specs.Turns.{code_of}
use Rattle.rr_eval.specs.Within.{AreVariablesReached}
use Rattle.rr_tree.specs.Tree.{tree_at}
use Rattle.rr_eval.proofs.Holding.{written_within}
use Rattle.rr_eval.proofs.Targets.{variable_assigned}
use Rattle.rr_eval.proofs.several.assign_variables.Goals as goal

pub returns-in-None-clause-other : goal.returns-in-None-clause-other
returns-in-None-clause-other c = λ _.
    ap (λ p. variable_of (tree_at c.args.program.now.nodes.items p)) (sym c.saturating_sub.ensures) ∙ sym c.variable_of.ensures ∙ c.in-None.is

pub loop-left-preserved : goal.loop-left-preserved
loop-left-preserved c =
    let p = c.args.program.now in
    let left = c.loop-left.left in
    let stand = c.args.stand.now in
    let value = c.next_value-behind.result.0 in
    let x = c.in-Some.variable in
    let old = c.loop-left.calls in
    let new = c.write.new.self in
    let some : 0 < left = omega (arith, c.loop-left-test.true) in
    let fewer = c.loop-left.invariant.fewer in
    record {
      fewer = omega (arith, fewer);
      goes = λ w ps right s n. c.loop-left.invariant.goes w ps right s n
          ∙ variable_assigned (code_of p w) c.args.end c.saturating_sub.result left ps (drop c.loop-left.place stand) (drop c.next_value-behind.result.1 stand) right value x old new s n some c.saturating_sub.ensures (sym c.in-Some.is ∙ c.variable_of.ensures) c.next_value-behind.ensures.value c.next_value-behind.ensures.behind c.write.ensures.frames c.write.ensures.limit;
      reached = λ k values h. subst (All (AreVariablesReached k)) (sym c.write.ensures.frames) (written_within k old.frames x value (c.loop-left.invariant.reached k values h) (c.next_value-behind.ensures.within k values));
    }
