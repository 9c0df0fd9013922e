-- One statement more is done.
use Rattle.std.proofs.Common.{◌+◌, ◌-◌, ◌∙◌, ap, refl, arith}
use Rattle.rr_eval.specs.declared.engine.Engine.{Engine}
use Rattle.rr_eval.specs.Views.{view_of}
use Rattle.rr_eval.proofs.StraightRounds.{more_set}
use Rattle.rr_eval.proofs.engine.Engine.do_statements.Goals as goal

pub loop-done-preserved : goal.loop-done-preserved
loop-done-preserved c =
    let before = c.loop-done in
    let now = before.invariant in
    let set = c.in-Some.set in
    let new = c.do_next.new.self in
    let few = now.few in
    let steps = c.in-Some.ensures.few in
    let number = now.number in
    let next = c.in-Some.ensures.number in
    let end = c.args.first + c.args.count in
    record {
      sets = more_set c.args.prepared.now.program (view_of c.args.self.now) (view_of before.self) (view_of new) c.args.space.now end c.args.count (c.args.count - before.done) before.steps set.steps (c.args.first + before.done) (c.args.count - (before.done + 1)) (before.steps + set.steps) set.value before.value now.sets (omega arith) (omega arith) (omega arith) refl c.in-Some.ensures.sets;
      fewer = omega arith;
      few = omega (arith, few, steps);
      number = omega (arith, number, next);
      within = λ clusters h. c.in-Some.ensures.within clusters (now.within clusters h);
      others = c.in-Some.ensures.others ∙ ap (λ (e : Engine). record e { calls = new.calls }) now.others;
    }
