-- An assignment to one of several targets is one step.
use Rattle.std.proofs.Common.{◌≡◌, suc, ◌-◌, sym, ap, ◌∙◌, arith, length}
use Rattle.rr_eval.specs.Turns.{continuing}
use Rattle.rr_eval.specs.Views.{view_of}
use Rattle.rr_eval.specs.Within.{reach}
use Rattle.rr_eval.proofs.Spots.{assign_steps, assign_reached}
use Rattle.rr_eval.proofs.Holding.{with_left}
use Rattle.rr_eval.proofs.Invoking.{nested_still}
use Rattle.rr_eval.specs.Runs.{no_objects}
use Rattle.rr_eval.proofs.engine.Engine.visit_assignment.Goals as goal

pub returns-in-Ok-clause-goes : goal.returns-in-Ok-clause-goes
returns-in-Ok-clause-goes c h =
    let p = c.args.prepared.now.program in
    let m = view_of c.args.self.now in
    let t = c.args.space.now in
    let some : m.left ≡ suc (m.left - 1) = omega arith in
    assign_steps p m t (m.left - 1) c.args.spot c.args.value c.requires.control some h
    ∙ c.in-Ok.ensures.goes h (m.left - 1)
    ∙ ap (λ n. continuing p (view_of c.put_in.new.self) t c.in-Ok.request h (n - 1)) (sym c.in-Ok.ensures.left)

pub returns-in-Ok-clause-within : goal.returns-in-Ok-clause-within
returns-in-Ok-clause-within c clusters h =
    let k = reach (length c.args.space.now.slots) clusters in
    let there = assign_reached k (view_of c.args.self.now) c.args.spot c.args.value c.requires.control h in
    with_left k (view_of c.put_in.new.self) _ (c.in-Ok.ensures.within clusters h there.0 there.1)

pub returns-in-Ok-clause-asks : goal.returns-in-Ok-clause-asks
returns-in-Ok-clause-asks c clusters h =
    let k = reach (length c.args.space.now.slots) clusters in
    let there = assign_reached k (view_of c.args.self.now) c.args.spot c.args.value c.requires.control h in
    c.in-Ok.ensures.asks k h there.0 there.1

pub returns-in-Err-clause-within : goal.returns-in-Err-clause-within
returns-in-Err-clause-within c clusters h =
    let k = reach (length c.args.space.now.slots) clusters in
    let there = assign_reached k (view_of c.args.self.now) c.args.spot c.args.value c.requires.control h in
    c.in-Err.ensures.within clusters h there.0 there.1

pub returns-in-Err-clause-nested : goal.returns-in-Err-clause-nested
returns-in-Err-clause-nested c = nested_still c.put_in.result (view_of c.args.self.now) (view_of c.put_in.new.self) (no_objects 0) c.requires.nested c.put_in.ensures.nested c.put_in.ensures.err

pub returns-in-Err-clause-err : goal.returns-in-Err-clause-err
returns-in-Err-clause-err c = c.in-Err.ensures.err c.args.space.now
