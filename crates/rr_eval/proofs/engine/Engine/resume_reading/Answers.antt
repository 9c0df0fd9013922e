-- No value stands for the frame, and the call is done with what it reads.
use Rattle.std.proofs.Common.{◌≤◌, ◌∙◌, ap, sym, subst, arith, length, reverse}
use Rattle.std.proofs.lemmas.List.{take_all}
use Rattle.rr_eval.specs.declared.call.Callee.TheVariants.{Name}
use Rattle.rr_eval.specs.declared.call.Target.TheVariants.{Call}
use Rattle.rr_eval.specs.declared.frame.Control.{Control}
use Rattle.rr_eval.specs.Frames.{Nested}
use Rattle.rr_eval.specs.Turns.{remaining_with}
use Rattle.rr_eval.specs.Views.{view_of}
use Rattle.rr_eval.specs.Within.{reach, IsControlReached}
use Rattle.rr_eval.proofs.Finishing.{reads_at_once}
use Rattle.rr_eval.proofs.Holding.{with_control}
use Rattle.rr_eval.proofs.engine.Engine.resume_reading.Goals as goal

pub returns-clause-goes : goal.returns-clause-goes
returns-clause-goes c h =
    let p = c.args.prepared.now.program in
    let t = c.args.space.now in
    let top = c.take_top.new.self in
    let m = view_of top in
    let none : length m.held ≤ c.args.base = omega (arith, c.if-len-base.false, c.len.ensures, ap (λ v. length v.items) c.take_top.ensures.held) in
    c.take_top.ensures.goes p t h
    ∙ reads_at_once p m t (Call (Name c.args.name)) c.args.end c.args.base c.args.value c.in-Some.read h top.left none c.in-Some.ensures.reads
    ∙ ap (λ (k : Control). remaining_with p (record m { control = k }) t h top.left) (sym c.give.ensures)

pub returns-clause-nested : goal.returns-clause-nested
returns-clause-nested c =
    let m = view_of c.take_top.new.self in
    let none : length m.held ≤ c.args.base = omega (arith, c.if-len-base.false, c.len.ensures, ap (λ v. length v.items) c.take_top.ensures.held) in
    subst (Nested (reverse m.frames)) (take_all c.args.base m.held none) c.take_top.ensures.nested

pub returns-clause-within : goal.returns-clause-within
returns-clause-within c clusters h =
    let k = reach (length c.args.space.now.slots) clusters in
    with_control k (view_of c.take_top.new.self) c.give.new.self (c.take_top.ensures.within k h) (subst (IsControlReached k) (sym c.give.ensures) (c.in-Some.ensures.within clusters))
