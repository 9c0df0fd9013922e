-- Nothing is held for the body.
use Rattle.std.proofs.Common.{subst, sym, length}
use Rattle.rr_eval.specs.Views.{view_of}
use Rattle.rr_eval.specs.Within.{reach, IsControlReached}
use Rattle.rr_eval.proofs.Holding.{with_control}
use Rattle.rr_eval.proofs.engine.Engine.resume_body.Goals as goal

pub returns-then-self-stop-clause-within : goal.returns-then-self-stop-clause-within
returns-then-self-stop-clause-within c clusters h =
    let k = reach (length c.args.space.now.slots) clusters in
    c.visit_again.ensures.within clusters (with_control k (view_of c.take_top.new.self) c.enter.new.self (c.take_top.ensures.within k h) (subst (IsControlReached k) (sym c.enter.ensures) tt))

pub returns-else-self-stop-clause-within : goal.returns-else-self-stop-clause-within
returns-else-self-stop-clause-within c clusters h =
    let k = reach (length c.args.space.now.slots) clusters in
    with_control k (view_of c.take_top.new.self) c.enter.new.self (c.take_top.ensures.within k h) (subst (IsControlReached k) (sym c.enter.ensures) tt)

pub returns-then-is_promising-clause-within : goal.returns-then-is_promising-clause-within
returns-then-is_promising-clause-within c clusters h =
    let k = reach (length c.args.space.now.slots) clusters in
    with_control k (view_of c.take_top.new.self) c.enter.new.self (c.take_top.ensures.within k h) (subst (IsControlReached k) (sym c.enter.ensures) tt)
