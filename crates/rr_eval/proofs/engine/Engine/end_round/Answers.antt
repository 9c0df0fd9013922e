-- Nothing is held for the body.
use Rattle.std.proofs.Common.{subst, sym, length}
use Rattle.rr_eval.specs.Views.{view_of}
use Rattle.rr_eval.specs.Within.{reach, IsControlReached}
use Rattle.rr_eval.proofs.Holding.{with_control}
use Rattle.rr_eval.proofs.engine.Engine.end_round.Goals as goal
use Rattle.rr_eval.proofs.engine.Engine.end_round.Goals.{then-self-stop, else-self-stop}

pub returns-clause-within : goal.returns-clause-within
returns-clause-within c clusters h =
    let k = reach (length c.args.space.now.slots) clusters in
    let entered = with_control k (view_of c.drop_top.new.self) c.enter.new.self (c.drop_top.ensures.within k h) (subst (IsControlReached k) (sym c.enter.ensures) tt) in
    elim c.if-self-stop.branch [
      | then-self-stop w ↦ c.enter_statements.ensures.within k (rw w.self-is (w.visit_again.ensures.within clusters entered))
      | else-self-stop w ↦ c.enter_statements.ensures.within k (rw w.self-is entered)
    ]

pub returns-then-is_promising-clause-within : goal.returns-then-is_promising-clause-within
returns-then-is_promising-clause-within c clusters h =
    let k = reach (length c.args.space.now.slots) clusters in
    with_control k (view_of c.drop_top.new.self) c.enter.new.self (c.drop_top.ensures.within k h) (subst (IsControlReached k) (sym c.enter.ensures) tt)
