-- The two exceptions are reached.
use Rattle.std.proofs.Common.{[], ◌∷◌}
use Rattle.rr_eval.specs.Views.{view_of}
use Rattle.rr_eval.specs.Within.{IsReached}
use Rattle.rr_eval.proofs.Holding.{all_cons, all_nil, rescuing_reached}
use Rattle.rr_eval.proofs.engine.Engine.finish_raise.Goals as goal

pub returns-in-Some-clause-asks : goal.returns-in-Some-clause-asks
returns-in-Some-clause-asks c k h value =
    let both = c.in-Some.ensures.within k (rescuing_reached k (view_of c.args.self.now) h) value in
    all_cons (IsReached k) c.in-Some.exception (c.in-Some.cause ∷ []) both.0 (all_cons (IsReached k) c.in-Some.cause [] both.1 (all_nil (IsReached k)))
