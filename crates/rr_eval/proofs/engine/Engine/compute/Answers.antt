-- What an operator gives is within reach.
use Rattle.std.proofs.Common.{subst, sym}
use Rattle.rr_eval.specs.Views.{view_of}
use Rattle.rr_eval.specs.Within.{IsControlReached}
use Rattle.rr_eval.proofs.Holding.{with_control}
use Rattle.rr_eval.proofs.engine.Engine.compute.Goals as goal

pub returns-in-Ok-clause-within : goal.returns-in-Ok-clause-within
returns-in-Ok-clause-within c k h = with_control k (view_of c.args.self.now) c.give-in-Ok.new.self h (subst (IsControlReached k) (sym c.give-in-Ok.ensures) (c.in-Ok.ensures.within k))
