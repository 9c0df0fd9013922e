-- The variables of a frame are reached.
use Rattle.std.proofs.Common.{sym, subst}
use Rattle.rr_eval.specs.Within.{IsReached}
use Rattle.rr_eval.proofs.Holding.{variable_within}
use Rattle.rr_eval.proofs.engine.Engine.variable.Goals as goal

pub returns-clause-within : goal.returns-clause-within
returns-clause-within c k h = subst (IsReached k) (sym c.read.ensures) (variable_within k c.args.self.now.calls.frames c.args.variable h)
