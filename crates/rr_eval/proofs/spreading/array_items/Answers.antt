-- What is spread is reached.
use Rattle.std.proofs.Common.{length, subst, IfSome}
use Rattle.std.specs.List.{All}
use Rattle.rr_eval.specs.Within.{reach, IsReached}
use Rattle.rr_eval.proofs.spreading.array_items.Goals as goal

pub returns-in-Some-clause-within : goal.returns-in-Some-clause-within
returns-in-Some-clause-within c clusters = subst (λ o. IfSome o (λ vs. All (IsReached (reach (length c.args.space.now.slots) clusters)) vs.items)) c.in-Some.is (c.in_ok-items.ensures.within clusters)
