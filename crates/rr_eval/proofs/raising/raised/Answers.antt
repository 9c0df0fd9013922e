-- What is raised is reached.
use Rattle.std.proofs.Common.{subst}
use Rattle.std.specs.List.{All}
use Rattle.rr_frames.specs.Frames.{list_of}
use Rattle.rr_eval.specs.Within.{IsReached}
use Rattle.rr_eval.proofs.raising.raised.Goals as goal

pub returns-in-Some-clause-within : goal.returns-in-Some-clause-within
returns-in-Some-clause-within c k value h = c.raise_with.ensures.within k (subst (λ x. All (IsReached k) (list_of x)) c.in-Some.is h)

pub returns-in-None-clause-within : goal.returns-in-None-clause-within
returns-in-None-clause-within c k value h = c.raise_alone.ensures.within k value
