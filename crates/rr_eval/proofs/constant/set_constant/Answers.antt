-- What a constant has lies within the space.
use Rattle.std.proofs.Common.{arith}
use Rattle.rr_space.specs.declared.refer.Ref.TheVariants.{Nil}
use Rattle.rr_eval.proofs.constant.set_constant.Goals as goal

pub returns-in-Some-clause-within : goal.returns-in-Some-clause-within
returns-in-Some-clause-within c clusters = c.in-Some.ensures.within clusters c.in-Item.ensures.within 0 Nil (omega arith)
