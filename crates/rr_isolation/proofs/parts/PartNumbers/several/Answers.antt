-- What is none of those matched before has a list.
use Rattle.std.proofs.Common.{arith}
use Rattle.rr_isolation.specs.Numbers.{HasList, HasSeveral}
use Rattle.rr_isolation.proofs.parts.PartNumbers.several.Goals as goal

pub returns-in_default : goal.returns-in_default
returns-in_default c =
    let list : HasSeveral c.args.node → HasList c.args.node = grind arith in
    λ h. c.listed.ensures (list h)
