-- An element lies within the space.
use Rattle.std.proofs.Common.{length}
use Rattle.rr_eval.specs.Within.{reach}
use Rattle.rr_eval.proofs.iterating.element_ahead.Goals as goal

pub returns-in-Item-clause-within : goal.returns-in-Item-clause-within
returns-in-Item-clause-within c clusters =
    let slots = length c.args.space.now.slots in
    c.element_given.ensures.within (reach slots clusters) (c.own.ensures.within clusters c.in-Item.ensures.within)
