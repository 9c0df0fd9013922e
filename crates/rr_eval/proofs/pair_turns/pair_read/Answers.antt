-- The value of a pair lies within the space.
use Rattle.std.proofs.Common.{length, subst}
use Rattle.rr_builtin.specs.Rounds.{IsRoundWithin}
use Rattle.rr_eval.specs.Within.{reach}
use Rattle.rr_eval.proofs.pair_turns.pair_read.Goals as goal

pub returns-in-Item-clause-within : goal.returns-in-Item-clause-within
returns-in-Item-clause-within c clusters key read =
    let slots = length c.args.space.now.slots in
    c.pair_given.ensures.within (reach slots clusters) key (c.own.ensures.within clusters (subst (IsRoundWithin slots) c.in-Item.is read))
