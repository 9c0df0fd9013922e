-- The values are reached.
use Rattle.rr_eval.specs.Published.{published}
use Rattle.std.proofs.Common.{Some, sym, subst, length}
use Rattle.std.specs.List.{All}
use Rattle.rr_eval.specs.Within.{reach, IsReached}
use Rattle.rr_eval.proofs.show.give_shown.Goals as goal

pub give_inspected-requires-clause-reached : goal.give_inspected-requires-clause-reached
give_inspected-requires-clause-reached c =
    let k = reach (length c.args.space.now.slots) (Some (published c.args.store.now)) in
    subst (All (IsReached k)) (sym c.as_slice.ensures.value) (c.in_ok-shown.ensures.within k c.requires.reached)
