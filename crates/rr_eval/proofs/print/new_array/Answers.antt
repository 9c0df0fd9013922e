-- The values are those of the array.
use Rattle.std.proofs.Common.{IfOk, IfErr, Some, length, sym, subst}
use Rattle.std.specs.List.{All}
use Rattle.rr_eval.specs.Published.{published}
use Rattle.rr_eval.specs.Serves.{IsReplied, IsRefused}
use Rattle.rr_eval.specs.Tasks.{array_reply}
use Rattle.rr_eval.specs.Within.{reach, IsReached}
use Rattle.rr_eval.proofs.print.new_array.Goals as goal

pub new_array_of-requires-clause-reached : goal.new_array_of-requires-clause-reached
new_array_of-requires-clause-reached c =
    subst (All (IsReached (reach (length c.args.space.now.slots) (Some (published c.args.store.now))))) (sym c.in_ok-items.ensures.items) c.requires.reached

pub returns-clause-replied : goal.returns-clause-replied
returns-clause-replied c =
    let t = c.args.space.now in
    subst (λ l. IfOk c.new_array_of.result (λ r. IsReplied (published c.args.store.now) (array_reply l t) t r c.new_array_of.new.space)) c.in_ok-items.ensures.items c.new_array_of.ensures.replied

pub returns-clause-refused : goal.returns-clause-refused
returns-clause-refused c =
    let t = c.args.space.now in
    subst (λ l. IfErr c.new_array_of.result (IsRefused (array_reply l t) t)) c.in_ok-items.ensures.items c.new_array_of.ensures.refused
