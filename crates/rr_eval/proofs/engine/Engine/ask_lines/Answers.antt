-- What stands in the values is reached.
use Rattle.std.proofs.Common.{[], sym, subst, length, IfOk}
use Rattle.std.specs.List.{All}
use Rattle.rr_eval.specs.Views.{view_of}
use Rattle.rr_eval.specs.Within.{reach, IsReached}
use Rattle.rr_eval.proofs.Holding.{all_append, all_cons, all_nil, held_reached}
use Rattle.rr_eval.proofs.engine.Engine.ask_lines.Goals as goal

pub returns-in-Ok-clause-within : goal.returns-in-Ok-clause-within
returns-in-Ok-clause-within c clusters h value =
    let k = reach (length c.args.space.now.slots) clusters in
    let stand = c.standing.ensures.within k (held_reached k (view_of c.args.self.now) h) in
    let values = subst (All (IsReached k)) (sym c.in_ok-values.ensures.are) (all_append (IsReached k) c.standing.result.now _ stand (all_cons (IsReached k) c.args.value [] value (all_nil (IsReached k)))) in
    let found = subst (λ r. IfOk r (λ leaves. All (IsReached k) leaves.items)) c.in-Ok.is (c.in_ok-leaves.ensures.within clusters (subst (All (IsReached k)) (sym c.as_slice.ensures.value) values)) in
    c.ask_instead.ensures.within clusters h (subst (All (IsReached k)) (sym c.as_slice-leaves.ensures.value) found)

pub returns-in-Ok-clause-asks : goal.returns-in-Ok-clause-asks
returns-in-Ok-clause-asks c clusters h value =
    let k = reach (length c.args.space.now.slots) clusters in
    let stand = c.standing.ensures.within k (held_reached k (view_of c.args.self.now) h) in
    let values = subst (All (IsReached k)) (sym c.in_ok-values.ensures.are) (all_append (IsReached k) c.standing.result.now _ stand (all_cons (IsReached k) c.args.value [] value (all_nil (IsReached k)))) in
    let found = subst (λ r. IfOk r (λ leaves. All (IsReached k) leaves.items)) c.in-Ok.is (c.in_ok-leaves.ensures.within clusters (subst (All (IsReached k)) (sym c.as_slice.ensures.value) values)) in
    c.ask_instead.ensures.asks clusters h (subst (All (IsReached k)) (sym c.as_slice-leaves.ensures.value) found)
