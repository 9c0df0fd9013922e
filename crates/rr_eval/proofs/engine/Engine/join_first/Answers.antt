-- The array and what separates are among the values.
use Rattle.std.proofs.Common.{length, [], sym, subst}
use Rattle.std.proofs.lemmas.List.Elements.{All-push}
use Rattle.std.specs.List.{All}
use Rattle.rr_eval.specs.Views.{view_of}
use Rattle.rr_eval.specs.Within.{reach, IsReached}
use Rattle.rr_eval.proofs.Holding.{all_cons, all_nil, held_reached}
use Rattle.rr_eval.proofs.engine.Engine.join_first.Goals as goal

pub returns-in-Some-clause-within : goal.returns-in-Some-clause-within
returns-in-Some-clause-within c clusters h value =
    let k = reach (length c.args.space.now.slots) clusters in
    let held = held_reached k (view_of c.args.self.now) h in
    let one = all_cons (IsReached k) c.args.value [] value (all_nil (IsReached k)) in
    let values = subst (All (IsReached k)) (sym c.in_ok-values.ensures.are) (All-push (IsReached k) _ c.args.value (c.standing.ensures.within k held) value) in
    let all = subst (All (IsReached k)) (sym c.as_slice.ensures.value) values in
    c.ask_joined.ensures.within clusters h (c.first_value-array.ensures.within k (c.standing-in-Some.ensures.within k held) one) (c.in-Some.ensures.within k all)

pub returns-in-Some-clause-asks : goal.returns-in-Some-clause-asks
returns-in-Some-clause-asks c clusters h value =
    let k = reach (length c.args.space.now.slots) clusters in
    let held = held_reached k (view_of c.args.self.now) h in
    let one = all_cons (IsReached k) c.args.value [] value (all_nil (IsReached k)) in
    let values = subst (All (IsReached k)) (sym c.in_ok-values.ensures.are) (All-push (IsReached k) _ c.args.value (c.standing.ensures.within k held) value) in
    let all = subst (All (IsReached k)) (sym c.as_slice.ensures.value) values in
    c.ask_joined.ensures.asks clusters h (c.first_value-array.ensures.within k (c.standing-in-Some.ensures.within k held) one) (c.in-Some.ensures.within k all)
