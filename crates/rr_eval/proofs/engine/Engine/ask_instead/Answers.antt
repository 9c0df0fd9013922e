-- The values are reached that are held instead.
use Rattle.std.proofs.Common.{ap, sym, subst, length}
use Rattle.std.specs.List.{All}
use Rattle.rr_eval.specs.Views.{view_of}
use Rattle.rr_eval.specs.Within.{reach, IsReached}
use Rattle.rr_eval.proofs.Answered.{with_all}
use Rattle.rr_eval.proofs.Holding.{all_append, all_take, held_reached}
use Rattle.rr_eval.proofs.engine.Engine.ask_instead.Goals as goal

pub returns-in-Ok-clause-within : goal.returns-in-Ok-clause-within
returns-in-Ok-clause-within c clusters h values =
    let k = reach (length c.args.space.now.slots) clusters in
    let m = view_of c.args.self.now in
    let first = all_take (IsReached k) c.first_standing-base.result _ (subst (All (IsReached k)) (sym c.deref.ensures.value) (held_reached k m h)) in
    let all = subst (All (IsReached k)) (sym c.in_ok-held.ensures.are) (all_append (IsReached k) _ c.args.values.now first values) in
    c.in-Ok.ensures.within clusters (with_all k m c.replace-before.new.dest.items h (subst (All (IsReached k)) (sym (ap (λ x. x.items) c.replace-before.ensures.after)) all))

pub returns-in-Ok-clause-asks : goal.returns-in-Ok-clause-asks
returns-in-Ok-clause-asks c clusters h values =
    let k = reach (length c.args.space.now.slots) clusters in
    let m = view_of c.args.self.now in
    let first = all_take (IsReached k) c.first_standing-base.result _ (subst (All (IsReached k)) (sym c.deref.ensures.value) (held_reached k m h)) in
    let all = subst (All (IsReached k)) (sym c.in_ok-held.ensures.are) (all_append (IsReached k) _ c.args.values.now first values) in
    c.in-Ok.ensures.asks clusters (with_all k m c.replace-before.new.dest.items h (subst (All (IsReached k)) (sym (ap (λ x. x.items) c.replace-before.ensures.after)) all))
