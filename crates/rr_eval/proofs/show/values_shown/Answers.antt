-- One value more.
use Rattle.std.proofs.Common.{◌∙◌, ◌++◌, ◌∷◌, ◌-◌, [], ap, sym, subst, arith, append_assoc, length, take, drop}
use Rattle.std.specs.List.{All}
use Rattle.std.proofs.lemmas.List.Elements.{All-push}
use Rattle.rr_eval.specs.Tasks.{values_shown}
use Rattle.rr_eval.specs.Within.{IsReached}
use Rattle.rr_eval.proofs.Holding.{all_take, all_drop}
use Rattle.rr_eval.proofs.Showing.{values_next}
use Rattle.rr_eval.proofs.show.values_shown.Goals as goal

pub loop-rest-preserved : goal.loop-rest-preserved
loop-rest-preserved c =
    let rest = c.loop-rest.rest.now in
    let more = take (length rest - 2) (drop 2 rest) in
    let shown = c.loop-rest.shown.items in
    let v = c.value-item.result in
    let push = c.in_ok-push.ensures.items in
    record {
      same =
          c.loop-rest.invariant.same
          ∙ ap (λ l. shown ++ l) (values_next rest v c.in-len2-up.len_at_least c.value-item.is)
          ∙ sym (append_assoc shown (v ∷ []) (values_shown more))
          ∙ ap (λ l. l ++ values_shown more) (sym push);
      rest = λ k h. all_take (IsReached k) (length rest - 2) (drop 2 rest) (all_drop (IsReached k) 2 rest (c.loop-rest.invariant.rest k h));
      reached = λ k h.
          let value = subst (IsReached k) (sym c.value-item.is) (c.loop-rest.invariant.rest k h 0 v (omega (arith, c.in-len2-up.len_at_least))) in
          subst (All (IsReached k)) (sym push) (All-push (IsReached k) shown v (c.loop-rest.invariant.reached k h) value);
    }
