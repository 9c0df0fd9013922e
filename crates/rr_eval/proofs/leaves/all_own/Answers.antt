-- One value more is there.
use Rattle.std.proofs.Common.{◌≡◌, ◌∙◌, ◌∷◌, ap, sym, subst, arith, length, take, drop, Some, ◌-◌}
use Rattle.std.specs.List.{All}
use Rattle.std.proofs.lemmas.List.Elements.{All-push}
use Rattle.rr_eval.specs.Leaves.{Item, IsItemReached}
use Rattle.rr_eval.specs.Within.{IsReached}
use Rattle.rr_eval.proofs.Holding.{all_take, all_drop}
use Rattle.rr_eval.proofs.Inside.{first_more, there_next, item_reached}
use Rattle.rr_eval.proofs.leaves.all_own.Goals as goal

pub loop-rest-preserved : goal.loop-rest-preserved
loop-rest-preserved c =
    let rest = c.loop-rest.rest.now in
    let more = take (length rest - 1) (drop 1 rest) in
    let i = c.item-item.result in
    let v = c.in-Some.value in
    let values = c.loop-rest.values.items in
    let push = c.in_ok-push-in-Some.ensures.items in
    let is : rest ≡ Some v ∷ more = first_more rest i c.in-len1-up.len_at_least c.item-item.is ∙ ap (λ (j : Item). j ∷ more) c.in-Some.is in
    record {
      same = c.loop-rest.invariant.same ∙ there_next values rest more v c.push.new.self.items is push;
      rest = λ k h. all_take (IsItemReached k) (length rest - 1) (drop 1 rest) (all_drop (IsItemReached k) 1 rest (c.loop-rest.invariant.rest k h));
      reached = λ k h.
          let item : IsItemReached k i = subst (IsItemReached k) (sym c.item-item.is) (c.loop-rest.invariant.rest k h 0 i (omega (arith, c.in-len1-up.len_at_least))) in
          subst (All (IsReached k)) (sym push) (All-push (IsReached k) values v (c.loop-rest.invariant.reached k h) (item_reached k i v c.in-Some.is item));
    }
