-- One value more stands behind the one between.
use Rattle.std.proofs.Common.{◌∙◌, sym, subst, arith, length, take, drop, ◌-◌}
use Rattle.std.specs.List.{All}
use Rattle.std.proofs.lemmas.List.Elements.{All-push}
use Rattle.rr_eval.specs.Within.{IsReached}
use Rattle.rr_eval.proofs.Holding.{all_take, all_drop}
use Rattle.rr_eval.proofs.Inside.{first_more, between_next}
use Rattle.rr_eval.proofs.leaves.between.Goals as goal

pub loop-rest-preserved : goal.loop-rest-preserved
loop-rest-preserved c =
    let rest = c.loop-rest.rest.now in
    let more = take (length rest - 1) (drop 1 rest) in
    let v = c.value-item.result in
    let all = c.loop-rest.all.items in
    let one = c.push-in-len1-up-rest.new.self.items in
    let new = c.push-in-len1-up-rest-2.new.self.items in
    let first = c.in_ok-push-2.ensures.items in
    let second = c.in_ok-push-3.ensures.items in
    record {
      same = c.loop-rest.invariant.same ∙ between_next c.args.separator v all one new rest more (first_more rest v c.in-len1-up-rest.len_at_least c.value-item.is) first second;
      rest = λ k h. all_take (IsReached k) (length rest - 1) (drop 1 rest) (all_drop (IsReached k) 1 rest (c.loop-rest.invariant.rest k h));
      reached = λ k s h.
          let value : IsReached k v = subst (IsReached k) (sym c.value-item.is) (c.loop-rest.invariant.rest k h 0 v (omega (arith, c.in-len1-up-rest.len_at_least))) in
          let held = subst (All (IsReached k)) (sym first) (All-push (IsReached k) all c.args.separator (c.loop-rest.invariant.reached k s h) s) in
          subst (All (IsReached k)) (sym second) (All-push (IsReached k) one v held value);
    }
