-- One element more is spread.
use Rattle.std.proofs.Common.{◌≡◌, ◌∙◌, ◌+◌, ◌-◌, ◌<◌, ◌++◌, ◌∷◌, [], suc, sym, ap, subst, arith, length}
use Rattle.std.specs.List.{All}
use Rattle.std.proofs.lemmas.List.Elements.{All-push}
use Rattle.rr_space.specs.declared.refer.Ref.TheVariants.{Nil}
use Rattle.rr_eval.specs.Blocks.{spread_with, spread_read, spread_from}
use Rattle.rr_eval.specs.Within.{reach, IsReached}
use Rattle.rr_eval.proofs.Spreads.{behind, behind_more, spread_step}
use Rattle.rr_eval.proofs.spreading.spread.Goals as goal

pub loop-place-preserved : goal.loop-place-preserved
loop-place-preserved c =
    let t = c.args.space.now in
    let v = c.args.array in
    let count = c.args.count in
    let place = c.loop-place.place in
    let values = c.loop-place.values.items in
    let x = c.in-Some.value in
    let all = c.push.new.self.items in
    let others = spread_from t v (suc place) (count - suc place) in
    let new : all ≡ values ++ x ∷ [] = c.in_ok-push-in-Some.ensures.items in
    let lt : place < count = omega (arith, c.loop-place-test.true) in
    let next : suc place ≡ place + 1 = omega arith in
    record {
      same =
          c.loop-place.invariant.same
          ∙ ap (behind values) (spread_step t v place count lt ∙ ap (λ r. spread_read t r others) (sym c.in-Item.ensures.is) ∙ ap (λ o. spread_with o others) (sym c.in-Some.ensures.is))
          ∙ behind_more values x others
          ∙ ap (λ l. behind l others) (sym new)
          ∙ ap (λ k. behind all (spread_from t v k (count - k))) next;
      reached = λ clusters.
          let k = reach (length t.slots) clusters in
          let given = c.in-Some.ensures.within clusters c.in-Item.ensures.within in
          subst (All (IsReached k)) (sym new) (All-push (IsReached k) values x (c.loop-place.invariant.reached clusters) (given 0 Nil (omega arith)));
    }
