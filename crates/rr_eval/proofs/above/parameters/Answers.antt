-- One parameter more.
use Rattle.std.proofs.Common.{◌≡◌, ◌∙◌, ◌+◌, ◌++◌, ◌∷◌, [], suc, ap, sym, subst, arith}
use Rattle.std.specs.List.{All}
use Rattle.std.proofs.lemmas.List.Elements.{All-push}
use Rattle.rr_eval.specs.Above.{first_variables}
use Rattle.rr_eval.specs.Within.{IsReached}
use Rattle.rr_eval.proofs.Supers.{read_within}
use Rattle.rr_eval.proofs.above.parameters.Goals as goal

pub loop-slot-preserved : goal.loop-slot-preserved
loop-slot-preserved c =
    let frames = c.args.calls.now.frames in
    let number = c.running-running.result.root in
    let slot = c.loop-slot.slot in
    let values = c.loop-slot.values.items in
    let v = c.get.result in
    let all = c.push.new.self.items in
    let new : all ≡ values ++ v ∷ [] = c.in_ok-push.ensures.items in
    let next : suc slot ≡ slot + 1 = omega arith in
    record {
      same =
          new
          ∙ ap (λ l. l ++ v ∷ []) c.loop-slot.invariant.same
          ∙ ap (λ w. first_variables slot number frames ++ w ∷ []) c.get.ensures
          ∙ ap (λ k. first_variables k number frames) next;
      reached = λ k h. subst (All (IsReached k)) (sym new) (All-push (IsReached k) values v (c.loop-slot.invariant.reached k h) (subst (IsReached k) (sym c.get.ensures) (read_within k frames number slot h)));
      most = omega (arith, c.loop-slot-test.true);
    }
