-- The leaves of one value more stand behind the others.
use Rattle.std.proofs.Common.{◌≡◌, ◌∙◌, ◌++◌, ◌∷◌, ap, sym, subst, arith, length, take, drop, ◌-◌}
use Rattle.rr_text.specs.Walk.{Wrote, followed}
use Rattle.rr_eval.specs.Leaves.{leaves_in, all_leaves, found_in, AreItemsReached, IsItemReached, IsFoundReached}
use Rattle.rr_eval.specs.Within.{reach, IsReached}
use Rattle.rr_eval.proofs.Holding.{all_take, all_drop, all_append}
use Rattle.rr_eval.proofs.Inside.{first_more, leaves_next}
use Rattle.rr_eval.proofs.leaves.all_leaves.Goals as goal

pub loop-rest-preserved : goal.loop-rest-preserved
loop-rest-preserved c =
    let t = c.args.space.now in
    let how = c.args.how in
    let levels = c.args.levels in
    let rest = c.loop-rest.rest.now in
    let more = take (length rest - 1) (drop 1 rest) in
    let v = c.value-item.result in
    let items = c.loop-rest.items.items in
    let found = c.in-Items.found.items in
    let is : rest ≡ v ∷ more = first_more rest v c.in-len1-up.len_at_least c.value-item.is in
    let push : c.extend_from_slice.new.self.items ≡ items ++ found = c.in_ok-extend_from_slice-in-Items.ensures.items ∙ ap (λ l. items ++ l) c.as_slice.ensures.value in
    let leaves : leaves_in how t levels v ≡ Wrote found = sym c.in_ok-found.ensures.are ∙ ap found_in c.in-Items.is in
    record {
      same = c.loop-rest.invariant.same ∙ ap (λ l. followed (Wrote items) (all_leaves how t levels l)) is ∙ leaves_next how t levels items found c.extend_from_slice.new.self.items v more leaves push;
      rest = λ clusters h. let k = reach (length t.slots) clusters in all_take (IsReached k) (length rest - 1) (drop 1 rest) (all_drop (IsReached k) 1 rest (c.loop-rest.invariant.rest clusters h));
      found = λ clusters h.
          let k = reach (length t.slots) clusters in
          let value : IsReached k v = subst (IsReached k) (sym c.value-item.is) (c.loop-rest.invariant.rest clusters h 0 v (omega (arith, c.in-len1-up.len_at_least))) in
          let those : AreItemsReached k found = subst (IsFoundReached k) c.in-Items.is (c.in_ok-found.ensures.within clusters value) in
          subst (AreItemsReached k) (sym push) (all_append (IsItemReached k) items found (c.loop-rest.invariant.found clusters h) those);
    }
