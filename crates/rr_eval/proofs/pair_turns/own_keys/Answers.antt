-- One key more is gathered, until there are no more.
use Rattle.std.proofs.Common.{rules, ◌≡◌, ◌∙◌, ◌+◌, ◌*◌, ◌/◌, ◌<◌, ◌≤◌, ◌++◌, ◌∷◌, [], suc, sym, ap, subst, arith, drop, length, Some}
use Rattle.std.specs.List.{All}
use Rattle.std.proofs.lemmas.List.Elements.{All-push}
use Rattle.rr_space.specs.Labels.{triples_at}
use Rattle.rr_space.specs.declared.refer.Ref.TheVariants.{Nil}
use Rattle.rr_builtin.specs.Elements.{names_of_hash}
use Rattle.rr_eval.specs.Blocks.{spread_with}
use Rattle.rr_eval.specs.Iterating.{own_values}
use Rattle.rr_eval.specs.Responses.{own_of}
use Rattle.rr_eval.specs.Within.{reach, IsReached}
use Rattle.rr_builtin.proofs.Gathering.{append_nil}
use Rattle.rr_eval.proofs.PairTurns.{keys_next, keys_end}
use Rattle.rr_eval.proofs.Spreads.{behind, behind_more}
use Rattle.rr_eval.proofs.pair_turns.own_keys.Goals as goal

pub loop-pair-preserved : goal.loop-pair-preserved
loop-pair-preserved c =
    let t = c.args.space.now in
    let v = c.args.hash in
    let n = c.loop-pair.pair in
    let keys = c.loop-pair.keys.items in
    let x = c.in-Some.key in
    let all = c.push.new.self.items in
    let others = own_values t (drop (suc n) (names_of_hash t v)) in
    let new : all ≡ keys ++ x ∷ [] = c.in_ok-push-in-Some.ensures.items in
    let half : n < length (triples_at t v) / 2 = search rules in
    let lt : 2 * n + 1 < length (triples_at t v) = omega (arith, half) in
    let next : suc n ≡ n + 1 = omega arith in
    record {
      same =
          c.loop-pair.invariant.same
          ∙ ap (behind keys) (ap (own_values t) (keys_next t v n lt) ∙ ap (λ y. spread_with (own_of t y) others) (sym c.element.ensures.is) ∙ ap (λ o. spread_with o others) (sym c.in-Some.ensures.is))
          ∙ behind_more keys x others
          ∙ ap (λ l. behind l others) (sym new)
          ∙ ap (λ k. behind all (own_values t (drop k (names_of_hash t v)))) next;
      reached = λ clusters.
          let k = reach (length t.slots) clusters in
          let given = c.in-Some.ensures.within clusters c.element.ensures.within in
          subst (All (IsReached k)) (sym new) (All-push (IsReached k) keys x (c.loop-pair.invariant.reached clusters) (given 0 Nil (omega arith)));
    }

pub returns-in-None-clause-are : goal.returns-in-None-clause-are
returns-in-None-clause-are c =
    let t = c.args.space.now in
    let v = c.args.hash in
    let n = c.loop-pair.pair in
    let keys = c.loop-pair.keys.items in
    let others = own_values t (drop (suc n) (names_of_hash t v)) in
    let half : n < length (triples_at t v) / 2 = search rules in
    let lt : 2 * n + 1 < length (triples_at t v) = omega (arith, half) in
    sym (
    c.loop-pair.invariant.same
    ∙ ap (behind keys) (ap (own_values t) (keys_next t v n lt) ∙ ap (λ y. spread_with (own_of t y) others) (sym c.element.ensures.is) ∙ ap (λ o. spread_with o others) (sym c.in-None.ensures.is)))

pub returns-clause-are : goal.returns-clause-are
returns-clause-are c =
    let t = c.args.space.now in
    let v = c.args.hash in
    let n = c.loop-pair.pair in
    let keys = c.loop-pair.keys.items in
    let half : n ≡ length (triples_at t v) / 2 = search rules in
    let le : length (triples_at t v) ≤ 2 * n + 1 = omega (arith, half) in
    sym (c.loop-pair.invariant.same ∙ ap (behind keys) (ap (own_values t) (keys_end t v n le)) ∙ ap Some (sym (append_nil keys)))
