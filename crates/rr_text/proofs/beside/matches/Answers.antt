use Rattle.std.proofs.Common.{◌≡◌, ◌∙◌, ◌+◌, ◌*◌, ◌/◌, ◌<◌, ◌≤◌, List, Option, drop, length, map, ap, sym, subst, IfSome, arith}
use Rattle.std.specs.Option.{option_map}
use Rattle.std.proofs.lemmas.List.Elements.{All-nil, All-same, All-push}
use Rattle.rr_space.specs.Labels.{triples_at}
use Rattle.rr_space.specs.Views.{IsKnownFrom}
use Rattle.rr_space.specs.Parts.{value_of}
use Rattle.rr_space.specs.Tables.{graph_of, resolve}
use Rattle.rr_space.specs.declared.refer.Ref.{Ref}
use Rattle.rr_text.specs.Same.{triples_in}
use Rattle.rr_text.specs.Keys.{pairs_in, reading}
use Rattle.rr_text.specs.Comparing.{value_in, value_under}
use Rattle.rr_text.specs.Beside.{resolved, IsKnownBeside}
use Rattle.rr_text.specs.declared.beside.Sides.{Sides}
use Rattle.rr_text.proofs.Looking.{among_child}
use Rattle.rr_text.proofs.Sided.{found_after, matched_first, matched_more, matched_none, matched_end, value_told, pair_told, pairs_told_end}
use Rattle.rr_text.proofs.beside.matches.Goals as goal

pub returns-in-None-clause-sides : goal.returns-in-None-clause-sides
returns-in-None-clause-sides c = λ below read among_left among_right.
    let t = c.args.space.now in
    let sound = c.len-count.ensures.well.sound in
    let n = c.loop-pair.pair in
    let under = value_under (reading t below) (resolve t.slots (value_of c.args.right)) in
    let ts = triples_in (graph_of t.slots below) (resolve t.slots (value_of c.args.left)) in
    let name = c.value_at-key.result in
    let among_name = among_child t below c.args.left name read among_left c.value_at-key.ensures.known in
    let half : c.arity-count.result / 2 ≡ length (triples_at t c.args.left) / 2 = ap (λ m. m / 2) c.arity-count.ensures.count in
    let lt : 2 * n + 1 < length (triples_at t c.args.left) = omega (arith, c.loop-pair-test.true, half) in
    sym (c.loop-pair.invariant.sides below read among_left among_right
    ∙ ap (found_after under (map (resolved t.slots) c.loop-pair.sides.items)) (pair_told t below sound read c.args.left name n among_left lt c.value_at-key.ensures.is)
    ∙ matched_none t.slots under c.loop-pair.sides.items (resolve t.slots (value_of name)) (value_in ts (2 * n + 1)) (drop (n + 1) (pairs_in ts))
    (sym (c.in_ok-value.ensures.is below read among_right among_name) ∙ ap (option_map (λ (x : Ref). resolve t.slots (value_of x))) c.in-None.is))

pub loop-pair-init : goal.loop-pair-init
loop-pair-init c = record {
  sides = λ below read among_left among_right.
      let t = c.args.space.now in
      let under = value_under (reading t below) (resolve t.slots (value_of c.args.right)) in
      let ps = pairs_in (triples_in (graph_of t.slots below) (resolve t.slots (value_of c.args.left))) in
      matched_first under ps ∙ ap (λ (xs : List Sides). found_after under (map (resolved t.slots) xs) ps) (sym c.in_ok-sides.ensures.items);
  known = All-same (IsKnownBeside c.args.space.now c.args.left c.args.right) _ _ c.in_ok-sides.ensures.items (All-nil (IsKnownBeside c.args.space.now c.args.left c.args.right));
}

pub loop-pair-preserved : goal.loop-pair-preserved
loop-pair-preserved c =
    let t = c.args.space.now in
    let s : Sides = record { left = c.value_at.result; right = c.in-Some.value } in
    record {
      sides = λ below read among_left among_right.
          let sound = c.len-count.ensures.well.sound in
          let n = c.loop-pair.pair in
          let under = value_under (reading t below) (resolve t.slots (value_of c.args.right)) in
          let ts = triples_in (graph_of t.slots below) (resolve t.slots (value_of c.args.left)) in
          let name = c.value_at-key.result in
          let among_name = among_child t below c.args.left name read among_left c.value_at-key.ensures.known in
          let half : c.arity-count.result / 2 ≡ length (triples_at t c.args.left) / 2 = ap (λ m. m / 2) c.arity-count.ensures.count in
          let lt : 2 * n + 1 < length (triples_at t c.args.left) = omega (arith, c.loop-pair-test.true, half) in
          c.loop-pair.invariant.sides below read among_left among_right
          ∙ ap (found_after under (map (resolved t.slots) c.loop-pair.sides.items)) (pair_told t below sound read c.args.left name n among_left lt c.value_at-key.ensures.is)
          ∙ matched_more t.slots under c.loop-pair.sides.items (resolve t.slots (value_of name)) (value_in ts (2 * n + 1)) (drop (n + 1) (pairs_in ts)) c.push.new.self.items s
          (sym (c.in_ok-value.ensures.is below read among_right among_name) ∙ ap (option_map (λ (x : Ref). resolve t.slots (value_of x))) c.in-Some.is)
          (value_told t below sound read c.args.left c.value_at.result (2 * n + 1) among_left c.value_at.ensures.is) c.in_ok-push-in-Some.ensures.items;
      known = All-same (IsKnownBeside t c.args.left c.args.right) _ _ c.in_ok-push-in-Some.ensures.items
          (All-push (IsKnownBeside t c.args.left c.args.right) c.loop-pair.sides.items s c.loop-pair.invariant.known (c.value_at.ensures.known, subst (λ (o : Option Ref). IfSome o (IsKnownFrom t c.args.right)) c.in-Some.is c.in_ok-value.ensures.known));
    }

pub returns-clause-sides : goal.returns-clause-sides
returns-clause-sides c = λ below read among_left among_right.
    let t = c.args.space.now in
    let under = value_under (reading t below) (resolve t.slots (value_of c.args.right)) in
    let half : c.arity-count.result / 2 ≡ length (triples_at t c.args.left) / 2 = ap (λ m. m / 2) c.arity-count.ensures.count in
    let le : length (triples_at t c.args.left) ≤ 2 * c.loop-pair.pair + 1 = omega (arith, c.loop-pair-test.false, half) in
    sym (c.loop-pair.invariant.sides below read among_left among_right
    ∙ ap (found_after under (map (resolved t.slots) c.loop-pair.sides.items)) (pairs_told_end t below c.len-count.ensures.well.sound read c.args.left c.loop-pair.pair among_left le)
    ∙ matched_end under (map (resolved t.slots) c.loop-pair.sides.items))
