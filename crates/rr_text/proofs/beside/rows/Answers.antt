use Rattle.std.proofs.Common.{◌∙◌, ◌<◌, ◌≤◌, length, sym, arith}
use Rattle.std.proofs.lemmas.List.Elements.{All-same, All-push}
use Rattle.rr_space.specs.Labels.{triples_at}
use Rattle.rr_text.specs.Beside.{IsKnownBeside}
use Rattle.rr_text.specs.declared.beside.Sides.{Sides}
use Rattle.rr_text.proofs.Sided.{rows_more, rows_all}
use Rattle.rr_text.proofs.beside.rows.Goals as goal

pub loop-place-preserved : goal.loop-place-preserved
loop-place-preserved c =
    let ss = triples_at c.args.space.now c.args.left in
    let ts = triples_at c.args.space.now c.args.right in
    let s : Sides = record { left = c.value_at.result; right = c.value_at-in-loop-place.result } in
    let lt : c.loop-place.place < length ss = omega (arith, c.loop-place-test.true, c.arity-count.ensures.count) in
    record {
      sides = c.loop-place.invariant.sides
          ∙ rows_more ss ts c.loop-place.sides.items c.push.new.self.items s c.loop-place.place lt (omega (arith, lt, c.requires)) c.in_ok-push.ensures.items c.value_at.ensures.is c.value_at-in-loop-place.ensures.is;
      known = All-same (IsKnownBeside c.args.space.now c.args.left c.args.right) _ _ c.in_ok-push.ensures.items
          (All-push (IsKnownBeside c.args.space.now c.args.left c.args.right) c.loop-place.sides.items s c.loop-place.invariant.known (c.value_at.ensures.known, c.value_at-in-loop-place.ensures.known));
    }

pub returns-clause-sides : goal.returns-clause-sides
returns-clause-sides c =
    let ss = triples_at c.args.space.now c.args.left in
    let le : length ss ≤ c.loop-place.place = omega (arith, c.loop-place-test.false, c.arity-count.ensures.count) in
    sym (c.loop-place.invariant.sides ∙ rows_all ss (triples_at c.args.space.now c.args.right) c.loop-place.sides.items c.loop-place.place le)

pub returns-clause-known : goal.returns-clause-known
returns-clause-known c = c.loop-place.invariant.known
