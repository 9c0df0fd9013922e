-- One turn more is done.
use Rattle.std.proofs.Common.{◌∙◌, ap, arith, length}
use Rattle.rr_eval.specs.declared.engine.Engine.{Engine}
use Rattle.rr_eval.specs.declared.iterating.Iterating.{Iterating}
use Rattle.rr_eval.proofs.engine.Engine.run_turns.Goals as goal

pub loop-self-preserved : goal.loop-self-preserved
loop-self-preserved c =
    let before = c.loop-self in
    let now = before.invariant in
    let turn = c.in-Some.ensures in
    let new = c.go_turn.new.self in
    let more = c.loop-self-test.true in
    let base = now.base in
    let held = ap (λ (e : Engine). length e.held.items) turn.others in
    let spent = turn.left in
    let fewer = turn.kept in
    let kept = now.kept in
    record {
      next = ap (λ (i : Iterating). record i { visits = c.in-Some.done.visits }) now.next;
      goes = λ h. now.goes h ∙ turn.goes before.last.value h;
      base = omega (arith, base, held);
      block = now.block;
      within = λ clusters h. turn.within clusters (now.within clusters h);
      value = λ clusters h. turn.value clusters;
      others = turn.others ∙ ap (λ (e : Engine). record e { calls = new.calls; left = new.left }) now.others;
      many = record { frames = turn.many.frames ∙ now.many.frames; limit = turn.many.limit ∙ now.many.limit };
      left = omega (arith, more, spent);
      kept = omega (arith, fewer, kept);
    }
