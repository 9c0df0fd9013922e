-- One turn more is done.
use Rattle.std.proofs.Common.{◌≡◌, ◌∙◌, ap, arith, drop, refl, rules, sym, to_z, of_z, w64}
use Rattle.rr_eval.specs.declared.engine.Engine.{Engine}
use Rattle.rr_eval.specs.declared.frame.Frame.TheVariants.{Turned}
use Rattle.rr_eval.specs.declared.iterating.Iterating.{Iterating}
use Rattle.rr_eval.specs.declared.iterating.Visits.TheVariants.{Times}
use Rattle.rr_eval.specs.Frames.{iterated}
use Rattle.rr_eval.specs.Iterating.{continued_with}
use Rattle.rr_eval.specs.Turns.{context_of, code_of, after_values}
use Rattle.rr_eval.specs.Views.{view_of}
use Rattle.rr_eval.proofs.engine.Engine.run_times.Goals as goal

pub loop-self-preserved : goal.loop-self-preserved
loop-self-preserved c =
    let before = c.loop-self in
    let now = before.invariant in
    let done = c.in-Some.done in
    let turn = c.in-Some.ensures in
    let new = c.go_time.new.self in
    let more = c.loop-self-test.true in
    let spent = turn.left in
    let fewer = turn.kept in
    let kept = now.kept in
    let p = c.args.prepared.now.program in
    let read : to_z w64 (of_z w64 done.next) ≡ done.next = search rules in
    record {
      next = ap (λ (i : Iterating). record i { visits = Times (to_z w64 (of_z w64 done.next)) }) now.next;
      visits = refl;
      goes = λ t h. now.goes t h ∙ turn.goes before.last.value t h
          ∙ ap (λ z. after_values p (view_of new) t (Turned (record before.next { visits = Times z })) (continued_with (context_of p) (iterated (code_of p h.world) (record before.next { visits = Times z }) (drop before.next.base new.held.items)) done.value) h new.left) (sym read);
      base = now.base;
      block = now.block;
      within = λ k h. turn.within k (now.within k h);
      value = λ k h. turn.value k;
      others = turn.others ∙ ap (λ (e : Engine). record e { calls = new.calls; left = new.left }) now.others;
      many = record { frames = turn.many.frames ∙ now.many.frames; limit = turn.many.limit ∙ now.many.limit };
      left = omega (arith, more, spent);
      kept = omega (arith, fewer, kept);
    }
