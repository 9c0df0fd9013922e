-- The steps are spent, or the values go.
use Rattle.std.proofs.Common.{◌≡◌, ◌∙◌, ◌+◌, ◌-◌, ap, sym, subst, arith, length, reverse, take}
use Rattle.rr_eval.specs.Frames.{Nested}
use Rattle.rr_eval.specs.Turns.{continuing}
use Rattle.rr_eval.specs.Views.{view_of}
use Rattle.rr_eval.specs.Within.{reach}
use Rattle.rr_eval.proofs.Holding.{stands_reached, with_left}
use Rattle.rr_eval.proofs.QuickSends.{below_reached}
use Rattle.rr_eval.proofs.engine.Engine.send_held.Goals as goal

pub returns-in-Ok-clause-goes : goal.returns-in-Ok-clause-goes
returns-in-Ok-clause-goes c = λ end h.
    let p = c.args.prepared.now.program in
    let n = view_of c.args.self.now in
    let steps = c.args.steps in
    let spent : c.call_first.new.self.left - (steps + 1) ≡ c.call_first.new.self.left - steps - 1 = omega arith in
    c.in-Ok.ensures.goes h (n.left - (steps + 1))
    ∙ ap (λ i. continuing p (view_of c.call_first.new.self) c.args.space.now c.in-Ok.request h (i - (steps + 1))) (sym c.in-Ok.ensures.left)
    ∙ ap (λ i. continuing p (view_of c.call_first.new.self) c.args.space.now c.in-Ok.request h i) spent

pub returns-in-Ok-clause-within : goal.returns-in-Ok-clause-within
returns-in-Ok-clause-within c clusters h last = with_left (reach (length c.args.space.now.slots) clusters) (view_of c.call_first.new.self) _ (c.in-Ok.ensures.within clusters h last)

pub returns-in-Err-clause-err : goal.returns-in-Err-clause-err
returns-in-Err-clause-err c t =
    let is = c.in-Err.ensures.err t in
    record {
      control = is.control;
      frames = is.frames;
      held = c.truncate.ensures.items ∙ ap (take c.args.base) is.held;
      calls = is.calls;
      blocks = is.blocks;
      rescuing = is.rescuing;
      left = is.left;
      objects = is.objects;
      refusal = is.refusal;
    }

pub returns-in-Err-clause-nested : goal.returns-in-Err-clause-nested
returns-in-Err-clause-nested c =
    let n = view_of c.args.self.now in
    let is = returns-in-Err-clause-err c c.args.space.now in
    subst (λ fs. Nested (reverse fs) c.truncate.new.self.items) (sym is.frames) (subst (Nested (reverse n.frames)) (sym is.held) c.requires.nested)

pub returns-in-Err-clause-within : goal.returns-in-Err-clause-within
returns-in-Err-clause-within c clusters h last =
    let k = reach (length c.args.space.now.slots) clusters in
    let n = view_of c.args.self.now in
    stands_reached k (record n { held = take c.args.base n.held }) _ c.args.space.now c.args.space.now c.in-Err.fault (returns-in-Err-clause-err c c.args.space.now) (below_reached k n c.args.base h)
