-- The parameters stand behind what is held, and go again.
use Rattle.std.proofs.Common.{◌≡◌, ◌∙◌, ◌++◌, sym, ap, subst, arith, length, reverse, take}
use Rattle.std.proofs.lemmas.List.{take_all, take-append-le}
use Rattle.rr_eval.specs.Frames.{Nested}
use Rattle.rr_eval.specs.Views.{view_of}
use Rattle.rr_eval.specs.Within.{reach, IsReached}
use Rattle.rr_eval.proofs.Holding.{all_nil, calls_reached, stands_reached}
use Rattle.rr_eval.proofs.Supers.{with_values}
use Rattle.rr_eval.proofs.engine.Engine.open_forwarding.Goals as goal

pub returns-in-Ok-clause-within : goal.returns-in-Ok-clause-within
returns-in-Ok-clause-within c clusters h =
    let k = reach (length c.args.space.now.slots) clusters in
    let m = view_of c.args.self.now in
    let values = c.in_ok-values.values.items in
    let held = c.in_ok-extend_from_slice.ensures.items ∙ ap (λ l. m.held ++ l) c.deref.ensures.value in
    c.send_super.ensures.within clusters (with_values k m c.reserve.new.self.items c.extend_from_slice.new.self.items values c.reserve.ensures.items held h (c.in_ok-values.ensures.within k (calls_reached k m h))) (all_nil (IsReached k))

pub returns-in-Ok-clause-asks : goal.returns-in-Ok-clause-asks
returns-in-Ok-clause-asks c k h =
    let m = view_of c.args.self.now in
    let values = c.in_ok-values.values.items in
    let held = c.in_ok-extend_from_slice.ensures.items ∙ ap (λ l. m.held ++ l) c.deref.ensures.value in
    c.in-Ok.ensures.asks k (with_values k m c.reserve.new.self.items c.extend_from_slice.new.self.items values c.reserve.ensures.items held h (c.in_ok-values.ensures.within k (calls_reached k m h))) (all_nil (IsReached k))

pub returns-clause-err : goal.returns-clause-err
returns-clause-err c t =
    let m = view_of c.args.self.now in
    let values = c.in_ok-values.values.items in
    let base = c.len-base.result in
    let is = c.in-Err.ensures.err t in
    let held = c.in_ok-extend_from_slice.ensures.items ∙ ap (λ l. m.held ++ l) c.deref.ensures.value in
    let at : base ≡ length m.held = omega arith in
    record {
      control = is.control;
      frames = is.frames ∙ c.reserve.ensures.items;
      held =
          c.truncate.ensures.items
          ∙ ap (take base) (is.held ∙ held)
          ∙ take-append-le base m.held values (omega (arith, at))
          ∙ take_all base m.held (omega (arith, at));
      calls = is.calls;
      blocks = is.blocks;
      rescuing = is.rescuing;
      left = is.left;
      objects = is.objects;
      refusal = is.refusal;
    }

pub returns-clause-nested : goal.returns-clause-nested
returns-clause-nested c =
    let m = view_of c.args.self.now in
    let is = returns-clause-err c c.args.space.now in
    subst (λ fs. Nested (reverse fs) c.truncate.new.self.items) (sym is.frames) (subst (Nested (reverse m.frames)) (sym is.held) c.requires.nested)

pub returns-clause-within : goal.returns-clause-within
returns-clause-within c clusters h = stands_reached (reach (length c.args.space.now.slots) clusters) (view_of c.args.self.now) _ c.args.space.now c.args.space.now c.in-Err.fault (returns-clause-err c c.args.space.now) h
