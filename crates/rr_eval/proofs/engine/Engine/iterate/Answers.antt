-- The receiver and the arguments stand behind what is held below them.
use Rattle.std.proofs.Common.{◌∙◌, ◌∷◌, [], ap, arith, length, take}
use Rattle.std.proofs.lemmas.List.{take_all, take-append-le}
use Rattle.rr_eval.specs.Runs.{no_objects}
use Rattle.rr_eval.specs.Views.{view_of}
use Rattle.rr_eval.specs.Within.{reach}
use Rattle.rr_eval.proofs.Holding.{stands_reached, with_value}
use Rattle.rr_eval.proofs.engine.Engine.iterate.Goals as goal

pub returns-in-Ok-clause-within : goal.returns-in-Ok-clause-within
returns-in-Ok-clause-within c clusters h value = c.begin_iteration.ensures.within clusters (with_value (reach (length c.args.space.now.slots) clusters) (view_of c.args.self.now) _ c.args.value c.in_ok-push.ensures.items h value)

pub returns-in-Err-clause-err : goal.returns-in-Err-clause-err
returns-in-Err-clause-err c t =
    let held = (view_of c.args.self.now).held in
    let count = c.len-count.result in
    let is = c.in-Err.ensures.err t in
    record {
      control = is.control;
      frames = is.frames;
      held = c.truncate.ensures.items ∙ ap (take count) (is.held ∙ c.in_ok-push.ensures.items) ∙ take-append-le count held (c.args.value ∷ []) (omega (arith, c.len-count.ensures)) ∙ take_all count held (omega (arith, c.len-count.ensures));
      calls = is.calls;
      blocks = is.blocks;
      rescuing = is.rescuing;
      left = is.left;
      objects = is.objects;
      refusal = is.refusal;
    }

pub returns-in-Err-clause-within : goal.returns-in-Err-clause-within
returns-in-Err-clause-within c clusters h value = stands_reached (reach (length c.args.space.now.slots) clusters) (view_of c.args.self.now) _ (no_objects 0) (no_objects 0) c.in-Err.fault (returns-in-Err-clause-err c (no_objects 0)) h

pub returns-in-Ok-clause-asks : goal.returns-in-Ok-clause-asks
returns-in-Ok-clause-asks c k h value = c.in-Ok.ensures.asks k (with_value k (view_of c.args.self.now) _ c.args.value c.in_ok-push.ensures.items h value)
