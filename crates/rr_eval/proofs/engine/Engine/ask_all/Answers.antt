-- The values stand behind what is held below them.
use Rattle.std.proofs.Common.{◌∙◌, ◌-◌, ◌∷◌, [], refl, ap, sym, arith, length, reverse, take}
use Rattle.std.proofs.lemmas.List.{take-append-le}
use Rattle.rr_eval.specs.declared.asking.Asking.{Asking}
use Rattle.rr_eval.specs.Frames.{runs_in, below_of, stand_of, unwind}
use Rattle.rr_eval.specs.Heard.{still_asked}
use Rattle.rr_eval.specs.Runs.{no_objects}
use Rattle.rr_eval.specs.Turns.{code_of, state_of}
use Rattle.rr_eval.specs.Views.{view_of}
use Rattle.rr_eval.specs.Within.{reach}
use Rattle.rr_eval.proofs.Answered.{first_asked, held_again}
use Rattle.rr_eval.proofs.Holding.{stands_reached, with_value}
use Rattle.rr_eval.proofs.engine.Engine.ask_all.Goals as goal

pub returns-in-Ok-clause-goes : goal.returns-in-Ok-clause-goes
returns-in-Ok-clause-goes c = λ h n.
    let p = c.args.prepared.now.program in
    let m = view_of c.args.self.now in
    let t = c.args.space.now in
    let code = code_of p h.world in
    let s = state_of p m t h in
    let f = c.args.frame in
    let base = c.first_standing-base.result in
    let held = c.push.new.self.items in
    let v = c.args.value in
    let a : Asking = record { saying = c.args.saying; name = c.args.name; base = base; count = c.len.result - base; seen = 0 } in
    let push = c.in_ok-push.ensures.items in
    ap (λ script. unwind code (reverse m.frames) (below_of f m.held) (runs_in code script s n)) (first_asked p a m.held held (stand_of f m.held) v c.first_standing-base.ensures.inside push c.first_standing-base.ensures.stand (omega (arith, c.len.ensures)) refl)
    ∙ ap (λ l. unwind code (reverse m.frames) l (runs_in code (still_asked p a held) s n)) (sym c.first_standing-base.ensures.below ∙ sym (take-append-le base m.held (v ∷ []) c.first_standing-base.ensures.inside) ∙ ap (take base) (sym push))
    ∙ c.in-Ok.ensures.goes h n

pub returns-in-Ok-clause-within : goal.returns-in-Ok-clause-within
returns-in-Ok-clause-within c clusters h value = c.in-Ok.ensures.within clusters (with_value (reach (length c.args.space.now.slots) clusters) (view_of c.args.self.now) _ c.args.value c.in_ok-push.ensures.items h value)

pub returns-in-Ok-clause-asks : goal.returns-in-Ok-clause-asks
returns-in-Ok-clause-asks c clusters h value = c.in-Ok.ensures.asks clusters (with_value (reach (length c.args.space.now.slots) clusters) (view_of c.args.self.now) _ c.args.value c.in_ok-push.ensures.items h value)

pub returns-in-Err-clause-err : goal.returns-in-Err-clause-err
returns-in-Err-clause-err c t =
    let held = (view_of c.args.self.now).held in
    let is = c.in-Err.ensures.err in
    record {
      control = is.control;
      frames = is.frames;
      held = c.truncate.ensures.items ∙ held_again c.len-before.result held c.push.new.self.items c.ask_on.new.self.held.items (c.args.value ∷ []) (omega (arith, c.len-before.ensures)) c.in_ok-push.ensures.items is.held;
      calls = is.calls;
      blocks = is.blocks;
      rescuing = is.rescuing;
      left = is.left;
      objects = refl;
      refusal = is.refusal;
    }

pub returns-in-Err-clause-within : goal.returns-in-Err-clause-within
returns-in-Err-clause-within c clusters h value = stands_reached (reach (length c.args.space.now.slots) clusters) (view_of c.args.self.now) _ (no_objects 0) (no_objects 0) c.in-Err.fault (returns-in-Err-clause-err c (no_objects 0)) h
