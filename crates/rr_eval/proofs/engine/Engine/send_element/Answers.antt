-- The index stands behind what is held below it.
use Rattle.std.proofs.Common.{◌≡◌, ◌≤◌, ◌∙◌, ◌++◌, ◌∷◌, [], ap, arith, length, take, drop, None}
use Rattle.std.proofs.lemmas.List.{take_all, drop_all, take-append-le, drop-append-le}
use Rattle.rr_eval.specs.declared.call.Callee.TheVariants.{SetIndex}
use Rattle.rr_eval.specs.Dispatch.{send_rule}
use Rattle.rr_eval.specs.Runs.{no_objects}
use Rattle.rr_eval.specs.Turns.{context_of, code_of, state_of}
use Rattle.rr_eval.specs.Views.{view_of}
use Rattle.rr_eval.specs.Within.{reach, IsReached}
use Rattle.rr_eval.proofs.Holding.{all_cons, all_nil, stands_reached, with_value}
use Rattle.rr_eval.proofs.Spots.{element_over}
use Rattle.rr_eval.proofs.engine.Engine.send_element.Goals as goal

pub returns-in-Ok-clause-goes : goal.returns-in-Ok-clause-goes
returns-in-Ok-clause-goes c = λ h n.
    let p = c.args.prepared.now.program in
    let m = view_of c.args.self.now in
    let t = c.args.space.now in
    let own = context_of p in
    let base = c.len-base.result in
    let all = c.push.new.self.items in
    let i = c.args.index in
    let push : all ≡ m.held ++ i ∷ [] = c.in_ok-push.ensures.items in
    let le : base ≤ length m.held = omega (arith, c.len-base.ensures) in
    let past : length m.held ≤ base = omega (arith, c.len-base.ensures) in
    let below : take base all ≡ m.held = ap (take base) push ∙ take-append-le base m.held (i ∷ []) le ∙ take_all base m.held past in
    let stand : drop base all ≡ i ∷ [] = ap (drop base) push ∙ drop-append-le base m.held (i ∷ []) le ∙ ap (λ l. l ++ i ∷ []) (drop_all base m.held past) in
    element_over (code_of p h.world) m.frames m.held all base i c.args.value (λ vs. send_rule own SetIndex None c.args.receiver vs) (state_of p m t h) n push below stand
    ∙ c.in-Ok.ensures.goes h n

pub returns-in-Ok-clause-within : goal.returns-in-Ok-clause-within
returns-in-Ok-clause-within c clusters h receiver index value =
    let k = reach (length c.args.space.now.slots) clusters in
    c.in-Ok.ensures.within clusters (with_value k (view_of c.args.self.now) _ c.args.index c.in_ok-push.ensures.items h index) receiver (all_cons (IsReached k) c.args.value [] value (all_nil (IsReached k)))

pub returns-in-Ok-clause-asks : goal.returns-in-Ok-clause-asks
returns-in-Ok-clause-asks c k h receiver index value = c.in-Ok.ensures.asks k (with_value k (view_of c.args.self.now) _ c.args.index c.in_ok-push.ensures.items h index) receiver (all_cons (IsReached k) c.args.value [] value (all_nil (IsReached k)))

pub returns-in-Err-clause-err : goal.returns-in-Err-clause-err
returns-in-Err-clause-err c t =
    let held = (view_of c.args.self.now).held in
    let base = c.len-base.result in
    let is = c.in-Err.ensures.err t in
    record {
      control = is.control;
      frames = is.frames;
      held = c.truncate.ensures.items ∙ ap (take base) (is.held ∙ c.in_ok-push.ensures.items) ∙ take-append-le base held (c.args.index ∷ []) (omega (arith, c.len-base.ensures)) ∙ take_all base held (omega (arith, c.len-base.ensures));
      calls = is.calls;
      blocks = is.blocks;
      rescuing = is.rescuing;
      left = is.left;
      objects = is.objects;
      refusal = is.refusal;
    }

pub returns-in-Err-clause-within : goal.returns-in-Err-clause-within
returns-in-Err-clause-within c clusters h receiver index value = stands_reached (reach (length c.args.space.now.slots) clusters) (view_of c.args.self.now) _ (no_objects 0) (no_objects 0) c.in-Err.fault (returns-in-Err-clause-err c (no_objects 0)) h
