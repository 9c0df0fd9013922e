-- What is printed for the value that was asked stands behind the values.
use Rattle.std.proofs.Common.{◌≡◌, ◌∙◌, ◌-◌, ◌++◌, refl, ap, sym, arith, length, reverse, take, drop, slice_index_or}
use Rattle.rr_space.specs.declared.refer.Ref.TheVariants.{Nil}
use Rattle.std.proofs.lemmas.List.{take-append-le}
use Rattle.rr_eval.specs.Frames.{runs_in, unwind}
use Rattle.rr_eval.specs.Heard.{still_asked}
use Rattle.rr_eval.specs.Runs.{no_objects}
use Rattle.rr_eval.specs.Speaking.{printed_for, text_in}
use Rattle.rr_eval.specs.Turns.{code_of, state_of}
use Rattle.rr_eval.specs.Views.{view_of}
use Rattle.rr_eval.specs.Within.{reach}
use Rattle.rr_eval.proofs.Answered.{still_behind, printed_reached, text_reached, with_held, held_again}
use Rattle.rr_eval.proofs.Holding.{held_reached, stands_reached}
use Rattle.rr_eval.proofs.engine.Engine.resume_asked.Goals as goal

pub returns-in-Ok-clause-goes : goal.returns-in-Ok-clause-goes
returns-in-Ok-clause-goes c = λ h n.
    let p = c.args.prepared.now.program in
    let m = view_of c.args.self.now in
    let t = c.args.space.now in
    let a = c.args.asking in
    let code = code_of p h.world in
    let s = state_of p m t h in
    let stand = drop a.base m.held in
    let v = slice_index_or stand (a.seen - 1) Nil in
    let shown = printed_for a.saying v (text_in t c.args.value) in
    let held = c.hold_printed.new.held.items in
    let value : c.value_at-asked.result ≡ v = c.value_at-asked.ensures.is ∙ ap (λ l. slice_index_or l c.saturating_sub.result Nil) c.standing-stand.ensures.is ∙ ap (λ i. slice_index_or stand i Nil) c.saturating_sub.ensures in
    let push : held ≡ m.held ++ shown = c.in_ok-hold_printed.ensures.held ∙ ap (λ w. m.held ++ printed_for a.saying w c.text_in.result) value ∙ ap (λ o. m.held ++ printed_for a.saying v o) c.text_in.ensures in
    ap (λ script. unwind code (reverse m.frames) (take a.base m.held) (runs_in code script s n)) (still_behind p a m.held held shown c.requires.base push)
    ∙ ap (λ l. unwind code (reverse m.frames) l (runs_in code (still_asked p a held) s n)) (sym (take-append-le a.base m.held shown (omega (arith, c.requires.base))) ∙ ap (take a.base) (sym push))
    ∙ c.in-Ok.ensures.goes h n

pub returns-in-Ok-clause-within : goal.returns-in-Ok-clause-within
returns-in-Ok-clause-within c clusters h value =
    let k = reach (length c.args.space.now.slots) clusters in
    let m = view_of c.args.self.now in
    let asked = c.value_at-asked.ensures.within k (c.standing-stand.ensures.within k (held_reached k m h)) in
    c.in-Ok.ensures.within clusters (with_held k m _ (printed_for c.args.asking.saying c.value_at-asked.result c.text_in.result) c.in_ok-hold_printed.ensures.held h (printed_reached k c.args.asking.saying c.value_at-asked.result c.text_in.result asked (text_reached k c.args.space.now c.args.value c.text_in.result c.text_in.ensures value)))

pub returns-in-Ok-clause-asks : goal.returns-in-Ok-clause-asks
returns-in-Ok-clause-asks c clusters h value =
    let k = reach (length c.args.space.now.slots) clusters in
    let m = view_of c.args.self.now in
    let asked = c.value_at-asked.ensures.within k (c.standing-stand.ensures.within k (held_reached k m h)) in
    c.in-Ok.ensures.asks clusters (with_held k m _ (printed_for c.args.asking.saying c.value_at-asked.result c.text_in.result) c.in_ok-hold_printed.ensures.held h (printed_reached k c.args.asking.saying c.value_at-asked.result c.text_in.result asked (text_reached k c.args.space.now c.args.value c.text_in.result c.text_in.ensures value)))

pub returns-in-Err-clause-err : goal.returns-in-Err-clause-err
returns-in-Err-clause-err c t =
    let held = (view_of c.args.self.now).held in
    let count = c.len-before.result in
    let is = c.in-Err.ensures.err in
    let shown = printed_for c.args.asking.saying c.value_at-asked.result c.text_in.result in
    record {
      control = is.control;
      frames = is.frames;
      held = c.truncate.ensures.items ∙ held_again count held c.hold_printed.new.held.items c.ask_on.new.self.held.items shown (omega (arith, c.len-before.ensures)) c.in_ok-hold_printed.ensures.held is.held;
      calls = is.calls;
      blocks = is.blocks;
      rescuing = is.rescuing;
      left = is.left;
      objects = refl;
      refusal = is.refusal;
    }

pub returns-in-Err-clause-within : goal.returns-in-Err-clause-within
returns-in-Err-clause-within c clusters h value =
    stands_reached (reach (length c.args.space.now.slots) clusters) (view_of c.args.self.now) _ (no_objects 0) (no_objects 0) c.in-Err.fault (returns-in-Err-clause-err c (no_objects 0)) h
