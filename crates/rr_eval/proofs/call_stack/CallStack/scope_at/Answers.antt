-- Each frame between is there.
use Rattle.std.proofs.Common.{◌≡◌, ◌∙◌, ◌-◌, ap, sym, arith, Some, slice_get}
use Rattle.std.specs.Option.{option_map}
use Rattle.rr_frames.specs.Frames.{Frame as Activated, Stack}
use Rattle.rr_eval.proofs.Frameless.{scope_more}
use Rattle.rr_eval.proofs.call_stack.CallStack.scope_at.Goals as goal

pub loop-rest-preserved : goal.loop-rest-preserved
loop-rest-preserved c = λ f.
    let now = c.loop-rest in
    let fs = c.args.self.now.frames in
    let home = c.in_ok-number.field-0 in
    let some = c.loop-rest-test.true in
    let found : option_map (λ (g : Activated). g.activation) (slice_get fs now.number) ≡ Some home =
    ap (λ (s : Stack). option_map (λ (g : Activated). g.activation) (slice_get s.frames now.number)) (sym c.self.view_is) ∙ sym c.activation.ensures ∙ c.in_ok-number.was in
    now.invariant f ∙ scope_more fs f now.rest (now.rest - 1) now.number home (omega (arith, some)) found
