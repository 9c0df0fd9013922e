-- A variable of a frame below has another value.
use Rattle.std.proofs.Common.{◌∙◌, ◌-◌, List, [], ◌∷◌, ◌++◌, ap, sym, subst, arith}
use Rattle.std.specs.List.{All}
use Rattle.rr_frames.specs.Frames.{Frame as Activated, Stack, write_at}
use Rattle.rr_eval.specs.Within.{AreVariablesReached}
use Rattle.rr_eval.proofs.Frameless.{writes_outside, set_within}
use Rattle.rr_eval.proofs.call_stack.CallStack.write_unframed.Goals as goal

pub returns-in-Some-clause-written : goal.returns-in-Some-clause-written
returns-in-Some-clause-written c = λ _ f lies.
    let x = c.args.variable in
    let found = c.in-Some in
    let fs = c.args.self.now.frames in
    writes_outside fs f c.args.home (x.depth - 1) found.number x c.args.value lies (omega arith) (found.ensures.goes f) found.ensures.there
    ∙ ap (λ (s : Stack). write_at found.number x.slot c.args.value s.frames ++ f ∷ []) (sym c.self.view_is)
    ∙ ap (λ (gs : List Activated). gs ++ f ∷ []) (sym c.set.ensures.frames)

pub returns-in-Some-clause-within : goal.returns-in-Some-clause-within
returns-in-Some-clause-within c = λ k value h.
    let x = c.args.variable in
    let number = c.in-Some.number in
    subst (All (AreVariablesReached k)) (ap (λ (s : Stack). write_at number x.slot c.args.value s.frames) (sym c.self.view_is) ∙ sym c.set.ensures.frames)
    (set_within k c.args.self.now.frames number x.slot c.args.value h value)
