-- An array is made for the frame that begins a turn with it.
use Rattle.std.proofs.Common.{◌∙◌, ap, sym}
use Rattle.rr_eval.specs.declared.frame.Control.TheVariants.{Pair}
use Rattle.rr_eval.specs.Frames.{outcome_of}
use Rattle.rr_eval.specs.Turns.{code_of, state_of}
use Rattle.rr_eval.specs.Views.{view_of}
use Rattle.rr_eval.proofs.Holding.{paired_reached}
use Rattle.rr_eval.proofs.Unwind.{begins_paired}
use Rattle.rr_eval.proofs.engine.Engine.begin_pair.Goals as goal

pub returns-clause-goes : goal.returns-clause-goes
returns-clause-goes c p t h n =
    let m = view_of c.args.self.now in
    let code = code_of p h.world in
    let s = state_of p m t h in
    begins_paired code m.frames c.args.iteration c.args.first c.args.last m.held s n
    ∙ ap (λ fs. outcome_of code fs m.held (Pair c.args.first c.args.last) s n) (sym c.push_within.ensures)

pub returns-clause-within : goal.returns-clause-within
returns-clause-within c k h first last = paired_reached k (view_of c.args.self.now) c.args.iteration c.args.first c.args.last _ c.push_within.ensures h first last
