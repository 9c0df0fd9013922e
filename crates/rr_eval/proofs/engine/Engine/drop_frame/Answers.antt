-- The last frame goes, and its block.
use Rattle.std.proofs.Common.{◌∙◌, ap, sym, reverse}
use Rattle.rr_eval.specs.Frames.{runs_in, unwind}
use Rattle.rr_eval.specs.Turns.{code_of, state_of}
use Rattle.rr_eval.specs.Views.{view_of}
use Rattle.rr_eval.proofs.engine.Engine.drop_frame.Goals as goal

pub returns-clause-goes : goal.returns-clause-goes
returns-clause-goes c p script t h n =
    let m = view_of c.args.self.now in
    let new = view_of c.pop_call.new.self in
    let code = code_of p h.world in
    ap (λ s. unwind code (reverse m.frames) m.held (runs_in code script s n)) (c.pop_call.ensures.state p t h)
    ∙ ap (λ fs. unwind code (reverse fs.items) m.held (runs_in code script (state_of p new t h) n)) (sym c.pop_call.ensures.frames)
    ∙ ap (λ held. unwind code (reverse new.frames) held.items (runs_in code script (state_of p new t h) n)) (sym c.pop_call.ensures.held)
