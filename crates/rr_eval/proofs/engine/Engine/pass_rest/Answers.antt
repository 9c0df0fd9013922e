-- Statements let a `return` pass.
use Rattle.std.proofs.Common.{◌∙◌, ap, sym}
use Rattle.rr_eval.specs.Frames.{outcome_of}
use Rattle.rr_eval.specs.Turns.{code_of, state_of}
use Rattle.rr_eval.specs.Views.{view_of}
use Rattle.rr_eval.proofs.engine.Engine.pass_rest.Goals as goal

pub returns-clause-goes : goal.returns-clause-goes
returns-clause-goes c = λ p t h.
    let m = view_of c.take_top.new.self in
    c.take_top.ensures.goes p t h
    ∙ ap (λ k. outcome_of (code_of p h.world) m.frames m.held k (state_of p m t h) m.left) (sym (c.take_top.ensures.control ∙ c.requires.control))
