-- What comes next is the answer that the topmost frame gets.
use Rattle.std.proofs.Common.{◌∙◌, ap, sym}
use Rattle.rr_eval.specs.Frames.{outcome_of}
use Rattle.rr_eval.specs.Turns.{code_of, state_of, after_answer}
use Rattle.rr_eval.specs.Views.{view_of}
use Rattle.rr_eval.proofs.Holding.{given_within}
use Rattle.rr_eval.proofs.engine.Engine.take_top.Goals as goal

pub returns-clause-goes : goal.returns-clause-goes
returns-clause-goes c = λ p t h.
    let m = view_of c.args.self.now in
    ap (λ k. outcome_of (code_of p h.world) m.frames m.held k (state_of p m t h) m.left) c.requires.control
    ∙ c.drop_top.ensures.goes p t h m.left
    ∙ ap (λ n. after_answer p (view_of c.drop_top.new.self) t c.args.frame c.args.answer h n) (sym c.drop_top.ensures.left)

pub returns-clause-given : goal.returns-clause-given
returns-clause-given c k h = given_within k (view_of c.args.self.now) c.args.answer c.requires.control h
