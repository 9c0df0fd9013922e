-- A method ends with what its statements end with.
use Rattle.std.proofs.Common.{◌∙◌, ap, sym}
use Rattle.rr_eval.specs.declared.frame.Control.TheVariants.{Give}
use Rattle.rr_eval.specs.Blocks.{returned, valued}
use Rattle.rr_eval.specs.Script.{Ret}
use Rattle.rr_eval.specs.Turns.{after_script}
use Rattle.rr_eval.specs.Variables.{top}
use Rattle.rr_eval.specs.Views.{view_of}
use Rattle.rr_eval.proofs.Holding.{with_control}
use Rattle.rr_eval.proofs.engine.Engine.leave_back.Goals as goal

pub returns-clause-goes : goal.returns-clause-goes
returns-clause-goes c p t h n =
    let m = view_of c.args.self.now in
    c.drop_frame.ensures.goes p (Ret (valued c.args.by (returned (top m.calls.frames) c.args.answer))) t h n
    ∙ ap (λ a. after_script p (view_of c.drop_frame.new.self) t (Ret a) h n) (ap (valued c.args.by) (ap (λ k. returned k c.args.answer) (sym c.top-number.ensures) ∙ sym c.returned.ensures.is) ∙ sym c.valued.ensures.is)

pub returns-clause-within : goal.returns-clause-within
returns-clause-within c k h by answer = with_control k (view_of c.drop_frame.new.self) (Give c.valued.result) (c.drop_frame.ensures.within k h) (c.valued.ensures.within k by (c.returned.ensures.within k answer))
