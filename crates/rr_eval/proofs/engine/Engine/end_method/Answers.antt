-- A method ends with a value.
use Rattle.std.proofs.Common.{◌∙◌, ap, subst, sym}
use Rattle.rr_eval.specs.declared.frame.Control.TheVariants.{Give}
use Rattle.rr_eval.specs.declared.problem.Answer.TheVariants.{Gave}
use Rattle.rr_eval.specs.Blocks.{back, valued}
use Rattle.rr_eval.specs.Script.{Ret}
use Rattle.rr_eval.specs.Turns.{after_script, remaining_with}
use Rattle.rr_eval.specs.Views.{view_of}
use Rattle.rr_eval.specs.Within.{IsCallValueReached, IsControlReached}
use Rattle.rr_eval.proofs.Holding.{with_control}
use Rattle.rr_eval.proofs.engine.Engine.end_method.Goals as goal

pub returns-in-Method-clause-goes : goal.returns-in-Method-clause-goes
returns-in-Method-clause-goes c p t h n =
    ap (λ b. after_script p (view_of c.args.self.now) t (back b (Gave c.args.value)) h n) c.in-Method.is
    ∙ c.drop_frame.ensures.goes p (Ret (Gave c.args.value)) t h n
    ∙ ap (λ x. remaining_with p (record (view_of c.drop_frame.new.self) { control = x }) t h n) (sym c.give.ensures)

pub returns-in-Method-clause-within : goal.returns-in-Method-clause-within
returns-in-Method-clause-within c k h by value = with_control k (view_of c.drop_frame.new.self) c.give.new.self (c.drop_frame.ensures.within k h) (subst (IsControlReached k) (sym c.give.ensures) value)

pub returns-in-Other-clause-goes : goal.returns-in-Other-clause-goes
returns-in-Other-clause-goes c p t h n =
    ap (λ b. after_script p (view_of c.args.self.now) t (back b (Gave c.args.value)) h n) c.in-Other.is
    ∙ c.drop_frame.ensures.goes p (Ret (Gave c.in-Other.other)) t h n
    ∙ ap (λ x. remaining_with p (record (view_of c.drop_frame.new.self) { control = x }) t h n) (sym c.give-in-Other.ensures)

pub returns-in-Other-clause-within : goal.returns-in-Other-clause-within
returns-in-Other-clause-within c k h by value = with_control k (view_of c.drop_frame.new.self) c.give-in-Other.new.self (c.drop_frame.ensures.within k h) (subst (IsControlReached k) (sym c.give-in-Other.ensures) (subst (IsCallValueReached k) c.in-Other.is by))

pub returns-in_default-clause-goes : goal.returns-in_default-clause-goes
returns-in_default-clause-goes c p t h n =
    c.drop_frame.ensures.goes p (Ret (valued c.args.by (Gave c.args.value))) t h n
    ∙ ap (λ a. after_script p (view_of c.drop_frame.new.self) t (Ret a) h n) (sym c.rare_value.ensures.is)

pub returns-in_default-clause-within : goal.returns-in_default-clause-within
returns-in_default-clause-within c k h by value = with_control k (view_of c.drop_frame.new.self) (Give c.rare_value.result) (c.drop_frame.ensures.within k h) (c.rare_value.ensures.within k by value)
