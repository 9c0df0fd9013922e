-- A block ends with a value.
use Rattle.std.proofs.Common.{◌∙◌, ap, subst, sym}
use Rattle.rr_eval.specs.declared.problem.Answer.TheVariants.{Gave}
use Rattle.rr_eval.specs.Script.{Ret}
use Rattle.rr_eval.specs.Turns.{remaining_with}
use Rattle.rr_eval.specs.Views.{view_of}
use Rattle.rr_eval.specs.Within.{IsControlReached}
use Rattle.rr_eval.proofs.Holding.{with_control}
use Rattle.rr_eval.proofs.engine.Engine.end_block.Goals as goal

pub returns-clause-goes : goal.returns-clause-goes
returns-clause-goes c p t h n =
    c.drop_frame.ensures.goes p (Ret (Gave c.args.value)) t h n
    ∙ ap (λ x. remaining_with p (record (view_of c.drop_frame.new.self) { control = x }) t h n) (sym c.give.ensures)

pub returns-clause-within : goal.returns-clause-within
returns-clause-within c k h value = with_control k (view_of c.drop_frame.new.self) c.give.new.self (c.drop_frame.ensures.within k h) (subst (IsControlReached k) (sym c.give.ensures) value)
