-- What is no integer is a call.
use Rattle.std.proofs.Common.{◌∙◌, ap, length}
use Rattle.rr_eval.specs.Turns.{context_of, after_script}
use Rattle.rr_eval.specs.Views.{view_of}
use Rattle.rr_eval.specs.Within.{reach, IsReached}
use Rattle.rr_eval.proofs.Holding.{all_nil}
use Rattle.rr_eval.proofs.Invoking.{if_ok}
use Rattle.rr_eval.proofs.Operating.{negated_else}
use Rattle.rr_eval.proofs.engine.Engine.negate.Goals as goal

pub returns-in_default-clause-goes : goal.returns-in_default-clause-goes
returns-in_default-clause-goes c =
    let p = c.args.prepared.now.program in
    if_ok c.send.result _ _
    (λ q goes h n. ap (λ r. after_script p (view_of c.args.self.now) c.args.space.now r h n) (negated_else (context_of p) c.args.value c.in_default.not-Int) ∙ goes h n)
    c.send.ensures.goes

pub returns-in_default-clause-within : goal.returns-in_default-clause-within
returns-in_default-clause-within c clusters h value = c.send.ensures.within clusters h value (all_nil (IsReached (reach (length c.args.space.now.slots) clusters)))

pub returns-in_default-clause-asks : goal.returns-in_default-clause-asks
returns-in_default-clause-asks c k h value = c.send.ensures.asks k h value (all_nil (IsReached k))
