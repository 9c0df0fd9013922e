-- A call that is an operator on integers is one step.
use Rattle.std.proofs.Common.{◌≡◌, ◌-◌, ◌∙◌, suc, ap, arith, refl, sym, Some}
use Rattle.rr_eval.specs.declared.call.Callee.TheVariants.{Operator}
use Rattle.rr_eval.specs.declared.frame.Control.TheVariants.{Send}
use Rattle.rr_eval.specs.Turns.{remaining_with}
use Rattle.rr_eval.specs.Views.{view_of}
use Rattle.rr_eval.proofs.CallParts.{call_steps}
use Rattle.rr_eval.proofs.Holding.{with_left}
use Rattle.rr_eval.proofs.engine.Engine.operate_both.Goals as goal

pub returns-clause-goes : goal.returns-clause-goes
returns-clause-goes c = λ p t h.
    let m = view_of c.args.self.now in
    let op = c.args.op in
    let left = c.args.left in
    let right = c.in-Some.right in
    let some : m.left ≡ suc (m.left - 1) = omega arith in
    let at = c.requires.control ∙ ap (Send (Operator op) left) c.in-Some.is in
    call_steps p m t (m.left - 1) (Operator op) left (Some right) at some h
    ∙ c.if-not-operate_integers.ensures.goes refl p t h (m.left - 1)
    ∙ ap (λ n. remaining_with p (view_of c.operate_integers.new.self) t h (n - 1)) (sym c.operate_integers.ensures.left)

pub returns-clause-within : goal.returns-clause-within
returns-clause-within c k h = with_left k (view_of c.operate_integers.new.self) _ (c.operate_integers.ensures.within k h)
