-- The call is one step, and the instance variable is its value.
use Rattle.std.proofs.Common.{◌≡◌, ◌-◌, ◌∙◌, suc, ap, arith, sym, length, None}
use Rattle.rr_builtin.specs.Fields.{field_at}
use Rattle.rr_eval.specs.declared.call.Callee.TheVariants.{Name}
use Rattle.rr_eval.specs.Dispatch.{method_for}
use Rattle.rr_eval.specs.Fields.{field_response}
use Rattle.rr_eval.specs.Rules.{settled}
use Rattle.rr_eval.specs.Turns.{context_of, after_script, remaining_with}
use Rattle.rr_eval.specs.Views.{view_of}
use Rattle.rr_eval.specs.Within.{reach}
use Rattle.rr_eval.proofs.CallParts.{call_steps}
use Rattle.rr_eval.proofs.Holding.{with_left}
use Rattle.rr_eval.proofs.Invoking.{of_method}
use Rattle.rr_eval.proofs.QuickAttributes.{reads_known}
use Rattle.rr_eval.proofs.engine.Engine.read_sent.Goals as goal

pub returns-clause-goes : goal.returns-clause-goes
returns-clause-goes c h =
    let p = c.args.prepared.now.program in
    let own = context_of p in
    let m = view_of c.args.self.now in
    let t = c.args.space.now in
    let v = c.args.receiver in
    let x = c.args.name in
    let field = c.in-Some.field in
    let n = m.left - 1 in
    let some : m.left ≡ suc n = omega arith in
    call_steps p m t n (Name x) v None c.requires.control some h
    ∙ ap (λ r. after_script p m t r h n) (reads_known own (method_for own t v (Name x)) x v field c.in-Some.ensures)
    ∙ ap (λ r. after_script p m t (settled own r) h n) (of_method (field_response t (field_at t v field.0)) ∙ sym c.read_field.ensures.is)
    ∙ c.settle.ensures.goes p t h n
    ∙ ap (remaining_with p (view_of c.settle.new.self) t h) (sym c.settle.ensures.left)

pub returns-clause-within : goal.returns-clause-within
returns-clause-within c clusters h =
    let k = reach (length c.args.space.now.slots) clusters in
    c.settle.ensures.within k (with_left k (view_of c.args.self.now) _ h) (c.read_field.ensures.within clusters)
