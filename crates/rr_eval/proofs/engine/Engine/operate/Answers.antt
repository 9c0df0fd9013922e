-- What are not two integers is a call.
use Rattle.std.proofs.Common.{◌≡◌, ◌∙◌, ap, ℤ}
use Rattle.rr_space.specs.declared.refer.Ref.TheVariants.{Int}
use Rattle.rr_eval.specs.Turns.{context_of, after_script}
use Rattle.rr_eval.specs.Views.{view_of}
use Rattle.rr_eval.proofs.Invoking.{if_ok}
use Rattle.rr_eval.proofs.Operating.{operated_else}
use Rattle.rr_eval.proofs.engine.Engine.operate.Goals.{in_default-via-in-Int+in_default, in_default-via-in_default}
use Rattle.rr_eval.proofs.engine.Engine.operate.Goals as goal

pub returns-in_default-clause-goes : goal.returns-in_default-clause-goes
returns-in_default-clause-goes c =
    let p = c.args.prepared.now.program in
    let other : (x y : ℤ) → c.args.left ≡ Int x → c.args.right ≡ Int y → ⊥ = λ x y e f. elim c.in_default.branch [
      | in_default-via-in-Int+in_default w ↦ w.in_default.not-Int-1 y f
      | in_default-via-in_default w ↦ w.in_default.not-Int-0 x e
    ] in
    if_ok c.send.result _ _
    (λ q goes h n. ap (λ r. after_script p (view_of c.args.self.now) c.args.space.now r h n) (operated_else (context_of p) c.args.op c.args.left c.args.right other) ∙ goes h n)
    c.send.ensures.goes
