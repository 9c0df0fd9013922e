-- Both operands take one step each.
use Rattle.std.proofs.Common.{◌≡◌, suc, ◌-◌, sym, ap, ◌∙◌, arith, rules, w64, to_z, of_z}
use Rattle.rr_eval.specs.Operators.{integers}
use Rattle.rr_eval.specs.Rules.{settled}
use Rattle.rr_eval.specs.Turns.{context_of, after_script, remaining_with}
use Rattle.rr_eval.proofs.Entered.{leaves}
use Rattle.rr_eval.specs.Views.{view_of}
use Rattle.rr_eval.proofs.Holding.{with_left}
use Rattle.rr_eval.proofs.engine.Engine.visit_leaves.Goals as goal

pub returns-in-Some-Some-clause-goes : goal.returns-in-Some-Some-clause-goes
returns-in-Some-Some-clause-goes c = λ _ t h.
    let p = c.args.program.now in
    let m = view_of c.args.self.now in
    let x = c.in-Some-Some.x in
    let y = c.in-Some-Some.y in
    let fx : to_z w64 (of_z w64 x) ≡ x = search rules in
    let fy : to_z w64 (of_z w64 y) ≡ y = search rules in
    let given = ap (λ z. integers c.args.op z (to_z w64 (of_z w64 y))) fx ∙ ap (integers c.args.op x) fy in
    let some : m.left ≡ suc (suc (suc (m.left - 3))) = omega arith in
    leaves p m t (m.left - 3) c.args.a c.args.b c.args.op x y c.requires.first some c.in-Some-Some.ensures c.in-Some-Some.ensures' h
    ∙ ap (λ r. after_script p m t (settled (context_of p) r) h (m.left - 3)) (sym given)
    ∙ c.compute.ensures.goes p t h (m.left - 3)
    ∙ ap (remaining_with p (view_of c.compute.new.self) t h) (sym c.compute.ensures.left)

pub returns-in-Some-Some-clause-within : goal.returns-in-Some-Some-clause-within
returns-in-Some-Some-clause-within c k h = c.compute.ensures.within k (with_left k (view_of c.args.self.now) _ h)
