-- The right operand has its value.
use Rattle.std.proofs.Common.{◌≡◌, ◌-◌, sym, ap, ◌∙◌, arith, rules, subst, w64, to_z, of_z, length}
use Rattle.rr_space.specs.declared.refer.Ref.TheVariants.{Int}
use Rattle.rr_tree.specs.Tree.{tree_at}
use Rattle.rr_eval.specs.declared.problem.Answer.TheVariants.{Gave}
use Rattle.rr_eval.specs.declared.frame.Frame.TheVariants.{Left}
use Rattle.rr_eval.specs.Operators.{integers}
use Rattle.rr_eval.specs.Rules.{settled}
use Rattle.rr_eval.specs.Turns.{context_of, after_script, remaining_with, after_answer}
use Rattle.rr_eval.specs.Usual.{TakesNow}
use Rattle.rr_eval.specs.Views.{view_of}
use Rattle.rr_eval.specs.Within.{reach}
use Rattle.rr_eval.proofs.Holding.{with_left}
use Rattle.rr_eval.proofs.Quickly.{quick_right}
use Rattle.rr_eval.proofs.engine.Engine.operate_quick.Goals as goal

pub returns-clause-goes : goal.returns-clause-goes
returns-clause-goes c = λ _ h.
    let t = c.args.space.now in
    let p = c.args.prepared.now.program in
    let m = view_of c.args.self.now in
    let x = c.in-Int.x in
    let y = c.in-Int-value.y in
    let steps = c.in-Some.found.steps in
    let fx : to_z w64 (of_z w64 x) ≡ x = search rules in
    let fy : to_z w64 (of_z w64 y) ≡ y = search rules in
    let given = ap (λ z. integers c.args.op z (to_z w64 (of_z w64 y))) fx ∙ ap (integers c.args.op x) fy in
    let enough = c.in-Some.ensures.enough in
    let takes : TakesNow p m t (tree_at p.nodes.items c.args.b) steps (Int y) = subst (TakesNow p m t (tree_at p.nodes.items c.args.b) steps) c.in-Int-value.is c.in-Some.ensures.takes in
    ap (λ v. after_answer p m t (Left c.args.op c.args.b) (Gave v) h m.left) c.in-Int.is
    ∙ quick_right p m t c.args.b steps c.args.op x y h takes (omega (arith, enough))
    ∙ ap (λ r. after_script p m t (settled (context_of p) r) h (m.left - steps)) (sym given)
    ∙ c.compute.ensures.goes p t h (m.left - steps)
    ∙ ap (remaining_with p (view_of c.compute.new.self) t h) (sym c.compute.ensures.left)

pub returns-clause-within : goal.returns-clause-within
returns-clause-within c clusters h =
    let k = reach (length c.args.space.now.slots) clusters in
    c.compute.ensures.within k (with_left k (view_of c.args.self.now) _ h)
