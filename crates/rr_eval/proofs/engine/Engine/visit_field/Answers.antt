-- The value is read in one step.
use Rattle.std.proofs.Common.{◌≡◌, ◌-◌, ◌∙◌, suc, ap, sym, refl, arith}
use Rattle.rr_tree.specs.declared.node.Node.TheVariants.{Field}
use Rattle.rr_eval.specs.Turns.{remaining_with}
use Rattle.rr_eval.specs.Views.{view_of}
use Rattle.rr_eval.proofs.Entered.{entered}
use Rattle.rr_eval.proofs.Holding.{with_left}
use Rattle.rr_eval.proofs.engine.Engine.visit_field.Goals as goal

pub returns-clause-goes : goal.returns-clause-goes
returns-clause-goes c = λ h.
    let p = c.args.program.now in
    let m = view_of c.args.self.now in
    let t = c.args.space.now in
    let some : m.left ≡ suc (m.left - 1) = omega arith in
    entered p m t c.args.here (m.left - 1) (Field c.args.name) _ c.requires.control some c.requires.tree refl h
    ∙ c.open_field.ensures.goes p h (m.left - 1)
    ∙ ap (λ n. remaining_with p (view_of c.open_field.new.self) t h (n - 1)) (sym c.open_field.ensures.left)

pub returns-clause-within : goal.returns-clause-within
returns-clause-within c k h = with_left _ (view_of c.open_field.new.self) _ (c.open_field.ensures.within k h)
