-- A step is the only use of a rule.
use Rattle.std.proofs.Common.{◌≡◌, suc, ◌-◌, sym, refl, ap, ◌∙◌, arith}
use Rattle.rr_eval.specs.Rules.{rule}
use Rattle.rr_eval.specs.Nodes.{evaluated_tree}
use Rattle.rr_eval.specs.Turns.{remaining_with, context_of}
use Rattle.rr_eval.proofs.Entered.{entered}
use Rattle.rr_eval.specs.Views.{view_of}
use Rattle.rr_eval.proofs.Holding.{with_left}
use Rattle.rr_eval.proofs.engine.Engine.visit_one.Goals as goal

pub returns-then-open-clause-goes : goal.returns-then-open-clause-goes
returns-then-open-clause-goes c = λ _ t h.
    let p = c.args.program.now in
    let m = view_of c.args.self.now in
    let some : m.left ≡ suc (m.left - 1) = omega arith in
    entered p m t c.args.here (m.left - 1) c.args.node (rule (context_of p) (evaluated_tree p.nodes.items c.args.node)) c.requires.control some c.requires.tree refl h
    ∙ c.if-open.ensures.goes refl t h (m.left - 1)
    ∙ ap (λ n. remaining_with p (view_of c.open.new.self) t h (n - 1)) (sym c.if-open.ensures.left)

pub returns-then-open-clause-within : goal.returns-then-open-clause-within
returns-then-open-clause-within c k h = with_left k (view_of c.open.new.self) _ (c.open.ensures.within k h)
