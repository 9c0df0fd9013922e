-- A step is the only use of a rule.
use Rattle.std.proofs.Common.{◌≡◌, suc, ◌-◌, sym, refl, ap, subst, ◌∙◌, arith}
use Rattle.rr_eval.specs.Acts.{Passes}
use Rattle.rr_eval.specs.Script.{objects_of}
use Rattle.rr_eval.specs.Rules.{rule}
use Rattle.rr_eval.specs.Nodes.{evaluated_tree}
use Rattle.rr_eval.specs.Turns.{continuing, context_of}
use Rattle.rr_eval.proofs.Entered.{entered}
use Rattle.rr_eval.proofs.Holding.{with_left}
use Rattle.rr_eval.specs.Views.{view_of}
use Rattle.rr_eval.proofs.engine.Engine.visit_rare.Goals as goal

pub returns-in-Ok-clause-goes : goal.returns-in-Ok-clause-goes
returns-in-Ok-clause-goes c h =
    let p = c.args.prepared.now.program in
    let m = view_of c.args.self.now in
    let t = c.args.space.now in
    let some : m.left ≡ suc (m.left - 1) = omega arith in
    entered p m t c.args.here (m.left - 1) c.args.node (rule (context_of p) (evaluated_tree p.nodes.items c.args.node)) c.requires.control some c.requires.tree refl h
    ∙ c.in-Ok.ensures.goes h (m.left - 1)
    ∙ ap (λ n. continuing p (view_of c.open_rare.new.self) c.open_rare.new.space c.in-Ok.request h (n - 1)) (sym c.in-Ok.ensures.left)

pub returns-in-Err-clause-full : goal.returns-in-Err-clause-full
returns-in-Err-clause-full c h adds =
    let p = c.args.prepared.now.program in
    let m = view_of c.args.self.now in
    let t = c.args.space.now in
    let some : m.left ≡ suc (m.left - 1) = omega arith in
    let same = entered p m t c.args.here (m.left - 1) c.args.node (rule (context_of p) (evaluated_tree p.nodes.items c.args.node)) c.requires.control some c.requires.tree refl h in
    subst (λ o. Passes c.in-Err.fault t.limit (objects_of o)) (sym same) (c.in-Err.ensures.full h (m.left - 1) adds)

pub returns-in-Ok-clause-within : goal.returns-in-Ok-clause-within
returns-in-Ok-clause-within c cs h = with_left _ (view_of c.open_rare.new.self) _ (c.in-Ok.ensures.within cs h)
