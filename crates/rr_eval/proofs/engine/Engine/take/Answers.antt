-- The statements of a clause are evaluated while the exception is being rescued.
use Rattle.std.proofs.Common.{sym, ap, ◌∙◌}
use Rattle.rr_tree.specs.Tree.{tree_at}
use Rattle.rr_eval.specs.Rescuing.{with_caught, body_part, restored}
use Rattle.rr_eval.specs.Script.{Go, Do}
use Rattle.rr_eval.specs.Turns.{after_script}
use Rattle.rr_eval.specs.Views.{view_of}
use Rattle.rr_eval.proofs.Holding.{rescuing_reached}
use Rattle.rr_eval.proofs.engine.Engine.take.Goals as goal

pub returns-clause-goes : goal.returns-clause-goes
returns-clause-goes c t h n =
    let p = c.args.program.now in
    let ns = p.nodes.items in
    let m = view_of c.args.self.now in
    let e = c.args.exception in
    let tree = tree_at ns c.args.place in
    let clause = c.clause_at-clause.result in
    ap (λ x. after_script p m t (Do (with_caught x e) (Go (body_part tree) (restored m.rescuing))) h n) (sym c.clause_at-clause.ensures.target)
    ∙ ap (λ b. after_script p m t (Do (with_caught clause.variable e) (Go b (restored m.rescuing))) h n) (sym c.clause_at-clause.ensures.body)
    ∙ c.catch.ensures.goes p (Go (tree_at ns clause.body) (restored m.rescuing)) t h n
    ∙ c.enter_above.ensures.goes p t h n

pub returns-clause-within : goal.returns-clause-within
returns-clause-within c k h value = c.enter_above.ensures.within k (c.catch.ensures.within k h value) (rescuing_reached k (view_of c.args.self.now) h)
