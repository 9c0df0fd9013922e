-- A sequence has these statements.
use Rattle.std.proofs.Common.{◌≡◌, ◌-◌, ◌∙◌, suc, ap, sym, arith}
use Rattle.rr_tree.specs.declared.node.Node.TheVariants.{Sequence}
use Rattle.rr_eval.specs.Turns.{context_of, remaining_with}
use Rattle.rr_eval.specs.Views.{view_of}
use Rattle.rr_eval.proofs.Entered.{entered}
use Rattle.rr_eval.proofs.Holding.{with_left}
use Rattle.rr_eval.proofs.Lists.{sequence_rule}
use Rattle.rr_eval.proofs.engine.Engine.visit_statements.Goals as goal

pub returns-clause-goes : goal.returns-clause-goes
returns-clause-goes c = λ t h.
    let p = c.args.program.now in
    let m = view_of c.args.self.now in
    let some : m.left ≡ suc (m.left - 1) = omega arith in
    entered p m t c.args.here (m.left - 1) (Sequence c.args.first c.args.count) _ c.requires.control some c.requires.tree (sequence_rule p.nodes.items (context_of p) c.args.first c.args.count) h
    ∙ c.begin_list.ensures.goes p t h (m.left - 1)
    ∙ ap (λ n. remaining_with p (view_of c.begin_list.new.self) t h (n - 1)) (sym c.begin_list.ensures.left)

pub returns-clause-within : goal.returns-clause-within
returns-clause-within c k h = with_left k (view_of c.begin_list.new.self) _ (c.begin_list.ensures.within k h)
