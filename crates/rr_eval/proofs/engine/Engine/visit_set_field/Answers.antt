-- The value is evaluated behind the frame that waits for it.
use Rattle.std.proofs.Common.{◌∙◌, ◌≡◌, suc, ◌-◌, ap, sym, arith}
use Rattle.rr_eval.specs.Frames.{first_tree}
use Rattle.rr_eval.specs.Rules.{rule}
use Rattle.rr_tree.specs.Tree.{tree_at}
use Rattle.rr_eval.specs.Turns.{context_of, after_script, remaining_with}
use Rattle.rr_eval.specs.Views.{view_of}
use Rattle.rr_eval.proofs.Entered.{stepped}
use Rattle.rr_eval.proofs.Holding.{with_left}
use Rattle.rr_eval.proofs.engine.Engine.visit_set_field.Goals as goal

pub returns-clause-goes : goal.returns-clause-goes
returns-clause-goes c t h =
    let p = c.args.prepared.now.program in
    let m = view_of c.args.self.now in
    let some : m.left ≡ suc (m.left - 1) = omega arith in
    stepped p m t (m.left - 1) (tree_at p.nodes.items c.args.here) (ap (first_tree p.nodes.items) c.requires.control) some h
    ∙ ap (λ x. after_script p m t (rule (context_of p) x) h (m.left - 1)) c.requires.tree
    ∙ c.enter_above.ensures.goes p t h (m.left - 1)
    ∙ ap (λ n. remaining_with p (view_of c.enter_above.new.self) t h (n - 1)) (sym c.enter_above.ensures.left)

pub returns-clause-within : goal.returns-clause-within
returns-clause-within c k h = with_left k (view_of c.enter_above.new.self) _ (c.enter_above.ensures.within k h tt)
