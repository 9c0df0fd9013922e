-- An assignment with an operator begins as its rule does.
use Rattle.std.proofs.Common.{◌≡◌, ◌-◌, ◌∙◌, suc, ap, arith, sym}
use Rattle.rr_tree.specs.Tree.{tree_at}
use Rattle.rr_eval.specs.Frames.{first_tree}
use Rattle.rr_eval.specs.Rules.{rule}
use Rattle.rr_eval.specs.Turns.{context_of, after_script, remaining_with}
use Rattle.rr_eval.specs.Views.{view_of}
use Rattle.rr_eval.proofs.Entered.{stepped}
use Rattle.rr_eval.proofs.Holding.{with_left}
use Rattle.rr_eval.proofs.engine.Engine.update_any.Goals as goal

pub returns-clause-goes : goal.returns-clause-goes
returns-clause-goes c t h =
    let p = c.args.prepared.now.program in
    let m = view_of c.args.self.now in
    let some : m.left ≡ suc (m.left - 1) = omega arith in
    stepped p m t (m.left - 1) (tree_at p.nodes.items c.args.here) (ap (first_tree p.nodes.items) c.requires.control) some h
    ∙ ap (λ tree. after_script p m t (rule (context_of p) tree) h (m.left - 1)) c.requires.tree
    ∙ c.open_operator.ensures.goes t h (m.left - 1)
    ∙ ap (λ n. remaining_with p (view_of c.open_operator.new.self) t h (n - 1)) (sym c.open_operator.ensures.left)

pub returns-clause-within : goal.returns-clause-within
returns-clause-within c k h = with_left k (view_of c.open_operator.new.self) _ (c.open_operator.ensures.within k h)
