-- An assignment to several targets begins as its rule does.
use Rattle.std.proofs.Common.{◌≡◌, ◌+◌, ◌-◌, ◌∙◌, suc, ap, arith, sym}
use Rattle.rr_tree.specs.Nodes.{trees_before}
use Rattle.rr_tree.specs.Tree.{tree_at}
use Rattle.rr_eval.specs.Frames.{first_tree}
use Rattle.rr_eval.specs.Rules.{rule}
use Rattle.rr_eval.specs.Several.{several_rule}
use Rattle.rr_eval.specs.Turns.{context_of, after_script, remaining_with}
use Rattle.rr_eval.specs.Views.{view_of}
use Rattle.rr_eval.proofs.Entered.{stepped}
use Rattle.rr_eval.proofs.Holding.{with_left}
use Rattle.rr_eval.proofs.Trees.{items_listed}
use Rattle.rr_eval.proofs.engine.Engine.visit_several.Goals as goal

pub returns-clause-goes : goal.returns-clause-goes
returns-clause-goes c t h =
    let p = c.args.program.now in
    let ns = p.nodes.items in
    let own = context_of p in
    let m = view_of c.args.self.now in
    let some : m.left ≡ suc (m.left - 1) = omega arith in
    stepped p m t (m.left - 1) (tree_at ns c.args.here) (ap (first_tree ns) c.requires.control) some h
    ∙ ap (λ tree. after_script p m t (rule own tree) h (m.left - 1)) c.requires.tree
    ∙ ap (λ ts. after_script p m t (several_rule own ts (tree_at ns c.args.value)) h (m.left - 1)) (items_listed (trees_before ns (c.args.first + c.args.count) c.args.count))
    ∙ c.open_several.ensures.goes t h (m.left - 1)
    ∙ ap (λ n. remaining_with p (view_of c.open_several.new.self) t h (n - 1)) (sym c.open_several.ensures.left)

pub returns-clause-within : goal.returns-clause-within
returns-clause-within c k h = with_left k (view_of c.open_several.new.self) _ (c.open_several.ensures.within k h)
