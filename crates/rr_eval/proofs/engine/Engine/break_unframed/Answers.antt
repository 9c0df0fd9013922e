-- The `break` that is chosen ends the block.
use Rattle.std.proofs.Common.{◌+◌, ◌∙◌, ap, arith, refl, subst}
use Rattle.rr_tree.specs.Tree.{tree_at}
use Rattle.rr_eval.specs.declared.problem.Answer.TheVariants.{Broke}
use Rattle.rr_eval.specs.Endings.{EndsNow}
use Rattle.rr_eval.specs.Nodes.{evaluated_tree}
use Rattle.rr_eval.specs.Unframed.{framed_with}
use Rattle.rr_eval.specs.Views.{view_of}
use Rattle.rr_eval.proofs.Breaks.{block_breaks, choice_ends}
use Rattle.rr_eval.proofs.engine.Engine.break_unframed.Goals as goal

pub returns-clause-breaks : goal.returns-clause-breaks
returns-clause-breaks c = λ f t lies.
    let p = c.args.prepared.now.program in
    let ns = p.nodes.items in
    let m = framed_with f (view_of c.args.self.now) in
    let own = c.in-Some-Block in
    let list = c.in-Some-Sequence in
    let node = c.in-Some-Choose in
    let tested = c.in_ok-tested.tested in
    let found = c.in_ok-found.found in
    let all = tested.steps + found.steps + 1 in
    let some = c.if-count-eq0.false in
    let chosen = choice_ends p m t tested.steps found.steps all (tree_at ns list.first) (tree_at ns node.condition) (tree_at ns node.yes) (tree_at ns node.no) tested.value (Broke found.value)
    (node.ensures.tree ∙ ap (evaluated_tree ns) node.field-0-is) (c.in_ok-tested.ensures.takes f t lies)
    (subst (λ z. EndsNow p m t z found.steps (Broke found.value)) (c.chosen_part-chosen.ensures ns) (c.in_ok-found.ensures.breaks f t lies)) refl in
    block_breaks p m t _ _ _ (list.first + list.count) list.count list.first all (tested.steps + found.steps + 3) (tree_at ns c.args.place) (tree_at ns own.body) found.value
    (own.ensures.tree ∙ ap (evaluated_tree ns) own.field-0-is) (list.ensures.tree ∙ ap (evaluated_tree ns) list.field-0-is) (omega (arith, some)) (omega arith) chosen (omega arith)

pub returns-clause-within : goal.returns-clause-within
returns-clause-within c = c.in_ok-found.ensures.within
