-- A target without parts is passed.
use Rattle.std.proofs.Common.{◌≡◌, ◌<◌, ◌∙◌, ap, arith, [], ◌∷◌}
use Rattle.rr_tree.specs.Nodes.{trees_before}
use Rattle.rr_tree.specs.Tree.{tree_at}
use Rattle.rr_eval.specs.Frames.{option_trees}
use Rattle.rr_eval.specs.Several.{all_parts}
use Rattle.rr_eval.proofs.Targets.{parts_next}
use Rattle.rr_eval.proofs.spot.first_part.Goals as goal

pub returns-in-Some-clause-some : goal.returns-in-Some-clause-some
returns-in-Some-clause-some c =
    let ns = c.args.program.now.nodes.items in
    let left = c.loop-left.left in
    let some : 0 < left = omega (arith, c.loop-left-test.true) in
    c.loop-left.invariant ∙ parts_next ns c.args.end c.saturating_sub.result left (tree_at ns c.in-Some.receiver ∷ option_trees ns c.in-Some.index) some c.saturating_sub.ensures c.in-Some.ensures.some

pub loop-left-preserved : goal.loop-left-preserved
loop-left-preserved c =
    let ns = c.args.program.now.nodes.items in
    let left = c.loop-left.left in
    let some : 0 < left = omega (arith, c.loop-left-test.true) in
    c.loop-left.invariant ∙ parts_next ns c.args.end c.saturating_sub.result left [] some c.saturating_sub.ensures (c.parts_at.ensures.none c.in-None.is)

pub returns-clause-none : goal.returns-clause-none
returns-clause-none c _ =
    let ns = c.args.program.now.nodes.items in
    let none : c.loop-left.left ≡ 0 = omega (arith, c.loop-left-test.false) in
    c.loop-left.invariant ∙ ap (λ m. all_parts (trees_before ns c.args.end m)) none
