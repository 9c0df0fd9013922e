-- A clause without classes is passed.
use Rattle.std.proofs.Common.{◌≡◌, ◌<◌, ◌+◌, ◌-◌, ◌∙◌, sym, ap, arith, []}
use Rattle.rr_tree.specs.Nodes.{trees_before}
use Rattle.rr_tree.specs.Tree.{tree_at}
use Rattle.rr_eval.specs.Rescuing.{class_parts}
use Rattle.rr_eval.specs.Turns.{code_of}
use Rattle.rr_eval.proofs.Trying.{passed}
use Rattle.rr_eval.proofs.clauses.clauses_with_classes.Goals as goal

pub loop-more-preserved : goal.loop-more-preserved
loop-more-preserved c = λ w e s n fits.
    let p = c.args.program.now in
    let ns = p.nodes.items in
    let more = c.loop-more.more in
    let some : 0 < more = omega arith in
    let none_left : c.clause_at.result.count ≡ 0 = omega arith in
    let none : class_parts (tree_at ns (c.args.end - more)) ≡ [] =
    ap (λ x. class_parts (tree_at ns x)) (sym c.saturating_sub.ensures)
    ∙ sym c.clause_at.ensures.classes
    ∙ ap (λ k. trees_before ns (c.clause_at.result.first + k) k) none_left in
    c.loop-more.invariant w e s n fits ∙ passed (code_of p w) e c.args.end more s n some none fits
