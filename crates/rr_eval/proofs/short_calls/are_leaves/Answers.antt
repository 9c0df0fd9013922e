-- One argument more is a leaf.
use Rattle.std.proofs.Common.{◌≡◌, ◌+◌, ◌-◌, arith, suc, subst, true}
use Rattle.rr_tree.specs.Nodes.{trees_before}
use Rattle.rr_eval.specs.SimpleParts.{are_leaves}
use Rattle.rr_eval.proofs.Becoming.{leaf_more}
use Rattle.rr_eval.proofs.short_calls.are_leaves.Goals as goal

pub loop-done-preserved : goal.loop-done-preserved
loop-done-preserved c =
    let ns = c.args.program.now.nodes.items in
    let given = c.args.given in
    let before = c.loop-done in
    let done = before.done in
    let more = c.loop-done-test.true in
    let one : suc done ≡ done + 1 = omega arith in
    record {
      leaves = λ links simple.
          subst (λ k. are_leaves (trees_before ns (given.first + given.count) k) ≡ true) one
          (leaf_more ns (given.first + given.count) done (given.first + (given.count - done - 1)) (omega (arith, more)) (c.is_leaf.ensures c.if-not-is_leaf.false links simple) (before.invariant.leaves links simple));
      fewer = omega (arith, more);
    }

pub returns : goal.returns
returns c = λ _ links simple.
    let ns = c.args.program.now.nodes.items in
    let given = c.args.given in
    let before = c.loop-done in
    let last = c.loop-done-test.false in
    let fewer = before.invariant.fewer in
    let all : before.done ≡ given.count = omega (arith, last, fewer) in
    subst (λ k. are_leaves (trees_before ns (given.first + given.count) k) ≡ true) all (before.invariant.leaves links simple)
