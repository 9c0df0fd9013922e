-- The tree at a place is that of the node there.
use Rattle.std.proofs.Common.{◌<◌, arith, length, refl}
use Rattle.std.proofs.lemmas.Bool.Decides.{nat_tests}
use Rattle.rr_eval.proofs.Topmost.{tree_found}
use Rattle.rr_eval.proofs.nodes.node_at.Goals as goal

pub returns-in-Some-clause-tree : goal.returns-in-Some-clause-tree
returns-in-Some-clause-tree c =
    let p = c.args.program.now in
    let all = c.deref.result.now in
    let test = c.in-Some.ensures.lookup.0 in
    let inside : c.args.place < length all = grind (arith, nat_tests) in
    tree_found p.nodes.items all p.ordered c.args.place c.args.place c.in-Some.node.now refl c.deref.ensures.value inside c.in-Some.ensures.lookup.1
