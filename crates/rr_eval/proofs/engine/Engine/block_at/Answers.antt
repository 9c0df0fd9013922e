-- The blocks have the trees of their nodes.
use Rattle.std.proofs.Common.{◌<◌, ◌≤◌, ap, sym, arith, ◌∙◌, length, slice_index_or, None}
use Rattle.std.proofs.lemmas.Bool.Decides.{nat_tests}
use Rattle.std.proofs.Math.ListN.{get_or-eq_default}
use Rattle.std.specs.Option.{option_map}
use Rattle.rr_tree.specs.Tree.{tree_at}
use Rattle.rr_eval.specs.Views.{view_of}
use Rattle.rr_eval.proofs.Invoking.{block_there, same_there}
use Rattle.rr_eval.proofs.engine.Engine.block_at.Goals as goal

pub returns-in-Some : goal.returns-in-Some
returns-in-Some c p =
    let blocks = (view_of c.args.self.now).blocks in
    let all = c.deref.result.now in
    let test = c.in-Some.ensures.lookup.0 in
    let inside : c.args.number < length all = grind (arith, nat_tests) in
    let there = c.in-Some.ensures.lookup.1 ∙ same_there all c.args.number _ None inside ∙ ap (λ l. slice_index_or l c.args.number None) c.deref.ensures.value in
    ap (option_map (tree_at p.nodes.items)) there ∙ sym (block_there p.nodes.items blocks c.args.number)

pub returns-in-None : goal.returns-in-None
returns-in-None c p =
    let blocks = (view_of c.args.self.now).blocks in
    let all = c.deref.result.now in
    let test = c.in-None.ensures.lookup.0 in
    let past : length all ≤ c.args.number = grind (arith, nat_tests) in
    let there = sym (get_or-eq_default all None past) ∙ ap (λ l. slice_index_or l c.args.number None) c.deref.ensures.value in
    ap (option_map (tree_at p.nodes.items)) there ∙ sym (block_there p.nodes.items blocks c.args.number)
