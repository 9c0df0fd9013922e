-- The block is called without its frame.
use Rattle.std.proofs.Common.{◌≡◌, ◌<◌, ◌∙◌, Some, ap, arith, sym}
use Rattle.std.specs.Option.{option_map}
use Rattle.rr_tree.specs.Tree.{tree_at}
use Rattle.rr_eval.specs.Blocks.{shape_in}
use Rattle.rr_eval.specs.Nodes.{evaluated_tree}
use Rattle.rr_eval.specs.Turns.{blocks_of}
use Rattle.std.proofs.Common.{slice_index_or, None}
use Rattle.rr_eval.specs.Views.{view_of}
use Rattle.rr_eval.proofs.Frameless.{block_gives}
use Rattle.rr_eval.proofs.engine.Engine.give_unframed.Goals as goal

pub returns-clause-sets : goal.returns-clause-sets
returns-clause-sets c = λ t.
    let p = c.args.prepared.now.program in
    let ns = p.nodes.items in
    let m = view_of c.args.self.now in
    let node = c.in-Some-Block-default-eq1-default-default in
    let done = c.in_ok-done.done in
    let tree = tree_at ns c.in_ok-place.place in
    let b = slice_index_or (blocks_of ns m.blocks) c.args.number None in
    let is : b ≡ Some tree = sym (c.block_at.ensures p) ∙ ap (option_map (tree_at ns)) c.in_ok-place.was in
    let one : node.field-0-1 ≡ 1 = omega (arith, node.field-0-1-test) in
    let shape : shape_in (Some tree) ≡ Some (record { parameters = 1; size = node.size }) =
    ap (λ z. shape_in (Some z)) (node.ensures.tree ∙ ap (evaluated_tree ns) node.field-0-is) ∙ ap (λ k. Some (record { parameters = k; size = node.size })) one in
    let least = c.if-size-lt1.false in
    let some : 0 < node.size = omega (arith, least) in
    block_gives p m (view_of c.block_unframed.new.self) t c.args.home node.size done.steps c.args.value tree b done.value is shape some c.in_ok-next_number.ensures.room c.in_ok-done.ensures.sets
