use Rattle.std.proofs.Common.{◌≡◌, ◌<◌, length}
use Rattle.rr_tree.specs.Tree.{tree_at}
use Rattle.rr_parser.proofs.parser.Parser.is_splat.Given as goal

abbrev pub invariant-loop-inner : goal.invariant-loop-inner
invariant-loop-inner l = record {
  there : l.id < length l.self.nodes.items;
  tree : tree_at l.self.nodes.items l.id ≡ tree_at l.self.nodes.items l.fn.id;
}

abbrev pub decreases-loop-inner : goal.decreases-loop-inner
decreases-loop-inner l = l.id
