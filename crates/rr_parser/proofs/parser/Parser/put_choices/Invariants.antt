use Rattle.std.proofs.Common.{◌≡◌, ◌<◌, length, map}
use Rattle.std.specs.Prelude.{All, vec_len}
use Rattle.rr_tree.specs.Tree.{tree_at}
use Rattle.rr_tree.specs.Nodes.{Extends}
use Rattle.rr_parser.specs.Grammar.Control.{chosen}
use Rattle.rr_parser.specs.Meets.{pairs}
use Rattle.rr_parser.proofs.parser.Parser.put_choices.Given as goal

abbrev pub invariant-loop-condition : goal.invariant-loop-condition
invariant-loop-condition l = record {
  branches : All (pairs.within (length l.fn.self.nodes.items)) l.branches.items;
  there : l.chosen < length l.self.nodes.items;
  tree : chosen (map (pairs.tree l.fn.self.nodes.items) l.branches.items) (tree_at l.self.nodes.items l.chosen) ≡ chosen (map (pairs.tree l.fn.self.nodes.items) l.fn.branches.items) (tree_at l.fn.self.nodes.items l.fn.otherwise);
  kept : Extends l.fn.self.nodes.items l.self.nodes.items;
  known : l.self.known ≡ l.fn.self.known;
}

abbrev pub decreases-loop-condition : goal.decreases-loop-condition
decreases-loop-condition l = vec_len l.branches
