-- What the links so far give is the value of what becomes a tree, and with those that are left that is the chain.
use Rattle.std.specs.Prelude.{◌≡◌, ◌+◌, ◌*◌, ◌≤◌, ℕ, List, true, length}
use Rattle.rr_tree.specs.Tree.{Tree, tree_at}
use Rattle.rr_eval.specs.Filled.{FillsInside}
use Rattle.rr_eval.specs.SimpleParts.{are_leaves, linked, links_of}
use Rattle.rr_eval.specs.Views.{view_of}
use Rattle.rr_eval.specs.Within.{Reach, AreReached, IsReached}
use Rattle.rr_eval.proofs.engine.Engine.fill_chain.Given as goal

abbrev pub invariant-loop-links : goal.invariant-loop-links
invariant-loop-links l = record {
  fills : (whole : Tree) × ((trees : List Tree) (home : ℕ) → are_leaves trees ≡ true → FillsInside l.prepared.program (view_of l.self) trees home whole l.found.steps l.found.value)
      × (linked l.prepared.program whole l.links ≡ linked l.prepared.program (tree_at l.prepared.program.nodes.items l.fn.chain.first) (links_of l.prepared.simple.links.items l.fn.chain));
  few : l.found.steps + 2 * length l.links ≤ 9;
  within : (k : Reach) → AreReached k (view_of l.self) → IsReached k l.found.value;
}

abbrev pub decreases-loop-links : goal.decreases-loop-links
decreases-loop-links l = length l.links
