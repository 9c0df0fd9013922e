-- What the links so far give is the value of a tree, and with those that are left it is the part.
use Rattle.std.specs.Prelude.{◌≡◌, ◌+◌, ◌*◌, ◌≤◌, length}
use Rattle.rr_tree.specs.Tree.{Tree, tree_at}
use Rattle.rr_eval.specs.SimpleParts.{linked}
use Rattle.rr_eval.specs.Unframed.{TakesInside}
use Rattle.rr_eval.specs.Views.{view_of}
use Rattle.rr_eval.specs.Within.{Reach, IsReached}
use Rattle.rr_eval.proofs.engine.Engine.chain_unframed.Given as goal

abbrev pub invariant-loop-links : goal.invariant-loop-links
invariant-loop-links l = record {
  takes : (tree : Tree) × (TakesInside l.prepared.program (view_of l.self) l.values l.home tree l.found.steps l.found.value) × (linked l.prepared.program tree l.links ≡ tree_at l.prepared.program.nodes.items l.place);
  few : l.found.steps + 4 * length l.links ≤ 31;
  within : (k : Reach) → IsReached k l.found.value;
}

abbrev pub decreases-loop-links : goal.decreases-loop-links
decreases-loop-links l = length l.links
