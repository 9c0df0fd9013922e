-- What the links so far give is the value of a tree, and with those that are left it is the part.
use Rattle.std.specs.Prelude.{◌≡◌, ◌+◌, ◌*◌, ◌<◌, ◌≤◌, Option, length, false}
use Rattle.rr_parser.specs.Grammar.Names.{is_splat}
use Rattle.rr_space.specs.Tables.{Below}
use Rattle.rr_tree.specs.Tree.{Tree, tree_at}
use Rattle.rr_eval.specs.SimpleParts.{linked}
use Rattle.rr_eval.specs.Usual.{TakesNow}
use Rattle.rr_eval.specs.Views.{view_of}
use Rattle.rr_eval.specs.Within.{IsReached, AreReached, reach}
use Rattle.rr_eval.proofs.engine.Engine.chained.Given as goal

abbrev pub invariant-loop-links : goal.invariant-loop-links
invariant-loop-links l = record {
  takes : (tree : Tree) × (TakesNow l.prepared.program (view_of l.self) l.space tree l.found.steps l.found.value) × (linked l.prepared.program tree l.links ≡ tree_at l.prepared.program.nodes.items l.place);
  plain : is_splat (tree_at l.prepared.program.nodes.items l.place) ≡ false;
  some : 0 < l.found.steps;
  few : l.found.steps + 4 * length l.links ≤ 31;
  within : (clusters : Option Below) → AreReached (reach (length l.space.slots) clusters) (view_of l.self) → IsReached (reach (length l.space.slots) clusters) l.found.value;
}

abbrev pub decreases-loop-links : goal.decreases-loop-links
decreases-loop-links l = length l.links
