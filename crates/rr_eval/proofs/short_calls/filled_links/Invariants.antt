-- What the links so far become, and those that are left.
use Rattle.std.specs.Prelude.{◌≡◌, ◌+◌, ◌++◌, List, Some, length}
use Rattle.rr_tree.specs.Nodes.{trees_before}
use Rattle.rr_tree.specs.Tree.{Tree, tree_at}
use Rattle.rr_eval.specs.declared.chains.Link.{Link}
use Rattle.rr_eval.specs.SimpleParts.{AreSimple, filled, linked}
use Rattle.rr_eval.proofs.short_calls.filled_links.Given as goal

abbrev pub invariant-loop-rest : goal.invariant-loop-rest
invariant-loop-rest l = record {
  done : (done : List Link) × (done ++ l.rest ≡ l.links)
      × ((all : List Link) (a : Tree) → AreSimple l.program all l.parts.items → filled (trees_before l.program.nodes.items (l.given.first + l.given.count) l.given.count) a ≡ Some (linked l.program (tree_at l.program.nodes.items l.fn.begun.first) l.fn.begun.links.items)
      → filled (trees_before l.program.nodes.items (l.given.first + l.given.count) l.given.count) (linked l.program a done) ≡ Some (linked l.program (tree_at l.program.nodes.items l.fn.begun.first) l.made.items));
}

abbrev pub decreases-loop-rest : goal.decreases-loop-rest
decreases-loop-rest l = length l.rest
