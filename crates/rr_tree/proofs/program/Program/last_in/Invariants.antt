-- The last of those so far.
use Rattle.std.proofs.Common.{◌≡◌, map, take}
use Rattle.std.specs.Option.{option_map}
use Rattle.rr_tree.specs.Tree.{tree_at}
use Rattle.rr_tree.specs.Methods.{definition_at, last_in}
use Rattle.rr_tree.proofs.program.Program.last_in.Given as goal

abbrev pub invariant-loop-entry : goal.invariant-loop-entry
invariant-loop-entry l =
    option_map (tree_at l.self.nodes.items) l.found ≡ last_in l.self l.class.0 (map (definition_at l.self.nodes.items) (take l.entry-index l.entries))
