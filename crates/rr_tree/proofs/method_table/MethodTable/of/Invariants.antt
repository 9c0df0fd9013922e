-- The definitions so far, and the index if there is one.
use Rattle.std.proofs.Common.{◌≡◌, map, take}
use Rattle.std.specs.Prelude.{flat_map}
use Rattle.rr_tree.specs.declared.method_table.MethodName.{MethodName}
use Rattle.rr_tree.specs.Tree.{tree_at}
use Rattle.rr_tree.specs.Methods.{called, definitions_in, kept_under, IsNamedBy}
use Rattle.rr_tree.proofs.method_table.MethodTable.of.Given as goal

abbrev pub invariant-loop-number : goal.invariant-loop-number
invariant-loop-number l =
    IsNamedBy l.program l.named
    × ((x : MethodName) → kept_under l.program.nodes.items l.table x ≡ called l.program x (flat_map definitions_in (take l.number (map (tree_at l.program.nodes.items) l.program.definitions.items))))
