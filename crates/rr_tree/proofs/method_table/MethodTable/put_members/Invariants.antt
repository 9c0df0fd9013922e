-- The members so far, and the index if there is one.
use Rattle.std.proofs.Common.{Some, take}
use Rattle.rr_tree.specs.Nodes.{trees_in}
use Rattle.rr_tree.specs.Methods.{standing_in, Adds, IsNamedBy}
use Rattle.rr_tree.proofs.method_table.MethodTable.put_members.Given as goal

abbrev pub invariant-loop-number : goal.invariant-loop-number
invariant-loop-number l =
    IsNamedBy l.program l.named
    × Adds l.program l.fn.self l.self (standing_in (Some l.class.0) (take l.number (trees_in l.program.nodes.items l.first l.count)))
