-- The nearest method is the nearest one from here upwards.
use Rattle.std.proofs.Common.{◌≡◌, ◌-◌}
use Rattle.rr_tree.specs.Methods.{nearest_among, nearest_method}
use Rattle.rr_tree.proofs.method_table.MethodTable.find.Given as goal

abbrev pub invariant-loop-step : goal.invariant-loop-step
invariant-loop-step l = nearest_method l.program l.fn.class.0 l.name ≡ nearest_among l.program l.name (l.steps - l.step) l.current.0
