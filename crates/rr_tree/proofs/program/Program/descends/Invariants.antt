use Rattle.std.proofs.Common.{◌≡◌, ◌-◌}
use Rattle.rr_tree.specs.Ancestors.{is_among, descends}
use Rattle.rr_tree.proofs.program.Program.descends.Given as goal

abbrev pub invariant-loop-step : goal.invariant-loop-step
invariant-loop-step l = descends l.self l.fn.class.0 l.ancestor.0 ≡ is_among l.self (l.steps - l.step) l.current.0 l.ancestor.0
