use Rattle.rr_space.specs.Views.{IsRenumberedEntry}
use Rattle.rr_space.proofs.Renumbered.{IsPartly}
use Rattle.rr_space.proofs.renumber.renumber_entries.Given as goal

abbrev pub invariant-loop-k : goal.invariant-loop-k
invariant-loop-k g l = IsPartly (IsRenumberedEntry (g.R.Renumber.gives l.by)) l.k l.fn.entries.entries l.entries.entries
