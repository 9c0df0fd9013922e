use Rattle.rr_space.specs.Views.{IsRenumberedField}
use Rattle.rr_space.proofs.Renumbered.{IsPartly}
use Rattle.rr_space.proofs.renumber.renumber_fields.Given as goal

abbrev pub invariant-loop-k : goal.invariant-loop-k
invariant-loop-k g l = IsPartly (IsRenumberedField (g.R.Renumber.gives l.by)) l.k l.fn.fields.items l.fields.items
