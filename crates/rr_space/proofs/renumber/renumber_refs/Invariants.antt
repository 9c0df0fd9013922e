use Rattle.rr_space.proofs.Renumbered.{IsPartly}
use Rattle.rr_space.proofs.renumber.renumber_refs.Given as goal

abbrev pub invariant-loop-k : goal.invariant-loop-k
invariant-loop-k g l = IsPartly (g.R.Renumber.gives l.by) l.k l.fn.items.items l.items.items
