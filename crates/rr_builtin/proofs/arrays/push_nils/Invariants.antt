use Rattle.rr_builtin.proofs.Gathering.{IsPadded}
use Rattle.rr_builtin.proofs.arrays.push_nils.Given as goal

abbrev pub invariant-loop : goal.invariant-loop
invariant-loop l = IsPadded l.fn.items.items l.items.items l.counter
