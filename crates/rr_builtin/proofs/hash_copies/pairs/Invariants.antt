use Rattle.rr_builtin.proofs.HashCopying.{ArePaired}
use Rattle.rr_builtin.proofs.hash_copies.pairs.Given as goal

abbrev pub invariant-loop-pair : goal.invariant-loop-pair
invariant-loop-pair l = ArePaired l.space l.hash l.pairs.entries l.pair
