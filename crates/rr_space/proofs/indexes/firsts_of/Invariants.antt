use Rattle.std.proofs.Common.{map}
use Rattle.rr_space.specs.Parts.{sealed_object}
use Rattle.rr_space.specs.Indexes.{IsIndexOf}
use Rattle.rr_space.proofs.indexes.firsts_of.Given as goal

abbrev pub invariant-loop-k : goal.invariant-loop-k
invariant-loop-k l = IsIndexOf (map sealed_object l.nodes) l.pairs l.k l.firsts.entries
