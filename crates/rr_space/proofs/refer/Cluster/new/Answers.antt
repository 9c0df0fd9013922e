use Rattle.std.proofs.Common.{List, subst}
use Rattle.rr_space.specs.Indexes.{AreIndexed}
use Rattle.rr_space.specs.declared.refer.Sealed.{Sealed}
use Rattle.rr_space.proofs.refer.Cluster.new.Goals as goal

pub invariant_of-result : goal.invariant_of-result
invariant_of-result c = (c.requires, subst (λ (nodes : List Sealed). AreIndexed (λ b. b.value.entries) nodes c.in_ok-indexes.indexes.items) c.deref.ensures.value c.in_ok-indexes.ensures.indexes)
