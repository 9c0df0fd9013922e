use Rattle.std.proofs.Common.{length}
use Rattle.rr_world.proofs.ractor.alloc_empty.Goals as goal

pub alloc-requires-clause-within : goal.alloc-requires-clause-within
alloc-requires-clause-within c = c.in_ok-node.ensures.within (length c.args.space.now.slots)
