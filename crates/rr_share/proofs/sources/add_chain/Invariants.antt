use Rattle.std.proofs.Common.{length}
use Rattle.rr_share.specs.Chains.{Falls, Walked, chain, links_left}
use Rattle.rr_share.proofs.sources.add_chain.Given as goal

abbrev pub invariant-loop-at : goal.invariant-loop-at
invariant-loop-at l = record {
  falls : Falls (length l.all) l.at;
  walked : Walked l.initial.set l.set (chain l.all (length l.all) l.fn.last) (chain l.all (length l.all) l.at);
}

abbrev pub decreases-loop-at : goal.decreases-loop-at
decreases-loop-at l = links_left l.at
