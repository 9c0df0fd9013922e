use Rattle.rr_space.specs.Parts.{value_of}
use Rattle.rr_share.proofs.Froze.{froze_all, whole_here}
use Rattle.rr_share.proofs.freezing.deep_freeze.Goals as goal

pub freeze_all-requires : goal.freeze_all-requires
freeze_all-requires c n w =
    let h = c.in_ok-found.ensures.within c.requires n w in
    whole_here c.args.space.now.slots n h.0 h.1 h.2

pub returns-clause-frozen : goal.returns-clause-frozen
returns-clause-frozen c = (
  c.in_ok-found.found,
  record { exact = c.in_ok-found.ensures.exact; distinct = c.freeze_all.ensures.distinct },
  froze_all (value_of c.args.root) c.in_ok-found.found c.args.space.now c.freeze_all.new.space c.in_ok-found.ensures.exact c.freeze_all.ensures.slots c.freeze_all.ensures.below,
)
