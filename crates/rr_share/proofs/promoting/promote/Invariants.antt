use Rattle.rr_share.proofs.Forwards.{PromotedFirst}
use Rattle.rr_share.proofs.promoting.promote.Given as goal

abbrev pub invariant-loop-place : goal.invariant-loop-place
invariant-loop-place l = PromotedFirst l.published.cluster.now l.place l.fn.places l.initial.space l.space
