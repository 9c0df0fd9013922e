use Rattle.std.proofs.Common.{◌≡◌, None, replicate}
use Rattle.rr_share.proofs.sources.Sources.new.Given as goal

abbrev pub invariant-loop : goal.invariant-loop
invariant-loop l = l.last.items ≡ replicate l.counter None
