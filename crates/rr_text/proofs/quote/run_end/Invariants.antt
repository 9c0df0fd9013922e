use Rattle.std.proofs.Common.{length, ◌-◌, ◌≡◌, ◌++◌, ◌≤◌, drop, slice_range}
use Rattle.rr_text.specs.Quoted.{escaped}
use Rattle.rr_text.proofs.quote.run_end.Given as goal

abbrev pub invariant-loop-end : goal.invariant-loop-end
invariant-loop-end l = record {
  low : l.start ≤ l.end;
  high : l.end ≤ length l.bytes;
  run : escaped (drop l.start l.bytes) ≡ slice_range l.bytes l.start l.end ++ escaped (drop l.end l.bytes);
}

abbrev pub decreases-loop-end : goal.decreases-loop-end
decreases-loop-end l = length l.bytes - l.end
