use Rattle.std.proofs.Common.{length, ◌-◌, ◌≡◌, ◌++◌, ◌∷◌, ◌≤◌, drop}
use Rattle.rr_text.specs.Quoted.{escaped}
use Rattle.rr_text.proofs.quote.push_quoted.Given as goal

abbrev pub invariant-loop-i : goal.invariant-loop-i
invariant-loop-i l = record {
  high : l.i ≤ length l.bytes;
  same : l.out.items ++ escaped (drop l.i l.bytes) ≡ l.fn.out.items ++ (34 ∷ escaped l.bytes);
}

abbrev pub decreases-loop-i : goal.decreases-loop-i
decreases-loop-i l = length l.bytes - l.i
