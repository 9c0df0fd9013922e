use Rattle.std.proofs.Common.{length, ◌-◌, ◌≡◌, ◌≤◌, drop}
use Rattle.rr_lexer.specs.Scans.{digits_from, grow}
use Rattle.rr_lexer.proofs.numbers.digits_from.Given as goal

abbrev pub invariant-loop-i : goal.invariant-loop-i
invariant-loop-i l = record {
  fits : l.value ≤ 9223372036854775808;
  within : l.i ≤ length l.rest;
  same : digits_from l.base l.rest l.first ≡ grow l.i (digits_from l.base (drop l.i l.rest) l.value);
}

abbrev pub decreases-loop-i : goal.decreases-loop-i
decreases-loop-i l = length l.rest - l.i
