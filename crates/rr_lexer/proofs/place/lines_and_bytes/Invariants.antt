use Rattle.std.proofs.Common.{◌≡◌, ◌≤◌, ◌==◌, not, take, count_by}
use Rattle.std.specs.List.{suffix_len}
use Rattle.rr_lexer.proofs.place.lines_and_bytes.Given as goal

abbrev pub invariant-loop-b : goal.invariant-loop-b
invariant-loop-b l = record {
  lines : l.lines ≡ count_by (λ b. b == 10) (take l.b-index l.front);
  bytes : l.bytes ≡ suffix_len (λ b. not (b == 10)) (take l.b-index l.front);
  lines_fit : l.lines ≤ l.b-index;
  bytes_fit : l.bytes ≤ l.b-index;
}
