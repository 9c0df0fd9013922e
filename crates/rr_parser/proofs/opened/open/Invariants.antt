use Rattle.std.proofs.Common.{◌≡◌, ◌-◌, length, map}
use Rattle.rr_parser.proofs.Openings.{IsOpeningIn}
use Rattle.rr_parser.proofs.opened.open.Given as goal

abbrev pub invariant-loop-place : goal.invariant-loop-place
invariant-loop-place l = record {
  symbols : l.openings.symbols.now ≡ l.symbols;
  long : length l.words ≡ length l.fn.words;
  opening : IsOpeningIn (map (λ s. s.items) l.symbols) l.openings.classes.entries l.place l.words l.fn.words;
}

abbrev pub decreases-loop-place : goal.decreases-loop-place
decreases-loop-place l = length l.words - l.place
