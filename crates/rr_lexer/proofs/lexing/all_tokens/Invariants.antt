use Rattle.std.proofs.Common.{length, ◌-◌, ◌≤◌}
use Rattle.rr_lexer.specs.Contexts.{state_of}
use Rattle.rr_lexer.proofs.Tiling.{Reached}
use Rattle.rr_lexer.proofs.lexing.all_tokens.Given as goal

abbrev pub invariant-loop-place : goal.invariant-loop-place
invariant-loop-place l = record {
  within : l.place ≤ length l.source;
  reached : Reached l.source l.tokens.items (state_of l.context) l.place;
}

abbrev pub decreases-loop-place : goal.decreases-loop-place
decreases-loop-place l = length l.source - l.place
