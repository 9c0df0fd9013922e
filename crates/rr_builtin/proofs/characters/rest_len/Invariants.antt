use Rattle.std.proofs.Common.{◌≡◌, ℕ, ◌<◌, true, get_or}
use Rattle.rr_builtin.specs.Characters.{continues_character}
use Rattle.rr_builtin.proofs.characters.rest_len.Given as goal

abbrev pub invariant-loop-i : goal.invariant-loop-i
invariant-loop-i l = (k : ℕ) → k < l.i → continues_character (get_or l.rest k 0) ≡ true
