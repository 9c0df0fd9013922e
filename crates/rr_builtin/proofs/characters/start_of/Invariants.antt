use Rattle.std.proofs.Common.{◌≡◌, drop}
use Rattle.rr_builtin.specs.Characters.{from_character}
use Rattle.rr_builtin.proofs.characters.start_of.Given as goal

abbrev pub invariant-loop-i : goal.invariant-loop-i
invariant-loop-i l = from_character l.place l.text ≡ from_character l.left (drop l.i l.text)
