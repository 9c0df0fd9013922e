use Rattle.std.proofs.Common.{◌≡◌, drop}
use Rattle.rr_lexer.specs.Scans.{breaks_off}
use Rattle.rr_lexer.proofs.texts.breaks_off.Given as goal
use Rattle.rr_lexer.specs.declared.texts.Mode.TheVariants.{Plain}

abbrev pub invariant-loop-b : goal.invariant-loop-b
invariant-loop-b l = breaks_off l.rest Plain ≡ breaks_off (drop l.b-index l.rest) l.mode
