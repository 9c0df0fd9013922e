use Rattle.std.proofs.Common.{inl, refl, sym}
use Rattle.rr_lexer.specs.declared.texts.Mode.TheVariants.{Plain}
use Rattle.rr_lexer.proofs.Breaks.{breaks_sound}
use Rattle.rr_lexer.proofs.refusal.text_refusal.Goals as goal

pub returns-then-breaks_off-clause-is : goal.returns-then-breaks_off-clause-is
returns-then-breaks_off-clause-is c = inl (refl, breaks_sound _ Plain (sym c.if-breaks_off.ensures))
