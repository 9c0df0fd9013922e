use Rattle.std.proofs.Common.{rules, ◌∙◌}
use Rattle.rr_lexer.proofs.Joining.{joins_all}
use Rattle.rr_lexer.proofs.lines.join.Goals as goal

pub returns : goal.returns
returns c = c.truncate.ensures.items ∙ joins_all _ c.loop-i.tokens.items c.loop-i.kept c.loop-i.i _ (search rules) c.loop-i.invariant
