use Rattle.std.proofs.Common.{rules, IfErr}
use Rattle.rr_lexer.specs.Tokens.{Faults}
use Rattle.rr_lexer.proofs.Refused.{refused_has_none}
use Rattle.rr_lexer.proofs.lexing.lex.Goals as goal

pub returns-in_err-tokens-clause-none : goal.returns-in_err-tokens-clause-none
returns-in_err-tokens-clause-none c =
    let f : IfErr c.from_residual.result (λ fault. Faults c.args.source.now fault) = search rules in
    refused_has_none c.args.source.now c.from_residual.result f
