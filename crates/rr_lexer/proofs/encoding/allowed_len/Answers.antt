use Rattle.std.proofs.Common.{not, ap, sym, length, arith}
use Rattle.std.proofs.lemmas.List.Sums.{position_or_len_is}
use Rattle.rr_lexer.specs.Encoding.{is_allowed}
use Rattle.rr_lexer.proofs.encoding.allowed_len.Goals as goal

pub returns-then-not-is_allowed-clause-is : goal.returns-then-not-is_allowed-clause-is
returns-then-not-is_allowed-clause-is c =
    sym (position_or_len_is (λ b. not (is_allowed b)) c.args.source.now c.loop-i.i 0 (omega arith)
    (λ k lt. ap not (c.loop-i.invariant k lt)) (λ _. sym (ap not (c.if-not-is_allowed.ensures))))

pub returns-clause-is : goal.returns-clause-is
returns-clause-is c =
    sym (position_or_len_is (λ b. not (is_allowed b)) c.args.source.now (length c.args.source.now) 0 (omega arith)
    (λ k lt. ap not (c.loop-i.invariant k (omega arith))) (λ lt. absurd (omega arith)))
