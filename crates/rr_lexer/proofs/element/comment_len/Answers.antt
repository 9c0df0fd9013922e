use Rattle.std.proofs.Common.{◌==◌, not, ap, sym, length, arith}
use Rattle.std.proofs.lemmas.Bool.{eq-eqb}
use Rattle.std.proofs.lemmas.List.Sums.{prefix_len_is}
use Rattle.rr_lexer.proofs.element.comment_len.Goals as goal

pub returns-then-b-eq10 : goal.returns-then-b-eq10
returns-then-b-eq10 c =
    sym (prefix_len_is (λ b. not (b == 10)) c.args.rest.now c.loop-i.i 0 (omega arith)
    (λ k lt. ap not (c.loop-i.invariant k lt)) (λ _. ap not (eq-eqb _ _ c.if-b-eq10.true)))

pub returns : goal.returns
returns c =
    sym (prefix_len_is (λ b. not (b == 10)) c.args.rest.now (length c.args.rest.now) 0 (omega arith)
    (λ k lt. ap not (c.loop-i.invariant k (omega arith))) (λ lt. absurd (omega arith)))
