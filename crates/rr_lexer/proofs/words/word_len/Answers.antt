use Rattle.std.proofs.Common.{sym, length, arith}
use Rattle.std.proofs.lemmas.List.Sums.{prefix_len_is}
use Rattle.rr_lexer.specs.Bytes.{is_word_byte}
use Rattle.rr_lexer.proofs.words.word_len.Goals as goal

pub returns-then-not-is_word_byte-clause-is : goal.returns-then-not-is_word_byte-clause-is
returns-then-not-is_word_byte-clause-is c =
    sym (prefix_len_is is_word_byte c.args.rest.now c.loop-i.i 0 (omega arith) c.loop-i.invariant (λ _. cc))

pub returns-clause-is : goal.returns-clause-is
returns-clause-is c =
    sym (prefix_len_is is_word_byte c.args.rest.now (length c.args.rest.now) 0 (omega arith)
    (λ k lt. c.loop-i.invariant k (omega arith)) (λ lt. absurd (omega arith)))
