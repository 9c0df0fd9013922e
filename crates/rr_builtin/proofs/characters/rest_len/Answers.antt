use Rattle.std.proofs.Common.{◌∙◌, sym, ap, not, length, arith}
use Rattle.std.proofs.lemmas.List.Sums.{prefix_len_is}
use Rattle.rr_builtin.specs.Characters.{continues_character}
use Rattle.rr_builtin.proofs.characters.rest_len.Goals as goal

pub returns-then-begins_character-clause-is : goal.returns-then-begins_character-clause-is
returns-then-begins_character-clause-is c =
    sym (prefix_len_is continues_character c.args.rest.now c.loop-i.i 0 (omega arith) c.loop-i.invariant (λ _. ap not (sym c.begins_character.ensures ∙ c.if-begins_character.true)))

pub returns-clause-is : goal.returns-clause-is
returns-clause-is c =
    sym (prefix_len_is continues_character c.args.rest.now (length c.args.rest.now) 0 (omega arith)
    (λ k lt. c.loop-i.invariant k (omega arith)) (λ lt. absurd (omega arith)))
