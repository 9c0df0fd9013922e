use Rattle.std.proofs.Common.{◌≡◌, true, ap, sym, ◌∙◌}
use Rattle.std.proofs.lemmas.List.{take_rest}
use Rattle.rr_lexer.specs.Freezes.{has_comment, is_end_of_line}
use Rattle.rr_lexer.proofs.freezes.is_frozen_comment.Goals as goal

pub returns-then-has_comment : goal.returns-then-has_comment
returns-then-has_comment c =
    let s = c.args.rest.now in
    let h : has_comment s ≡ true = sym c.has_comment.ensures.is ∙ c.if-has_comment.true in
    rw h (c.is_end_of_line.ensures ∙ ap is_end_of_line (take_rest s 29))
