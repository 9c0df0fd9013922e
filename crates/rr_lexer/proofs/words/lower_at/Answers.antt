use Rattle.std.proofs.Common.{◌+◌, arith, length-take}
use Rattle.rr_lexer.proofs.Names.{mark_within}
use Rattle.rr_lexer.proofs.words.lower_at.Goals as goal

pub slice_bounds-unless_left_out-end : goal.slice_bounds-unless_left_out-end
slice_bounds-unless_left_out-end c =
    let s = c.args.rest.now in
    omega (arith, length-take (c.word_len-n.result + 1) s, mark_within s c.word_len-n.result c.byte_at-c.result (cc))
