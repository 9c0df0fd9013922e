use Rattle.std.proofs.Common.{◌≡◌}
use Rattle.rr_parser.specs.Opened.{word_by}
use Rattle.rr_parser.proofs.Openings.{own_in, part_told}
use Rattle.rr_parser.proofs.opened.with_classes.Given as goal

abbrev pub invariant-loop-word : goal.invariant-loop-word
invariant-loop-word l = l.words ≡ part_told (word_by (own_in l.fn.words)) l.word-index l.fn.words
