use Rattle.std.proofs.Common.{arith}
use Rattle.rr_parser.specs.Opened.{word_by}
use Rattle.rr_parser.proofs.Openings.{own_in, told_none, told_on, told_each}
use Rattle.rr_parser.proofs.opened.with_classes.Goals as goal

pub loop-word-init : goal.loop-word-init
loop-word-init c = told_none (word_by (own_in c.args.words.now)) c.args.words.now

pub loop-word-preserved : goal.loop-word-preserved
loop-word-preserved c = told_on c.args.words.now _ _ _ _ _ (omega (arith, c.loop-word-test.true)) c.in_ok-names.ensures c.loop-word.invariant c.kind_by-word.ensures

pub returns : goal.returns
returns c = told_each (word_by (own_in c.args.words.now)) c.loop-word.word-index c.args.words.now _ (omega (arith, c.loop-word-test.false)) c.loop-word.invariant
