use Rattle.rr_parser.proofs.Openings.{classes_more, classes_whole}
use Rattle.rr_parser.proofs.opened.classes_in.Goals as goal

pub loop-word-preserved : goal.loop-word-preserved
loop-word-preserved c = classes_more _ _ _ _ _ _ c.args.words.now c.in-Some.ensures.cases.0 c.class_behind.ensures c.in_ok-note.ensures c.loop-word.invariant

pub returns : goal.returns
returns c = classes_whole _ _ c.args.words.now c.in_default.ensures.cases c.loop-word.invariant
