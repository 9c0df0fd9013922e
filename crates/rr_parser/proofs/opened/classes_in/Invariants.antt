use Rattle.std.proofs.Common.{length}
use Rattle.rr_parser.proofs.Openings.{AreClassesIn}
use Rattle.rr_parser.proofs.opened.classes_in.Given as goal

abbrev pub invariant-loop-word : goal.invariant-loop-word
invariant-loop-word l = AreClassesIn l.names.keys l.left l.words

abbrev pub decreases-loop-word : goal.decreases-loop-word
decreases-loop-word l = length l.left
