use Rattle.rr_space.proofs.Marks.{marks_decide}
use Rattle.rr_space.proofs.laws.shown_by_marks.Goals as goal

pub returns : goal.returns
returns c = marks_decide
