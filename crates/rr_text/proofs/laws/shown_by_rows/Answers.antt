use Rattle.rr_text.proofs.Rows.{rows_compute}
use Rattle.rr_text.proofs.laws.shown_by_rows.Goals as goal

pub returns : goal.returns
returns c = rows_compute
