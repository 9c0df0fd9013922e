use Rattle.rr_builtin.proofs.Division.{division}
use Rattle.rr_builtin.proofs.dividing.division_rounds_down.Goals as goal

pub returns : goal.returns
returns c = division
