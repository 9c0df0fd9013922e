use Rattle.rr_world.proofs.OneNames.{one_value_is_one_name}
use Rattle.rr_world.proofs.laws.shown_by_names.Goals as goal

pub returns : goal.returns
returns c = one_value_is_one_name
