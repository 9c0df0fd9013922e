use Rattle.rr_store.proofs.Numbering.{stored_are_one_each, stored_stay, lead_back_stays}
use Rattle.rr_store.proofs.laws.shown_by_numbers.Goals as goal

pub returns-clause-one_each : goal.returns-clause-one_each
returns-clause-one_each c = stored_are_one_each

pub returns-clause-stay : goal.returns-clause-stay
returns-clause-stay c = stored_stay

pub returns-clause-back : goal.returns-clause-back
returns-clause-back c = lead_back_stays
