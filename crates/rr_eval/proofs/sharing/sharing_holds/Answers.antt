-- The laws of the tests and of the table.
use Rattle.rr_eval.proofs.Shares.{leads_law, shareable_law, frozen_law}
use Rattle.rr_eval.proofs.sharing.sharing_holds.Goals as goal

pub returns-clause-leads : goal.returns-clause-leads
returns-clause-leads c = leads_law

pub returns-clause-shareable : goal.returns-clause-shareable
returns-clause-shareable c t v well = shareable_law t well v

pub returns-clause-frozen : goal.returns-clause-frozen
returns-clause-frozen c = frozen_law
