use Rattle.rr_base.proofs.Ticketing.{inbox_rises}
use Rattle.rr_base.proofs.laws.inbox_tickets_rise.Goals as goal

pub returns : goal.returns
returns c = inbox_rises
