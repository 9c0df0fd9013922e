use Rattle.rr_base.proofs.Ticketing.{port_differs}
use Rattle.rr_base.proofs.laws.port_tickets_differ.Goals as goal

pub returns : goal.returns
returns c = port_differs
