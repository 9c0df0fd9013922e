use Rattle.rr_base.proofs.laws.port_conserves.Goals as goal
use Rattle.rr_base.proofs.Conserving.{port_conserves_objects, port_conserves_messages}

pub returns-clause-objects : goal.returns-clause-objects
returns-clause-objects c = port_conserves_objects

pub returns-clause-messages : goal.returns-clause-messages
returns-clause-messages c = port_conserves_messages
