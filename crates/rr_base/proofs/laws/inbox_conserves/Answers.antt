use Rattle.rr_base.proofs.laws.inbox_conserves.Goals as goal
use Rattle.rr_base.proofs.Conserving.{inbox_conserves_objects, inbox_conserves_messages}

pub returns-clause-objects : goal.returns-clause-objects
returns-clause-objects c = inbox_conserves_objects

pub returns-clause-messages : goal.returns-clause-messages
returns-clause-messages c = inbox_conserves_messages
