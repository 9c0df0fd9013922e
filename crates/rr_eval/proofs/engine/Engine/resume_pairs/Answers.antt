-- A value that is kept asks for nothing.
use Rattle.rr_eval.proofs.engine.Engine.resume_pairs.Goals as goal

pub returns-in_default-clause-asks : goal.returns-in_default-clause-asks
returns-in_default-clause-asks c k h value = c.keep_value.ensures.asks k
