-- The rule of a `return` is what its frame waits for.
use Rattle.std.proofs.Common.{ap}
use Rattle.rr_eval.specs.Rules.{rule}
use Rattle.rr_eval.specs.Turns.{context_of}
use Rattle.rr_eval.proofs.engine.Engine.visit_return.Goals as goal

pub first_value-requires-clause-script : goal.first_value-requires-clause-script
first_value-requires-clause-script c w = ap (rule (context_of c.args.prepared.now.program)) c.requires.tree
