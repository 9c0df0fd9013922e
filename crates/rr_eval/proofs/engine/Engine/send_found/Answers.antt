-- The receiver is a plain object, whose method was found beforehand.
use Rattle.std.proofs.Common.{◌∙◌, ap, sym}
use Rattle.std.specs.Option.{option_map}
use Rattle.rr_eval.specs.declared.call.Callee.TheVariants.{Name}
use Rattle.rr_eval.specs.Prepared.{callable_of}
use Rattle.rr_eval.specs.Turns.{context_of}
use Rattle.rr_eval.proofs.Plain.{plain_joins}
use Rattle.rr_eval.proofs.engine.Engine.send_found.Goals as goal

pub send_with-requires-clause-method : goal.send_with-requires-clause-method
send_with-requires-clause-method c = sym (ap (option_map (callable_of c.args.prepared.now.program.nodes.items)) c.in-Some-Some.field-0-is) ∙ c.in-Some-Some.ensures.finds

pub send_with-requires-clause-joins : goal.send_with-requires-clause-joins
send_with-requires-clause-joins c = plain_joins (context_of c.args.prepared.now.program) c.args.space.now c.args.found.value (Name c.args.name) c.in-Some-Some.ensures.kind
