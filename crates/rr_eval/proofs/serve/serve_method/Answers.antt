-- What the call built is the reply, and a refused call did nothing.
use Rattle.std.proofs.Common.{sym, ap, subst}
use Rattle.rr_eval.specs.declared.problem.Problem.TheVariants.{MissingMethod}
use Rattle.rr_eval.specs.Calls.{call_reply}
use Rattle.rr_eval.specs.Published.{published}
use Rattle.rr_eval.specs.Requests.{arguments_of}
use Rattle.rr_eval.specs.Serves.{IsReplied}
use Rattle.rr_eval.specs.Turns.{context_of}
use Rattle.rr_eval.proofs.Calling.{call_replied, call_refused}
use Rattle.rr_eval.proofs.serve.serve_method.Goals as goal

pub returns-in-Ok-clause-replied : goal.returns-in-Ok-clause-replied
returns-in-Ok-clause-replied c =
    let p = context_of c.args.program.now in
    let call = c.args.call.now in
    let t = c.args.space.now in
    let u = c.send_with.new.space in
    let below = published c.args.store.now in
    let missing = MissingMethod call.callee c.receiver_of-receiver.result in
    subst (λ r. IsReplied below (call_reply p call.receiver call.callee (arguments_of call.arguments) t) t r u) (sym c.response_from.ensures.is)
    (call_replied p call t u c.args.method below c.requires.read c.requires.reached c.requires.method missing c.in-Ok.built c.in-Ok.ensures (ap (λ x. MissingMethod call.callee x) c.receiver_of-receiver.ensures))

pub returns-in-Err-clause-refused : goal.returns-in-Err-clause-refused
returns-in-Err-clause-refused c =
    call_refused (context_of c.args.program.now) c.args.call.now c.args.space.now c.send_with.new.space c.args.method (published c.args.store.now) c.requires.read c.requires.reached c.requires.method c.in-Err.fault c.in-Err.ensures
