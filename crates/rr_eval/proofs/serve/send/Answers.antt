-- Without a method nothing is done; with one, what it does.
use Rattle.std.proofs.Common.{sym, subst, Ok}
use Rattle.rr_builtin.specs.Acts.{Acts}
use Rattle.rr_eval.specs.Calls.{sent}
use Rattle.rr_eval.specs.Turns.{context_of}
use Rattle.rr_eval.proofs.serve.send.Goals as goal

pub returns-in-None : goal.returns-in-None
returns-in-None c = λ below read receiver arguments.
    let t = c.args.space.now in
    subst (λ m. Acts below (sent (context_of c.args.program.now) below c.args.receiver m c.args.arguments.now) t t (Ok c.unknown.result)) (sym c.in-None.is) (c.unknown.ensures below read)

pub returns-in-Some : goal.returns-in-Some
returns-in-Some c = λ below read receiver arguments.
    let u = c.call.new.space in
    subst (λ m. Acts below (sent (context_of c.args.program.now) below c.args.receiver m c.args.arguments.now) c.args.space.now u c.call.result) (sym c.in-Some.is) (c.call.ensures.act below read receiver arguments)
