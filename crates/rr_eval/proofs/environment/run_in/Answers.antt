-- A request was served, or it could not be.
use Rattle.rr_eval.specs.Requests.{asked_of}
use Rattle.rr_eval.proofs.Holding.{within_more}
use Rattle.rr_eval.proofs.Serving.{served_more, served_end}
use Rattle.rr_eval.proofs.environment.run_in.Goals as goal

pub loop-request-preserved : goal.loop-request-preserved
loop-request-preserved g c =
    let turned = rw c.in-Ask.is at c.in_ok-turn.ensures.turned in
    record {
      within = c.answer.ensures.within _ (within_more _ _ c.in-Ok.ensures.grows _ c.in_ok-turn.ensures.within) c.in-Ok.ensures.within;
      served = rw c.answer.ensures.goes (served_more g.E.Environment.leads c.args.prepared.now.program c.args.machine.now c.args.space.now c.args.environment.now c.loop-request.machine c.loop-request.space c.loop-request.environment c.turn.new.self c.turn.new.space c.serve.new.space (asked_of c.turn.new.space c.in-Ask.request) c.in-Ok.response c.serve.new.self c.loop-request.invariant.served turned.1 c.in-Ok.ensures.leads);
    }

pub returns-in-Err-clause-ran : goal.returns-in-Err-clause-ran
returns-in-Err-clause-ran g c =
    let turned = rw c.in-Ask.is at c.in_ok-turn.ensures.turned in
    rw c.in-Err.ensures.kept (served_end g.E.Environment.leads c.args.prepared.now.program c.args.machine.now c.args.space.now c.args.environment.now c.loop-request.machine c.loop-request.space c.loop-request.environment c.in-Err.fault c.turn.new.self c.turn.new.space c.serve.new.self c.loop-request.invariant.served (λ h. (asked_of c.turn.new.space c.in-Ask.request, turned.1 h)))
