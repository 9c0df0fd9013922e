use Rattle.std.proofs.Common.{ap}
use Rattle.rr_builtin.specs.Acts.{Act, performed}
use Rattle.rr_builtin.specs.Deeds.{act_of}
use Rattle.rr_builtin.specs.Calls.{called}
use Rattle.rr_builtin.proofs.Among.{of_among}
use Rattle.rr_builtin.proofs.Performing.{acts_same}
use Rattle.rr_builtin.proofs.calls.call_any.Goals as goal

pub returns-clause-act : goal.returns-clause-act
returns-clause-act c = λ below read among arguments.
    let receiver = of_among below c.args.receiver among in
    acts_same below (performed (act_of c.in_ok-deed.deed) c.args.receiver) (called c.args.program.now below c.args.receiver c.args.method c.args.arguments.now) c.args.space.now c.perform.new.space c.perform.result
    (ap (λ (a : Act). performed a c.args.receiver c.args.space.now) (c.in_ok-deed.ensures.act below read among arguments))
    (c.perform.ensures.act below read receiver (c.in_ok-deed.ensures.among below read receiver arguments))
