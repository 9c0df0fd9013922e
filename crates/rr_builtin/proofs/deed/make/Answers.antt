use Rattle.rr_builtin.proofs.Performing.{made_done}
use Rattle.rr_builtin.proofs.Serving.{served_new, served_refused}
use Rattle.std.proofs.Common.{inl, inr, ⊎_elim}
use Rattle.rr_builtin.proofs.deed.make.Goals as goal

pub returns-in-Ok-clause-act : goal.returns-in-Ok-clause-act
returns-in-Ok-clause-act c = λ below v read.
    made_done below c.args.space.now c.alloc.new.self c.args.bytes.items c.in-Ok.text read c.in-Ok.ensures.name c.in-Ok.ensures.slots c.in-Ok.ensures.below c.in-Ok.ensures.keys c.alloc.ensures.rest

pub returns-in-Ok-clause-served : goal.returns-in-Ok-clause-served
returns-in-Ok-clause-served c = served_new c.args.space.now c.alloc.new.self _ c.in-Ok.text c.in-Ok.ensures.name c.in-Ok.ensures.slots c.alloc.ensures.rest

pub returns-in-Err-clause-served : goal.returns-in-Err-clause-served
returns-in-Err-clause-served c = served_refused c.args.space.now c.alloc.new.self c.in-Err.fault c.in-Err.ensures.refused (⊎_elim (λ q. inr q) (λ m. inl m) c.in-Err.ensures.fault)
