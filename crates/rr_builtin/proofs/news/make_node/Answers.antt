use Rattle.rr_builtin.proofs.Arraying.{object_done}
use Rattle.rr_builtin.proofs.Fixing.{fixed_more, fixed_same}
use Rattle.rr_builtin.proofs.Serving.{served_new, served_refused}
use Rattle.std.proofs.Common.{inl, inr, ⊎_elim}
use Rattle.rr_builtin.proofs.news.make_node.Goals as goal

pub returns-in-Ok-clause-act : goal.returns-in-Ok-clause-act
returns-in-Ok-clause-act c = λ below v read among.
    object_done below c.args.space.now c.alloc.new.self c.args.node c.in-Ok.made read c.in-Ok.ensures.name c.in-Ok.ensures.slots c.in-Ok.ensures.below c.in-Ok.ensures.keys c.alloc.ensures.rest among

pub returns-in-Ok-clause-served : goal.returns-in-Ok-clause-served
returns-in-Ok-clause-served c = served_new c.args.space.now c.alloc.new.self _ c.in-Ok.made c.in-Ok.ensures.name c.in-Ok.ensures.slots c.alloc.ensures.rest

pub returns-in-Err-clause-served : goal.returns-in-Err-clause-served
returns-in-Err-clause-served c = served_refused c.args.space.now c.alloc.new.self c.in-Err.fault c.in-Err.ensures.refused (⊎_elim (λ q. inr q) (λ m. inl m) c.in-Err.ensures.fault)

pub returns-in-Ok-clause-fixed : goal.returns-in-Ok-clause-fixed
returns-in-Ok-clause-fixed c = fixed_more c.args.space.now.slots c.alloc.new.self.slots _ c.in-Ok.ensures.slots

pub returns-in-Err-clause-fixed : goal.returns-in-Err-clause-fixed
returns-in-Err-clause-fixed c = fixed_same c.args.space.now c.alloc.new.self c.in-Err.ensures.refused
