-- Without steps the step limit is reached.
use Rattle.std.proofs.Common.{refl}
use Rattle.rr_eval.specs.Views.{view_of}
use Rattle.rr_eval.proofs.Acting.{step_limit}
use Rattle.rr_eval.proofs.engine.Engine.step.Goals as goal

pub returns-then-self-eq0-clause-acted : goal.returns-then-self-eq0-clause-acted
returns-then-self-eq0-clause-acted c = (c.if-self-eq0.true, λ h. step_limit c.args.prepared.now.program (view_of c.args.self.now) c.args.space.now (view_of c.args.self.now).control refl c.requires.step c.if-self-eq0.true h)
