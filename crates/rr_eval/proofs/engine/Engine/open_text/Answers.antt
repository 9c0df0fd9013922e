-- The text would be one object too many.
use Rattle.std.proofs.Common.{subst, length, [], slice_index_or}
use Rattle.rr_eval.specs.Acts.{Passes}
use Rattle.rr_eval.specs.Operators.{make}
use Rattle.rr_eval.specs.Turns.{context_of}
use Rattle.rr_eval.proofs.Objects.{act_passes}
use Rattle.rr_eval.specs.Views.{view_of}
use Rattle.rr_eval.proofs.Holding.{reached_more}
use Rattle.rr_eval.proofs.engine.Engine.open_text.Goals as goal

pub returns-in-Err-clause-full : goal.returns-in-Err-clause-full
returns-in-Err-clause-full c h n adds =
    let p = c.args.program.now in
    let t = c.args.space.now in
    let f = c.in-Err.fault in
    let passes = subst (λ bytes. Passes f t.limit (length (make p.freezes bytes t).1.slots)) c.in_ok-text.ensures c.in-Err.ensures.full in
    act_passes p (view_of c.args.self.now) t (make p.freezes (slice_index_or (context_of p).texts c.args.i [])) f h n adds passes

pub returns-in-Ok-clause-within : goal.returns-in-Ok-clause-within
returns-in-Ok-clause-within c cs h =
    c.settle.ensures.within _ (reached_more _ _ cs c.in-Ok.ensures.changed.grows (view_of c.args.self.now) h) (c.in-Ok.ensures.within cs)

pub returns-in-Ok-clause-read : goal.returns-in-Ok-clause-read
returns-in-Ok-clause-read c below read reached = c.in-Ok.ensures.read below read
