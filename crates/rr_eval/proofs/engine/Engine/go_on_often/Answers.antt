-- Turns need no frame, and then the iteration ends, or another turn begins, or it waits.
use Rattle.std.proofs.Common.{length}
use Rattle.rr_eval.proofs.engine.Engine.go_on_often.Goals as goal

pub returns-then-break_often-clause-within : goal.returns-then-break_often-clause-within
returns-then-break_often-clause-within c clusters h value = c.break_often.ensures.within clusters (c.try_turns-done.ensures.within clusters h)

pub returns-clause-within : goal.returns-clause-within
returns-clause-within c clusters h value = c.begin_or_wait.ensures.within clusters (c.break_often.ensures.within clusters (c.try_turns-done.ensures.within clusters h)) (c.try_turns-done.ensures.value clusters value)
