-- A script, and what follows it.
use Rattle.rr_eval.specs.declared.problem.Answer.{Answer}
use Rattle.rr_eval.specs.Script.{Script, Ret, Evaluate, See, Do, Ask}

-- a script, and then what follows its answer
abbrev pub bind : Script → (Answer → Script) → Script
bind (Ret a) next = next a
bind (Evaluate part more) next = Evaluate part (λ a. bind (more a) next)
bind (See look) next = See (λ m. bind (look m) next)
bind (Do act more) next = Do act (bind more next)
bind (Ask q more) next = Ask q (λ r. bind (more r) next)
