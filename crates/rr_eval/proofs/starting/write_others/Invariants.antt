-- What is still to be written is the other names.
use Rattle.std.proofs.Common.{◌≡◌, ◌++◌, map, drop}
use Rattle.rr_eval.specs.Starting.{behind_commas}
use Rattle.rr_eval.specs.Turns.{context_of}
use Rattle.rr_eval.proofs.starting.write_others.Given as goal

abbrev pub invariant-loop-name : goal.invariant-loop-name
invariant-loop-name l =
    l.initial.text.items ++ behind_commas (context_of l.program) (map (λ x. x.0) l.names) ≡ l.text.items ++ behind_commas (context_of l.program) (map (λ x. x.0) (drop l.name-index l.names))
