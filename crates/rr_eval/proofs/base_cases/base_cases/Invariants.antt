-- The choices so far are what they are taken for.
use Rattle.rr_eval.specs.BaseCases.{AreBases}
use Rattle.rr_eval.proofs.base_cases.base_cases.Given as goal

abbrev pub invariant-loop-method : goal.invariant-loop-method
invariant-loop-method l = AreBases l.program.nodes.items l.bases.items
