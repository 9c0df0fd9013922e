-- How a method begins.
use Rattle.rr_eval.specs.declared.problem.Answer.TheVariants.{Gave, Raised}
use Rattle.rr_eval.specs.declared.frame.Control.{Control}
use Rattle.rr_eval.specs.declared.frame.Control.TheVariants.{Enter, Give, Throw}

-- its statements come first, or its value is there, or it raises, as one does that is called for a new exception
abbrev pub IsBegun : Control → Type 0
IsBegun (Enter part) = Unit {0}
IsBegun (Give (Gave v)) = Unit {0}
IsBegun (Give (Raised e)) = Unit {0}
IsBegun (Throw e) = Unit {0}
IsBegun _ = ⊥
