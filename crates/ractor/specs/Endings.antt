-- What the program does with a script.
use Rattle.std.specs.Prelude.{◌≡◌, ℕ, List, Bool, Result}
use Rattle.rr_base.specs.declared.fault.Fault.{Fault}
use Rattle.rr_base.specs.declared.limits.TheConstants.Limits.{DEFAULT}
use Rattle.rr_eval.specs.declared.run.Outcome.{Outcome}
use Rattle.rr_eval.specs.Runs.{Meets}
use Rattle.rr_eval.specs.Written.{Written, Puts}
use Rattle.ractor.specs.Lines.{error_line}
use Rattle.ractor.specs.Statuses.{status_of}

-- what is seen of the two streams
pub record Streams : Type 0 where
  pub output : Written
  pub errors : Written

-- A run of the source ended in one way. The output has what such a run leaves, the errors have the line about it, as far as it
-- could be written, and the status is the one of that way.
pub record Ends (before after : Streams) (source : List ℕ) (status : ℕ) : Type 0 where
  pub ended : Result Outcome Fault
  pub met : Meets (record { source = source; limits = DEFAULT; before = before.output; after = after.output; ended = ended })
  pub whole : Bool
  pub told : Puts before.errors after.errors (error_line ended) whole
  pub named : status ≡ status_of ended
