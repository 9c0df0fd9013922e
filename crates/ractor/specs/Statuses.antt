-- The exit status of a run.
use Rattle.std.specs.Prelude.{ℕ, Result, Ok, Err}
use Rattle.std.specs.declared.io.ErrorKind.{ErrorKind}
use Rattle.std.specs.declared.io.ErrorKind.TheVariants as errors
use Rattle.rr_base.specs.declared.fault.Fault.{Fault}
use Rattle.rr_base.specs.declared.fault.Fault.TheVariants as faults
use Rattle.rr_eval.specs.declared.run.Outcome.{Outcome}
use Rattle.rr_eval.specs.declared.run.Outcome.TheVariants as outcomes
use Rattle.ractor.specs.declared.statuses.Failure.{Failure}
use Rattle.ractor.specs.declared.statuses.Failure.TheVariants as failures

-- a source of which the syntax or a limit is wrong; else there was no memory to read it
abbrev pub status_of_refusal : Fault → ℕ
status_of_refusal (faults.Syntax line column kind) = 3
status_of_refusal (faults.Limit kind) = 3
status_of_refusal _ = 5

-- the exit status for each way in which a run ends
abbrev pub status_of : Result Outcome Fault → ℕ
status_of (Ok outcomes.Done) = 0
status_of (Ok (outcomes.Raised told)) = 1
status_of (Ok outcomes.OutputFailed) = 4
status_of (Ok (outcomes.Stopped fault)) = 5
status_of (Ok outcomes.StepLimit) = 6
status_of (Err fault) = status_of_refusal fault

-- the exit status where no script was run
abbrev pub status_of_failure : Failure → ℕ
status_of_failure failures.Words = 2
status_of_failure failures.File = 4
status_of_failure failures.Memory = 5

-- what an error of the system is told as
abbrev pub failure_of : ErrorKind → Failure → Failure
failure_of errors.OutOfMemory other = failures.Memory
failure_of _ other = other
