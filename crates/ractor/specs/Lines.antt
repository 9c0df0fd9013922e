-- The line about how a run ended.
use Rattle.std.specs.Prelude.{ℕ, List, [], ◌∷◌, ◌++◌, codes, decimal, Result, Ok, Err}
use Rattle.std.specs.List.{concat}
use Rattle.rr_base.specs.Names.{limit_name, syntax_name}
use Rattle.rr_base.specs.declared.fault.Fault.{Fault}
use Rattle.rr_base.specs.declared.fault.Fault.TheVariants as faults
use Rattle.rr_base.specs.declared.fault.SyntaxKind.{SyntaxKind}
use Rattle.rr_eval.specs.declared.run.Outcome.{Outcome}
use Rattle.rr_eval.specs.declared.run.Outcome.TheVariants as outcomes

-- where a source is wrong, and how
abbrev pub syntax_line : ℕ → ℕ → SyntaxKind → List ℕ
syntax_line line column kind = concat (codes "ractor: syntax error, line " ∷ decimal line ∷ codes ", column " ∷ decimal column ∷ codes ": " ∷ syntax_name kind ∷ codes "\n" ∷ [])

-- the line of a fault; one that has no line of its own is told as want of memory
abbrev pub fault_line : Fault → List ℕ
fault_line (faults.Syntax line column kind) = syntax_line line column kind
fault_line (faults.Limit kind) = codes "ractor: limit " ++ limit_name kind ++ codes "\n"
fault_line _ = codes "ractor: memory\n"

-- none where nothing went wrong
abbrev pub error_line : Result Outcome Fault → List ℕ
error_line (Ok outcomes.Done) = []
error_line (Ok (outcomes.Raised told)) = told.items ++ codes "\n"
error_line (Ok outcomes.StepLimit) = codes "ractor: step limit\n"
error_line (Ok outcomes.OutputFailed) = codes "ractor: file\n"
error_line (Ok (outcomes.Stopped fault)) = fault_line fault
error_line (Err fault) = fault_line fault
