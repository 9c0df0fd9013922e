use Rattle.rr_builtin.proofs.Iterating.{names_are_one, names_are_met, names_are_apart, table_is_by_name}
use Rattle.rr_builtin.proofs.iterations.iterations_have_names.Goals as goal

pub returns-clause-one : goal.returns-clause-one
returns-clause-one c = names_are_one

pub returns-clause-met : goal.returns-clause-met
returns-clause-met c = names_are_met

pub returns-clause-apart : goal.returns-clause-apart
returns-clause-apart c = names_are_apart

pub returns-clause-table : goal.returns-clause-table
returns-clause-table c = table_is_by_name
