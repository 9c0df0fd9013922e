-- Nothing calls what is no definition.
use Rattle.rr_tree.proofs.Defined.{other_calls}
use Rattle.rr_tree.proofs.method_table.callers_of.Goals as goal

pub returns-in_default-clause-calls : goal.returns-in_default-clause-calls
returns-in_default-clause-calls c = other_calls c.args.program.now c.args.node c.in_default.not-Method c.in_default.not-Reader c.in_default.not-Writer
