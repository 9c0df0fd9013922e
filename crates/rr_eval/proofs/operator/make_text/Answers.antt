-- One object more, or none.
use Rattle.rr_builtin.proofs.Performing.{read_grown}
use Rattle.rr_eval.proofs.Changing.{append_changes, same_changes}
use Rattle.rr_eval.proofs.operator.make_text.Goals as goal

pub returns-in-Ok-clause-changed : goal.returns-in-Ok-clause-changed
returns-in-Ok-clause-changed c = append_changes c.args.space.now c.alloc.new.self _ c.in-Ok.ensures.slots c.in-Ok.ensures.rest.limit c.in-Ok.ensures.rest.owner

pub returns-in-Ok-clause-read : goal.returns-in-Ok-clause-read
returns-in-Ok-clause-read c below read = read_grown below c.args.space.now c.alloc.new.self read c.in-Ok.ensures.below

pub returns-in-Err-clause-changed : goal.returns-in-Err-clause-changed
returns-in-Err-clause-changed c = same_changes c.args.space.now c.alloc.new.self c.in-Err.ensures.refused
