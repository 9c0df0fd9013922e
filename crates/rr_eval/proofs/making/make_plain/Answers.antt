-- An object without fields.
use Rattle.std.proofs.Common.{ap}
use Rattle.rr_builtin.proofs.Performing.{read_grown}
use Rattle.rr_eval.proofs.Changing.{append_changes, same_changes}
use Rattle.rr_eval.proofs.Holding.{none_distinct}
use Rattle.rr_eval.proofs.Running.{one_plain}
use Rattle.rr_eval.proofs.making.make_plain.Goals as goal

pub alloc-requires-clause-fields : goal.alloc-requires-clause-fields
alloc-requires-clause-fields c = none_distinct _ c.in_ok-fields.ensures.items

pub returns-in-Ok-clause-made : goal.returns-in-Ok-clause-made
returns-in-Ok-clause-made c = one_plain c.args.space.now c.alloc.new.self c.args.class c.in_ok-fields.fields.items c.in_ok-fields.ensures.items c.in-Ok.ensures.slots c.in-Ok.ensures.below c.in-Ok.ensures.keys c.in-Ok.ensures.rest

pub returns-in-Ok-clause-read : goal.returns-in-Ok-clause-read
returns-in-Ok-clause-read c below read = read_grown below c.args.space.now c.alloc.new.self read (ap (λ x. x.below) (returns-in-Ok-clause-made c))

pub returns-in-Ok-clause-changed : goal.returns-in-Ok-clause-changed
returns-in-Ok-clause-changed c = append_changes c.args.space.now c.alloc.new.self _ c.in-Ok.ensures.slots c.in-Ok.ensures.rest.limit c.in-Ok.ensures.rest.owner

pub returns-in-Err-clause-changed : goal.returns-in-Err-clause-changed
returns-in-Err-clause-changed c = same_changes c.args.space.now c.alloc.new.self c.in-Err.ensures.refused
