-- The hash was made, or a growth was refused.
use Rattle.rr_eval.specs.Published.{published}
use Rattle.rr_eval.specs.Turns.{context_of}
use Rattle.rr_eval.proofs.Filling.{made_replied, made_left, made_throws, made_fails, made_refused, filled_refused}
use Rattle.rr_eval.proofs.hash.new_hash.Goals as goal

pub returns-in-Ok-Gives-clause-made : goal.returns-in-Ok-Gives-clause-made
returns-in-Ok-Gives-clause-made c =
    let made = rw c.in-Ok-Gives.field-0-is at c.in-Ok-Gives.ensures.replied in
    made_replied (context_of c.args.program.now) (published c.args.store.now) c.in-Ok-Gives.hash c.args.values.now c.args.space.now c.new_empty.new.space c.fill.new.space c.fill.result made c.fill.ensures.filled

pub returns-in-Ok-Gives-clause-left : goal.returns-in-Ok-Gives-clause-left
returns-in-Ok-Gives-clause-left c =
    let made = rw c.in-Ok-Gives.field-0-is at c.in-Ok-Gives.ensures.replied in
    made_left (published c.args.store.now) c.in-Ok-Gives.hash c.args.space.now c.new_empty.new.space c.fill.new.space c.fill.result made c.fill.ensures.left

pub returns-in-Ok-Gives-clause-refused : goal.returns-in-Ok-Gives-clause-refused
returns-in-Ok-Gives-clause-refused c =
    let made = rw c.in-Ok-Gives.field-0-is at c.in-Ok-Gives.ensures.replied in
    filled_refused (context_of c.args.program.now) (published c.args.store.now) c.in-Ok-Gives.hash c.args.values.now c.args.space.now c.new_empty.new.space c.fill.result made c.fill.ensures.refused

pub returns-in-Err-clause-refused : goal.returns-in-Err-clause-refused
returns-in-Err-clause-refused c = made_refused (context_of c.args.program.now) (published c.args.store.now) c.args.values.now c.args.space.now c.in-Err.fault c.in-Err.ensures.refused

pub returns-in-Ok-Throws-clause-made : goal.returns-in-Ok-Throws-clause-made
returns-in-Ok-Throws-clause-made c =
    let first = rw c.in-Ok-Throws.field-0-is at c.in-Ok-Throws.ensures.replied in
    made_throws (context_of c.args.program.now) (published c.args.store.now) c.args.values.now c.args.space.now c.new_empty.new.space c.in-Ok-Throws.exception first

pub returns-in-Ok-Fails-clause-made : goal.returns-in-Ok-Fails-clause-made
returns-in-Ok-Fails-clause-made c =
    let first = rw c.in-Ok-Fails.field-0-is at c.in-Ok-Fails.ensures.replied in
    made_fails (context_of c.args.program.now) (published c.args.store.now) c.args.values.now c.args.space.now c.new_empty.new.space c.in-Ok-Fails.problem first
