-- A pair was put, or a growth was refused.
use Rattle.std.proofs.Common.{◌-◌, length, take, drop}
use Rattle.rr_eval.specs.Published.{published}
use Rattle.rr_eval.specs.Turns.{context_of}
use Rattle.rr_eval.proofs.Filling.{filling_more, filling_refused, filling_throws, filling_fails, filling_done, two_first}
use Rattle.rr_eval.proofs.hash.fill.Goals as goal

pub loop-rest-preserved : goal.loop-rest-preserved
loop-rest-preserved c =
    let rest = c.loop-rest.rest.now in
    let put = rw c.in-Ok-Gives.field-0-is at c.in-Ok-Gives.ensures.replied in
    filling_more (context_of c.args.program.now) (published c.args.store.now) c.args.hash c.key-item.result c.value-item.result c.args.values.now rest (take (length rest - 2) (drop 2 rest)) c.args.space.now c.loop-rest.space c.loop-rest.invariant
    (two_first rest c.key-item.result c.value-item.result c.in-len2-up.len_at_least c.key-item.is c.value-item.is) c.in-Ok-Gives.field-0-0 c.put_pair.new.space put

pub returns-in-Err-clause-refused : goal.returns-in-Err-clause-refused
returns-in-Err-clause-refused c =
    let rest = c.loop-rest.rest.now in
    filling_refused (context_of c.args.program.now) (published c.args.store.now) c.args.hash c.key-item.result c.value-item.result c.args.values.now rest (take (length rest - 2) (drop 2 rest)) c.args.space.now c.loop-rest.space c.loop-rest.invariant
    (two_first rest c.key-item.result c.value-item.result c.in-len2-up.len_at_least c.key-item.is c.value-item.is) c.in-Err.fault c.in-Err.ensures.refused

pub returns-in-Ok-Throws : goal.returns-in-Ok-Throws
returns-in-Ok-Throws c =
    let rest = c.loop-rest.rest.now in
    let put = rw c.in-Ok-Throws.field-0-is at c.in-Ok-Throws.ensures.replied in
    let ended = filling_throws (context_of c.args.program.now) (published c.args.store.now) c.args.hash c.key-item.result c.value-item.result c.args.values.now rest (take (length rest - 2) (drop 2 rest)) c.args.space.now c.loop-rest.space c.loop-rest.invariant
    (two_first rest c.key-item.result c.value-item.result c.in-len2-up.len_at_least c.key-item.is c.value-item.is) c.in-Ok-Throws.exception c.put_pair.new.space put in
    record { filled = ended.0; left = ended.1; refused = tt }

pub returns-in-Ok-Fails : goal.returns-in-Ok-Fails
returns-in-Ok-Fails c =
    let rest = c.loop-rest.rest.now in
    let put = rw c.in-Ok-Fails.field-0-is at c.in-Ok-Fails.ensures.replied in
    let ended = filling_fails (context_of c.args.program.now) (published c.args.store.now) c.args.hash c.key-item.result c.value-item.result c.args.values.now rest (take (length rest - 2) (drop 2 rest)) c.args.space.now c.loop-rest.space c.loop-rest.invariant
    (two_first rest c.key-item.result c.value-item.result c.in-len2-up.len_at_least c.key-item.is c.value-item.is) c.in-Ok-Fails.problem c.put_pair.new.space put in
    record { filled = ended.0; left = ended.1; refused = tt }

pub returns-clause-filled : goal.returns-clause-filled
returns-clause-filled c = filling_done (context_of c.args.program.now) (published c.args.store.now) c.args.hash c.args.values.now c.loop-rest.rest.now c.args.space.now c.loop-rest.space c.loop-rest.invariant c.in_default.len_below
