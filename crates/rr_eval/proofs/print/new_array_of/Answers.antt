-- A new array is the reply.
use Rattle.std.proofs.Common.{Ok, Err, refl}
use Rattle.rr_eval.specs.Published.{published}
use Rattle.rr_eval.proofs.Replying.{array_acts, array_replied, array_refused}
use Rattle.rr_eval.proofs.print.new_array_of.Goals as goal

pub returns-in-Ok-clause-replied : goal.returns-in-Ok-clause-replied
returns-in-Ok-clause-replied c =
    let below = published c.args.store.now in
    let items = c.args.items.items in
    let is = array_acts below items items c.args.space.now c.make_array.new.space (Ok c.in-Ok.built) refl c.in-Ok.ensures.act c.requires.read c.requires.reached in
    array_replied below items c.args.space.now c.make_array.new.space c.in-Ok.built c.response_from.result is c.response_from.ensures.is

pub returns-in-Err-clause-refused : goal.returns-in-Err-clause-refused
returns-in-Err-clause-refused c =
    let below = published c.args.store.now in
    let items = c.args.items.items in
    let is = array_acts below items items c.args.space.now c.make_array.new.space (Err c.in-Err.fault) refl c.in-Err.ensures.act c.requires.read c.requires.reached in
    array_refused below items c.args.space.now c.make_array.new.space c.in-Err.fault is
