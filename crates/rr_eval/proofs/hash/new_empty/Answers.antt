-- A new hash is the reply.
use Rattle.rr_space.specs.declared.refer.Ref.TheVariants.{Nil}
use Rattle.rr_eval.specs.Published.{published}
use Rattle.rr_eval.proofs.Filling.{empty_replied, empty_refused}
use Rattle.rr_eval.proofs.hash.new_empty.Goals as goal

pub returns-in-Ok-clause-replied : goal.returns-in-Ok-clause-replied
returns-in-Ok-clause-replied c =
    let below = published c.args.store.now in
    empty_replied below c.args.space.now c.make_hash.new.space c.in-Ok.built c.response_from.result (c.in-Ok.ensures.act below Nil c.requires.read) c.response_from.ensures.is

pub returns-in-Err-clause-refused : goal.returns-in-Err-clause-refused
returns-in-Err-clause-refused c =
    let below = published c.args.store.now in
    empty_refused below c.args.space.now c.make_hash.new.space c.in-Err.fault (c.in-Err.ensures.act below Nil c.requires.read)
