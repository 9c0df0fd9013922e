-- The reply is the assignment's, and a refused one did nothing.
use Rattle.std.proofs.Common.{length, Some}
use Rattle.rr_space.specs.Parts.{value_of}
use Rattle.rr_eval.specs.Globals.{globals}
use Rattle.rr_eval.specs.Published.{published}
use Rattle.rr_eval.proofs.Assigning.{set_field_replied, set_field_refused}
use Rattle.rr_eval.proofs.Holding.{ref_among, ref_within}
use Rattle.rr_eval.proofs.globals.write_global.Goals as goal

pub set_field-requires : goal.set_field-requires
set_field-requires c = ref_within (length c.args.space.now.slots) (Some (published c.args.store.now)) c.args.value c.requires.value

pub returns-in-Ok-clause-replied : goal.returns-in-Ok-clause-replied
returns-in-Ok-clause-replied c =
    let below = published c.args.store.now in
    let among = ref_among (length c.args.space.now.slots) below c.args.value c.requires.value in
    set_field_replied below c.args.name.0 (value_of c.args.value) globals c.args.space.now c.set_field.new.space c.in-Ok.built c.response_from.result (c.in-Ok.ensures.act below c.requires.read among) c.response_from.ensures.is

pub returns-in-Err-clause-refused : goal.returns-in-Err-clause-refused
returns-in-Err-clause-refused c =
    let below = published c.args.store.now in
    let among = ref_among (length c.args.space.now.slots) below c.args.value c.requires.value in
    set_field_refused below c.args.name.0 (value_of c.args.value) globals c.args.space.now c.set_field.new.space c.in-Err.fault (c.in-Err.ensures.act below c.requires.read among)
