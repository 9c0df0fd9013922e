-- The reply is the exception with its message.
use Rattle.std.proofs.Common.{length, Some}
use Rattle.rr_space.specs.Parts.{value_of}
use Rattle.rr_eval.specs.Published.{published}
use Rattle.rr_eval.proofs.Assigning.{message_replied}
use Rattle.rr_eval.proofs.Holding.{ref_among, ref_within}
use Rattle.rr_eval.proofs.fields.replace_message.Goals as goal

pub write_message-built-requires : goal.write_message-built-requires
write_message-built-requires c = ref_within (length c.args.space.now.slots) (Some (published c.args.store.now)) c.args.message c.requires.message

pub returns : goal.returns
returns c =
    let below = published c.args.store.now in
    let among = ref_among (length c.args.space.now.slots) below c.args.message c.requires.message in
    record { replied = message_replied below (value_of c.args.message) c.args.exception c.args.space.now c.write_message-built.new.space c.write_message-built.result c.response_from.result (c.write_message-built.ensures.act below c.requires.read among) c.response_from.ensures.is }
