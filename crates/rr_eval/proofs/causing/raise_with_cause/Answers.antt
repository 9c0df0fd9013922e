-- The reply is the exception with its cause.
use Rattle.std.proofs.Common.{length, Some}
use Rattle.rr_eval.specs.Published.{published}
use Rattle.rr_eval.proofs.Assigning.{cause_replied}
use Rattle.rr_eval.proofs.Holding.{ref_among, ref_within}
use Rattle.rr_eval.proofs.causing.raise_with_cause.Goals as goal

pub set_cause-requires : goal.set_cause-requires
set_cause-requires c = ref_within (length c.args.space.now.slots) (Some (published c.args.store.now)) c.args.cause c.requires.cause

pub returns : goal.returns
returns c =
    let below = published c.args.store.now in
    let t = c.args.space.now in
    let among = ref_among (length t.slots) below c.args.cause c.requires.cause in
    let done = c.set_cause.ensures in
    record { replied = cause_replied below c.args.cause c.args.exception t c.set_cause.new.space done.slots done.keys done.rest (done.read below c.requires.read among) c.requires.exception }
