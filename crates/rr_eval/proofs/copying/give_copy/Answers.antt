-- The copy leads to what its value led to.
use Rattle.std.proofs.Common.{length}
use Rattle.rr_builtin.proofs.Among.{among_of}
use Rattle.rr_eval.specs.Published.{published}
use Rattle.rr_eval.proofs.Copied.{copy_left}
use Rattle.rr_eval.proofs.Holding.{ref_among}
use Rattle.rr_eval.proofs.copying.give_copy.Goals as goal

pub returns-in-Ok-clause-left : goal.returns-in-Ok-clause-left
returns-in-Ok-clause-left c =
    let below = published c.args.store.now in
    let t = c.args.space.now in
    let done = c.in-Ok.ensures in
    let among = among_of below c.args.value (ref_among (length t.slots) below c.args.value c.requires.value) in
    copy_left below t c.copy_frozen.new.space c.in-Ok.copy (c.copy_frozen.ensures.read below c.requires.read among) done.within (done.among below c.requires.read among) c.copy_frozen.ensures.grows done.copied.rest
