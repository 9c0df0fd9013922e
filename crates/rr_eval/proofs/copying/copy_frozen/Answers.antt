-- The space is read with the copy as it was before.
use Rattle.std.proofs.Common.{ap}
use Rattle.rr_builtin.proofs.Performing.{read_same}
use Rattle.rr_eval.proofs.CopiesFrozen.{opened_among, opened_read}
use Rattle.rr_eval.proofs.copying.copy_frozen.Goals as goal

pub returns-in-Ok-deep_freeze-clause-read : goal.returns-in-Ok-deep_freeze-clause-read
returns-in-Ok-deep_freeze-clause-read c = λ below read among.
    let opened = c.open.new.space in
    read_same below opened c.deep_freeze.new.space
    (opened_read below c.args.space.now opened c.in_ok-message.message c.args.value read among c.in-Ok.ensures.opened.below c.in_ok-message.ensures.below) c.in-Ok-deep_freeze.ensures.frozen.2.below

pub returns-in-Ok-deep_freeze-clause-among : goal.returns-in-Ok-deep_freeze-clause-among
returns-in-Ok-deep_freeze-clause-among c = λ below read among.
    opened_among below c.args.space.now c.open.new.space c.in_ok-message.message c.args.value read among c.in-Ok.ensures.opened.below c.in_ok-message.ensures.below c.in-Ok.copy c.in-Ok.ensures.below

pub returns-in-Ok-clause-read : goal.returns-in-Ok-clause-read
returns-in-Ok-clause-read c = λ below read among.
    let opened = c.open.new.space in
    read_same below opened c.deep_freeze.new.space
    (opened_read below c.args.space.now opened c.in_ok-message.message c.args.value read among c.in-Ok.ensures.opened.below c.in_ok-message.ensures.below) (ap (λ t. t.below) c.in-Err-deep_freeze.ensures.refused)
