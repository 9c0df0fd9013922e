-- The text that is made is the reply.
use Rattle.std.proofs.Common.{Some, refl}
use Rattle.rr_eval.specs.Published.{published}
use Rattle.rr_eval.proofs.Replying.{text_replied}
use Rattle.rr_eval.proofs.print.new_text.Goals as goal

pub returns-clause-replied : goal.returns-clause-replied
returns-clause-replied c =
    let below = published c.args.store.now in
    let bytes = c.args.bytes.items in
    let made = c.make.ensures in
    text_replied below bytes bytes c.args.space.now c.make.new.space c.make.result refl made.acts (made.within (Some below)) (made.read below c.requires.read) made.changed.grows
