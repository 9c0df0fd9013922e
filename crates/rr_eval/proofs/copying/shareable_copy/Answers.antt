-- What is published first is there when the value is copied.
use Rattle.std.proofs.Common.{◌∙◌, length, sym}
use Rattle.std.proofs.lemmas.Bool.{false≢true}
use Rattle.rr_space.specs.Parts.{value_of}
use Rattle.rr_builtin.proofs.Among.{on_if_ok}
use Rattle.rr_eval.specs.Alone.{IsCopied, IsCopyGiven}
use Rattle.rr_eval.specs.Published.{published}
use Rattle.rr_eval.proofs.Copied.{given_on, moved_before, reached_on}
use Rattle.rr_eval.proofs.copying.shareable_copy.Goals as goal

pub give_copy-requires-clause-value : goal.give_copy-requires-clause-value
give_copy-requires-clause-value c =
    let done = c.publish_shareable.ensures in
    let t = c.args.space.now in
    let mid = c.publish_shareable.new.space in
    reached_on (length t.slots) (length mid.slots) (published c.args.store.now) (published c.publish_shareable.new.store) done.grows done.more c.args.value c.requires.value

pub returns-in-Ok-clause-gives : goal.returns-in-Ok-clause-gives
returns-in-Ok-clause-gives c =
    let s = c.args.store.now in
    let v = c.args.value in
    let t = c.args.space.now in
    let mid = c.publish_shareable.new.space in
    let u = c.give_copy.new.space in
    let after = c.publish_shareable.new.store in
    on_if_ok (λ r. IsCopied (value_of v) mid r u) (λ r. IsCopyGiven s v t r u after) c.give_copy.result c.give_copy.ensures.gives
    (λ r copied. given_on s v t mid after c.in-Ok.ensures.published r u (λ share. false≢true (sym c.if-branch.false ∙ c.in_ok-is_shareable.ensures.exact.1 share)) copied)

pub returns-in-Err-HoldsShell-clause-gives : goal.returns-in-Err-HoldsShell-clause-gives
returns-in-Err-HoldsShell-clause-gives c =
    let done = c.in-Err-HoldsShell.ensures in
    moved_before c.args.store.now c.args.value c.args.space.now c.in-Err-HoldsShell.field-0 c.publish_shareable.new.space c.publish_shareable.new.store
    c.in-Err-HoldsShell.field-0-is done.fault done.kept (done.shell c.in-Err-HoldsShell.field-0-is)
