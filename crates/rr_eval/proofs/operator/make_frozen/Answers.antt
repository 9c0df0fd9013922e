-- One frozen text more, or none.
use Rattle.std.proofs.Common.{◌∙◌, ap, subst, length, slice_get, slice_set}
use Rattle.rr_space.specs.Tables.{Here, IsRestKept}
use Rattle.rr_space.specs.Lookups.{text_object, frozen_text}
use Rattle.rr_builtin.proofs.Performing.{read_grown}
use Rattle.rr_eval.proofs.Changing.{append_changes}
use Rattle.rr_eval.proofs.Literals.{stands_last, froze_last}
use Rattle.rr_eval.proofs.operator.make_frozen.Goals as goal

pub returns-in-Ok-clause-made : goal.returns-in-Ok-clause-made
returns-in-Ok-clause-made c =
    let t = c.args.space.now in
    let u = c.freeze.new.self in
    let bytes = c.args.bytes.items in
    let e = c.in-Ok.ensures in
    let there = ap (λ x. slice_get x.slots (length t.slots)) e.made ∙ stands_last bytes t in
    froze_last bytes t u
    (c.freeze.ensures.slots (length t.slots) (text_object bytes) e.name there ∙ ap (λ x. slice_set x.slots (length t.slots) (Here (frozen_text bytes))) e.made)
    (c.freeze.ensures.below ∙ ap (λ x. x.below) e.made) (c.freeze.ensures.keys ∙ ap (λ x. x.keys) e.made) (subst (λ x. IsRestKept x u) e.made c.freeze.ensures.rest)

pub returns-in-Ok-clause-read : goal.returns-in-Ok-clause-read
returns-in-Ok-clause-read c below read = read_grown below c.args.space.now c.freeze.new.self read (ap (λ x. x.below) (returns-in-Ok-clause-made c))

pub returns-in-Ok-clause-changed : goal.returns-in-Ok-clause-changed
returns-in-Ok-clause-changed c =
    let made = returns-in-Ok-clause-made c in
    append_changes c.args.space.now c.freeze.new.self _ (ap (λ x. x.slots) made) (ap (λ x. x.limit) made) (ap (λ x. x.owner) made)
