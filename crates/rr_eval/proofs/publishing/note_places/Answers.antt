-- The slots are written down, or an array more is left.
use Rattle.std.proofs.Common.{◌∙◌, [], length, inl, sym, ap, subst, arith}
use Rattle.rr_space.specs.Parts.{places_from}
use Rattle.rr_space.specs.Views.{AllWithin}
use Rattle.rr_builtin.proofs.Among.{none_in}
use Rattle.rr_builtin.proofs.Performing.{read_led, read_same}
use Rattle.rr_eval.specs.Responses.{registry_slot}
use Rattle.rr_eval.proofs.Noted.{locals_within, registry_on, array_read, noted_from, noted_grows}
use Rattle.rr_eval.proofs.publishing.note_places.Goals as goal

pub alloc-requires-clause-within : goal.alloc-requires-clause-within
alloc-requires-clause-within c =
    let size = length c.args.space.now.slots in
    subst (λ its. AllWithin size (places_from 0 its)) (sym (c.from_vec.ensures ∙ c.in_ok-slots.ensures.references)) (locals_within size 0 c.args.places.now c.requires)

pub put_down-requires-clause-registry : goal.put_down-requires-clause-registry
put_down-requires-clause-registry c =
    let r = c.if-not-has_registry.ensures.yes in
    (r.0, registry_on c.args.number c.args.space.now c.alloc.new.self r.0 _ r.1 c.in_ok-array.ensures.slots)

pub returns-in-Ok-clause-notes : goal.returns-in-Ok-clause-notes
returns-in-Ok-clause-notes c =
    let t = c.args.space.now in
    let mid = c.alloc.new.self in
    let r = c.if-not-has_registry.ensures.yes in
    let e = c.in_ok-array.ensures in
    inl (noted_from c.args.places.now t mid c.from_vec.result (c.from_vec.ensures ∙ c.in_ok-slots.ensures.references) e.slots e.below e.keys c.alloc.ensures.rest
    c.args.number c.put_down.new.space r.0 c.in_ok-array.array r.1 e.name (c.in-Ok.ensures.slots r.0 (registry_on c.args.number t mid r.0 _ r.1 e.slots)) c.in-Ok.ensures.below c.put_down.ensures.keys c.put_down.ensures.rest)

pub returns-in-Ok-clause-read : goal.returns-in-Ok-clause-read
returns-in-Ok-clause-read c = λ below read.
    let e = c.in_ok-array.ensures in
    read_led below [] c.alloc.new.self c.put_down.new.space registry_slot
    (array_read c.args.places.now c.args.space.now c.alloc.new.self c.from_vec.result (c.from_vec.ensures ∙ c.in_ok-slots.ensures.references) e.slots e.below e.keys c.alloc.ensures.rest below read) c.in-Ok.ensures.below (λ x. none_in x)

pub returns-in-Ok-clause-grows : goal.returns-in-Ok-clause-grows
returns-in-Ok-clause-grows c =
    let t = c.args.space.now in
    let n = returns-in-Ok-clause-notes c in
    let size = noted_grows c.args.number c.args.places.now t c.put_down.new.space n in
    omega (arith, size)

pub returns-in-Err-clause-read : goal.returns-in-Err-clause-read
returns-in-Err-clause-read c = λ below read.
    let e = c.in_ok-array.ensures in
    read_same below c.alloc.new.self c.put_down.new.space
    (array_read c.args.places.now c.args.space.now c.alloc.new.self c.from_vec.result (c.from_vec.ensures ∙ c.in_ok-slots.ensures.references) e.slots e.below e.keys c.alloc.ensures.rest below read) (ap (λ x. x.below) c.in-Err.ensures.refused)
