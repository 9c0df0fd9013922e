use Rattle.std.proofs.Common.{refl, inl}
use Rattle.std.proofs.lemmas.Bool.{and_parts}
use Rattle.rr_space.specs.Kinds.{kind_at}
use Rattle.rr_space.specs.Parts.{value_of, below_ref}
use Rattle.rr_space.specs.Views.{can_write_at}
use Rattle.rr_builtin.specs.Fields.{has_fields, with_field}
use Rattle.rr_builtin.proofs.Among.{among_of}
use Rattle.rr_builtin.proofs.Fielding.{field_written, kinds_with_fields}
use Rattle.rr_builtin.proofs.Fixing.{fixed_written, fixed_same}
use Rattle.rr_builtin.proofs.Performing.{writable, written_done, read_led}
use Rattle.rr_builtin.proofs.Serving.{served_written, served_refused}
use Rattle.rr_builtin.proofs.fields.put_field.Goals as goal

pub write_field-requires-clause-can : goal.write_field-requires-clause-can
write_field-requires-clause-can c = (and_parts (has_fields (kind_at c.args.space.now c.args.object)) (can_write_at c.args.space.now c.args.object) c.requires.can).1

pub write_field-requires-clause-kind : goal.write_field-requires-clause-kind
write_field-requires-clause-kind c =
    kinds_with_fields (kind_at c.args.space.now c.args.object) (and_parts (has_fields (kind_at c.args.space.now c.args.object)) (can_write_at c.args.space.now c.args.object) c.requires.can).0

pub returns-in-Ok-clause-act : goal.returns-in-Ok-clause-act
returns-in-Ok-clause-act c = λ below read among.
    let t = c.args.space.now in
    let x = value_of c.args.value in
    let w = writable t c.args.object (and_parts (has_fields (kind_at t c.args.object)) (can_write_at t c.args.object) c.requires.can).1 in
    written_done below t c.write_field.new.self (with_field c.args.name.0 x) c.args.object c.args.value x w
    (field_written c.args.name.0 x t.slots c.write_field.new.self.slots w.slot w.object
    (λ i first. (c.in-Ok.ensures.present w.slot i w.object w.named w.here first).1) (c.in-Ok.ensures.absent w.slot w.object w.named w.here))
    c.write_field.ensures.keys c.write_field.ensures.rest
    (read_led below (below_ref c.args.value) t c.write_field.new.self w.slot read (c.in-Ok.ensures.below w.slot w.named) (among_of below c.args.value among)) refl c.requires.value among

pub returns-in-Ok-clause-served : goal.returns-in-Ok-clause-served
returns-in-Ok-clause-served c =
    let t = c.args.space.now in
    let w = writable t c.args.object (and_parts (has_fields (kind_at t c.args.object)) (can_write_at t c.args.object) c.requires.can).1 in
    served_written t c.write_field.new.self w.slot _ c.args.value
    (field_written c.args.name.0 (value_of c.args.value) t.slots c.write_field.new.self.slots w.slot w.object
    (λ i first. (c.in-Ok.ensures.present w.slot i w.object w.named w.here first).1) (c.in-Ok.ensures.absent w.slot w.object w.named w.here))
    c.write_field.ensures.rest c.requires.value

pub returns-in-Ok-clause-fixed : goal.returns-in-Ok-clause-fixed
returns-in-Ok-clause-fixed c =
    let t = c.args.space.now in
    let can = (and_parts (has_fields (kind_at t c.args.object)) (can_write_at t c.args.object) c.requires.can).1 in
    let w = writable t c.args.object can in
    fixed_written t c.args.object w c.write_field.new.self.slots _ can
    (field_written c.args.name.0 (value_of c.args.value) t.slots c.write_field.new.self.slots w.slot w.object
    (λ i first. (c.in-Ok.ensures.present w.slot i w.object w.named w.here first).1) (c.in-Ok.ensures.absent w.slot w.object w.named w.here))

pub returns-in-Err-clause-served : goal.returns-in-Err-clause-served
returns-in-Err-clause-served c = served_refused c.args.space.now c.write_field.new.self c.in-Err.fault c.in-Err.ensures.refused (inl c.in-Err.ensures.fault)

pub returns-in-Err-clause-fixed : goal.returns-in-Err-clause-fixed
returns-in-Err-clause-fixed c = fixed_same c.args.space.now c.write_field.new.self c.in-Err.ensures.refused
