use Rattle.std.proofs.Common.{refl}
use Rattle.rr_space.specs.Parts.{value_of}
use Rattle.rr_builtin.specs.Acts.{with_bytes}
use Rattle.rr_builtin.proofs.Performing.{writable, writable_among, written_done, read_same}
use Rattle.rr_builtin.proofs.Serving.{served_written, served_refused}
use Rattle.std.proofs.Common.{inl}
use Rattle.rr_builtin.proofs.deed.append.Goals as goal

pub returns-in-Ok-clause-act : goal.returns-in-Ok-clause-act
returns-in-Ok-clause-act c = λ below read.
    let w = writable c.args.space.now c.args.text c.requires.can in
    written_done below c.args.space.now c.append_text.new.self (with_bytes c.args.bytes.now) c.args.text c.args.text (value_of c.args.text) w
    (c.in-Ok.ensures.slots w.slot w.object w.named w.here) c.append_text.ensures.keys c.append_text.ensures.rest
    (read_same below c.args.space.now c.append_text.new.self read c.append_text.ensures.below) refl c.requires.within (writable_among below c.args.space.now c.args.text w)

pub returns-in-Ok-clause-served : goal.returns-in-Ok-clause-served
returns-in-Ok-clause-served c =
    let w = writable c.args.space.now c.args.text c.requires.can in
    served_written c.args.space.now c.append_text.new.self w.slot _ c.args.text (c.in-Ok.ensures.slots w.slot w.object w.named w.here) c.append_text.ensures.rest c.requires.within

pub returns-in-Err-clause-served : goal.returns-in-Err-clause-served
returns-in-Err-clause-served c = served_refused c.args.space.now c.append_text.new.self c.in-Err.fault c.in-Err.ensures.refused (inl c.in-Err.ensures.fault)
