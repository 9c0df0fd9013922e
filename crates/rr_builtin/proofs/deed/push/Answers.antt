use Rattle.std.proofs.Common.{refl}
use Rattle.rr_space.specs.Parts.{value_of, below_ref}
use Rattle.rr_builtin.specs.Acts.{with_element}
use Rattle.rr_builtin.proofs.Among.{among_of}
use Rattle.rr_builtin.proofs.Performing.{writable, writable_among, written_done, read_led}
use Rattle.rr_builtin.proofs.Serving.{served_written, served_refused}
use Rattle.std.proofs.Common.{inl}
use Rattle.rr_builtin.proofs.deed.push.Goals as goal

pub returns-in-Ok-clause-act : goal.returns-in-Ok-clause-act
returns-in-Ok-clause-act c = λ below read among.
    let w = writable c.args.space.now c.args.array c.requires.can in
    written_done below c.args.space.now c.push_element.new.self (with_element (value_of c.args.value)) c.args.array c.args.array (value_of c.args.array) w
    (c.in-Ok.ensures.slots w.slot w.object w.named w.here) c.push_element.ensures.keys c.push_element.ensures.rest
    (read_led below (below_ref c.args.value) c.args.space.now c.push_element.new.self w.slot read (c.in-Ok.ensures.below w.slot w.named) (among_of below c.args.value among)) refl c.requires.within (writable_among below c.args.space.now c.args.array w)

pub returns-in-Ok-clause-served : goal.returns-in-Ok-clause-served
returns-in-Ok-clause-served c =
    let w = writable c.args.space.now c.args.array c.requires.can in
    served_written c.args.space.now c.push_element.new.self w.slot _ c.args.array (c.in-Ok.ensures.slots w.slot w.object w.named w.here) c.push_element.ensures.rest c.requires.within

pub returns-in-Err-clause-served : goal.returns-in-Err-clause-served
returns-in-Err-clause-served c = served_refused c.args.space.now c.push_element.new.self c.in-Err.fault c.in-Err.ensures.refused (inl c.in-Err.ensures.fault)
