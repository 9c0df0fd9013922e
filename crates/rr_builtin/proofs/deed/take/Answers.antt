use Rattle.std.proofs.Common.{◌∙◌, ap, [], slice_set}
use Rattle.rr_space.specs.Parts.{value_of}
use Rattle.rr_space.specs.Tables.{Here}
use Rattle.rr_builtin.specs.Acts.{without_element, element_at}
use Rattle.rr_builtin.proofs.Among.{of_among, none_in}
use Rattle.rr_builtin.proofs.Performing.{writable, written_done, read_led, element_is, taken_is}
use Rattle.rr_builtin.proofs.Serving.{served_written}
use Rattle.rr_builtin.proofs.deed.take.Goals as goal

pub returns-clause-act : goal.returns-clause-act
returns-clause-act c = λ below read.
    let w = writable c.args.space.now c.args.array c.requires.can in
    let t = c.in-Some.ensures.slots w.slot w.object w.named w.here in
    written_done below c.args.space.now c.take_element.new.self (without_element c.args.place) c.args.array c.in-Some.taken (element_at c.args.space.now c.args.array c.args.place) w
    (t.3 ∙ ap (λ o. slice_set c.args.space.now.slots w.slot (Here o)) (taken_is w.object t.0 c.args.place t.1)) c.take_element.ensures.keys c.take_element.ensures.rest
    (read_led below [] c.args.space.now c.take_element.new.self w.slot read (c.take_element.ensures.below w.slot w.named) (λ e. none_in e))
    (element_is c.args.space.now c.args.array w t.0 c.args.place (value_of c.in-Some.taken) t.1 t.2) c.in-Some.ensures.within
    (of_among below c.in-Some.taken (λ e has. read.all e (c.in-Some.ensures.known e has)))

pub returns-clause-served : goal.returns-clause-served
returns-clause-served c =
    let w = writable c.args.space.now c.args.array c.requires.can in
    served_written c.args.space.now c.take_element.new.self w.slot _ c.in-Some.taken (c.in-Some.ensures.slots w.slot w.object w.named w.here).3 c.take_element.ensures.rest c.in-Some.ensures.within
