use Rattle.std.proofs.Common.{◌≡◌, ◌∙◌, ap, slice_set, length, refl, arith}
use Rattle.rr_space.specs.Parts.{value_of, below_ref}
use Rattle.rr_space.specs.Tables.{Here}
use Rattle.rr_space.specs.Labels.{triples_at}
use Rattle.rr_builtin.specs.Acts.{with_put}
use Rattle.rr_builtin.proofs.Among.{among_of}
use Rattle.rr_builtin.proofs.Arraying.{put_inside}
use Rattle.rr_builtin.proofs.Performing.{writable, written_done, read_led, triples_here}
use Rattle.rr_builtin.proofs.Serving.{served_written}
use Rattle.rr_builtin.proofs.deed.put_inside.Goals as goal

pub returns-clause-act : goal.returns-clause-act
returns-clause-act c = λ below read among.
    let t = c.args.space.now in
    let x = value_of c.args.value in
    let w = writable t c.args.array c.requires.can in
    let size : length (triples_at t c.args.array) ≡ length w.object.triples = ap length (triples_here t c.args.array w) in
    written_done below t c.write_element.new.self (with_put c.args.place x) c.args.array c.args.value x w
    (c.write_element.ensures.slots w.slot w.object w.named w.here ∙ ap (λ o. slice_set t.slots w.slot (Here o)) (put_inside c.args.place x w.object (omega (arith, size, c.requires.place)))) c.write_element.ensures.keys c.write_element.ensures.rest
    (read_led below (below_ref c.args.value) t c.write_element.new.self w.slot read (c.write_element.ensures.below w.slot w.named) (among_of below c.args.value among)) refl c.requires.value among

pub returns-clause-served : goal.returns-clause-served
returns-clause-served c =
    let w = writable c.args.space.now c.args.array c.requires.can in
    served_written c.args.space.now c.write_element.new.self w.slot _ c.args.value (c.write_element.ensures.slots w.slot w.object w.named w.here) c.write_element.ensures.rest c.requires.value
