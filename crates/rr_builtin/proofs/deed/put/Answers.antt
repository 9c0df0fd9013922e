use Rattle.std.proofs.Common.{◌≡◌, ◌∙◌, ap, slice_set, length, refl, arith}
use Rattle.rr_space.specs.Parts.{value_of, below_ref}
use Rattle.rr_space.specs.Tables.{Here}
use Rattle.rr_space.specs.Labels.{triples_at}
use Rattle.rr_builtin.specs.Acts.{with_put}
use Rattle.rr_builtin.proofs.Among.{among_of}
use Rattle.rr_builtin.proofs.Arraying.{put_behind}
use Rattle.rr_builtin.proofs.Performing.{writable, written_done, read_led, triples_here}
use Rattle.rr_builtin.proofs.Serving.{served_written, served_refused}
use Rattle.std.proofs.Common.{inl}
use Rattle.rr_builtin.proofs.deed.put.Goals as goal

pub returns-in-Ok-clause-act : goal.returns-in-Ok-clause-act
returns-in-Ok-clause-act c = λ below read among.
    let t = c.args.space.now in
    let x = value_of c.args.value in
    let w = writable t c.args.array c.requires.can in
    let size : length (triples_at t c.args.array) ≡ length w.object.triples = ap length (triples_here t c.args.array w) in
    written_done below t c.push_element.new.self (with_put c.args.place x) c.args.array c.args.value x w
    (c.in-Ok.ensures.slots w.slot w.object w.named w.here ∙ ap (λ o. slice_set t.slots w.slot (Here o)) (put_behind c.args.place x w.object (omega (arith, size, c.if-place-arity.false, c.arity.ensures.count, c.requires.place)))) c.push_element.ensures.keys c.push_element.ensures.rest
    (read_led below (below_ref c.args.value) t c.push_element.new.self w.slot read (c.in-Ok.ensures.below w.slot w.named) (among_of below c.args.value among)) refl c.requires.value among

pub returns-in-Ok-clause-served : goal.returns-in-Ok-clause-served
returns-in-Ok-clause-served c =
    let w = writable c.args.space.now c.args.array c.requires.can in
    served_written c.args.space.now c.push_element.new.self w.slot _ c.args.value (c.in-Ok.ensures.slots w.slot w.object w.named w.here) c.push_element.ensures.rest c.requires.value

pub returns-in-Err-clause-served : goal.returns-in-Err-clause-served
returns-in-Err-clause-served c = served_refused c.args.space.now c.push_element.new.self c.in-Err.fault c.in-Err.ensures.refused (inl c.in-Err.ensures.fault)
