use Rattle.std.proofs.Common.{◌∙◌, ap, slice_set, length, map, refl}
use Rattle.rr_space.specs.Parts.{value_of, below_parts, places_from}
use Rattle.rr_space.specs.Tables.{Here}
use Rattle.rr_builtin.specs.Acts.{with_put}
use Rattle.rr_builtin.proofs.Arraying.{all_places, parts_among, put_refilled}
use Rattle.rr_builtin.proofs.Performing.{writable, written_done, read_led, triples_here}
use Rattle.rr_builtin.proofs.Serving.{served_written}
use Rattle.rr_builtin.proofs.deed.refill.Goals as goal

pub write_elements-requires-clause-within : goal.write_elements-requires-clause-within
write_elements-requires-clause-within c = all_places (length c.args.space.now.slots) 0 c.args.items.items c.requires.filled.within

pub returns-clause-act : goal.returns-clause-act
returns-clause-act c = λ below read all among.
    let t = c.args.space.now in
    let x = value_of c.args.value in
    let its = c.args.items.items in
    let w = writable t c.args.array c.requires.can in
    let e = c.write_elements.ensures.slots w.slot w.object w.named w.here in
    written_done below t c.write_elements.new.self (with_put c.args.place x) c.args.array c.args.value x w
    (e.2 ∙ ap (λ o. slice_set t.slots w.slot (Here o)) (put_refilled t c.args.array w.object e.0 (map value_of its) c.args.place x (triples_here t c.args.array w) e.1 c.requires.filled.behind c.requires.filled.values))
    c.write_elements.ensures.keys c.write_elements.ensures.rest
    (read_led below (below_parts (places_from 0 its)) t c.write_elements.new.self w.slot read (c.write_elements.ensures.below w.slot w.named) (parts_among below 0 its all)) refl c.requires.value among

pub returns-clause-served : goal.returns-clause-served
returns-clause-served c =
    let w = writable c.args.space.now c.args.array c.requires.can in
    served_written c.args.space.now c.write_elements.new.self w.slot _ c.args.value (c.write_elements.ensures.slots w.slot w.object w.named w.here).2 c.write_elements.ensures.rest c.requires.value
