use Rattle.std.proofs.lemmas.Bool.{false≢true}
use Rattle.std.proofs.Common.{refl, []}
use Rattle.rr_builtin.proofs.Among.{of_among, none_in}
use Rattle.rr_builtin.proofs.Performing.{writable, read_led}
use Rattle.rr_builtin.proofs.Storing.{written_keys, pair_taken}
use Rattle.rr_builtin.proofs.Serving.{served_written}
use Rattle.rr_builtin.proofs.deed.take_pair.Goals as goal

pub returns-clause-act : goal.returns-clause-act
returns-clause-act c = λ below read.
    let t = c.args.space.now in
    let w = writable t c.args.hash c.requires.hash.0 in
    let k = written_keys t c.args.hash w c.len-count.ensures.well in
    let p = c.in-Some.ensures.slots w.slot w.object w.named w.here in
    pair_taken below t c.delete_pair.new.self c.args.pair c.args.hash c.in-Some.value w k.0 p.0 _ k.1 p.1 p.2 refl p.3
    (c.delete_pair.ensures.keys w.slot k.0 w.named k.1).1 c.delete_pair.ensures.rest
    (read_led below [] t c.delete_pair.new.self w.slot read (c.delete_pair.ensures.below w.slot w.named) (λ e. none_in e))
    c.in-Some.ensures.within.1 (of_among below c.in-Some.value (λ e has. read.all e (c.in-Some.ensures.known.1 e has)))

pub unreachable-requires : goal.unreachable-requires
unreachable-requires c =
    let w = writable c.args.space.now c.args.hash c.requires.hash.0 in
    let k = written_keys c.args.space.now c.args.hash w c.len-count.ensures.well in
    false≢true ((c.in-None.ensures.keys w.slot k.0 w.named k.1).0.1 (c.requires.pair k.0 k.2))

pub returns-clause-served : goal.returns-clause-served
returns-clause-served c =
    let t = c.args.space.now in
    let w = writable t c.args.hash c.requires.hash.0 in
    let p = c.in-Some.ensures.slots w.slot w.object w.named w.here in
    served_written t c.delete_pair.new.self w.slot _ c.in-Some.value p.3 c.delete_pair.ensures.rest c.in-Some.ensures.within.1
