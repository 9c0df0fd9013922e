use Rattle.std.proofs.Common.{refl}
use Rattle.rr_space.specs.Parts.{value_of, below_ref}
use Rattle.rr_space.specs.Views.{key_of}
use Rattle.rr_builtin.specs.Acts.{with_value}
use Rattle.rr_builtin.proofs.Among.{among_of}
use Rattle.rr_builtin.proofs.Performing.{writable, written_done, read_led}
use Rattle.rr_builtin.proofs.Storing.{written_keys, has_first}
use Rattle.rr_builtin.proofs.Serving.{served_written, served_refused}
use Rattle.std.proofs.Common.{inl}
use Rattle.rr_builtin.proofs.deed.set_value.Goals as goal

pub write_pair-requires-clause-named : goal.write_pair-requires-clause-named
write_pair-requires-clause-named c = λ ks at out. absurd (out (has_first ks (key_of c.args.key) c.args.pair (c.requires.first ks at).here))

pub returns-in-Ok-clause-act : goal.returns-in-Ok-clause-act
returns-in-Ok-clause-act c = λ below read among.
    let t = c.args.space.now in
    let x = value_of c.args.value in
    let w = writable t c.args.hash c.requires.hash.0 in
    let k = written_keys t c.args.hash w c.len-count.ensures.well in
    let p = c.in-Ok.ensures.present w.slot c.args.pair w.object k.0 w.named w.here k.1 (c.requires.first k.0 k.2) in
    written_done below t c.write_pair.new.self (with_value c.args.pair x) c.args.hash c.args.value x w p.1 p.2 c.write_pair.ensures.rest
    (read_led below (below_ref c.args.value) t c.write_pair.new.self w.slot read (c.in-Ok.ensures.below w.slot w.named) (among_of below c.args.value among)) refl c.requires.value among

pub returns-in-Ok-clause-served : goal.returns-in-Ok-clause-served
returns-in-Ok-clause-served c =
    let w = writable c.args.space.now c.args.hash c.requires.hash.0 in
    let k = written_keys c.args.space.now c.args.hash w c.len-count.ensures.well in
    served_written c.args.space.now c.write_pair.new.self w.slot _ c.args.value ((c.in-Ok.ensures.present w.slot c.args.pair w.object k.0 w.named w.here k.1 (c.requires.first k.0 k.2)).1) c.write_pair.ensures.rest c.requires.value

pub returns-in-Err-clause-served : goal.returns-in-Err-clause-served
returns-in-Err-clause-served c = served_refused c.args.space.now c.write_pair.new.self c.in-Err.fault c.in-Err.ensures.refused (inl c.in-Err.ensures.fault)
