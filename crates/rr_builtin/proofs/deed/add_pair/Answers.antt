use Rattle.std.proofs.Common.{◌++◌, ⊎_elim, refl}
use Rattle.std.proofs.lemmas.List.Elements.{Contains-append_cases}
use Rattle.rr_space.specs.Parts.{value_of, below_ref}
use Rattle.rr_space.specs.Views.{key_of}
use Rattle.rr_builtin.proofs.Among.{among_of}
use Rattle.rr_builtin.proofs.Performing.{writable, read_led}
use Rattle.rr_builtin.proofs.Storing.{written_keys, pair_done}
use Rattle.rr_builtin.proofs.Serving.{served_written, served_refused}
use Rattle.std.proofs.Common.{inl, ⊎_elim}
use Rattle.rr_builtin.proofs.deed.add_pair.Goals as goal

pub returns-in-Ok-clause-act : goal.returns-in-Ok-clause-act
returns-in-Ok-clause-act c = λ below read named among.
    let t = c.args.space.now in
    let x = value_of c.args.value in
    let w = writable t c.args.hash c.requires.hash.0 in
    let k = written_keys t c.args.hash w c.len-count.ensures.well in
    let p = c.in-Ok.ensures.absent w.slot w.object k.0 w.named w.here k.1 (c.requires.lacks k.0 k.2) in
    pair_done below t c.write_pair.new.self (value_of c.args.name) (key_of c.args.key) x c.args.hash c.args.value w k.0 k.1 k.2 p.0 p.1 c.write_pair.ensures.rest
    (read_led below (below_ref c.args.name ++ below_ref c.args.value) t c.write_pair.new.self w.slot read (c.in-Ok.ensures.below w.slot w.named)
    (λ e has. ⊎_elim (among_of below c.args.name named e) (among_of below c.args.value among e) (Contains-append_cases (below_ref c.args.name) (below_ref c.args.value) e has))) refl c.requires.value among

pub returns-in-Ok-clause-served : goal.returns-in-Ok-clause-served
returns-in-Ok-clause-served c =
    let w = writable c.args.space.now c.args.hash c.requires.hash.0 in
    let k = written_keys c.args.space.now c.args.hash w c.len-count.ensures.well in
    served_written c.args.space.now c.write_pair.new.self w.slot _ c.args.value ((c.in-Ok.ensures.absent w.slot w.object k.0 w.named w.here k.1 (c.requires.lacks k.0 k.2)).0) c.write_pair.ensures.rest c.requires.value

pub returns-in-Err-clause-served : goal.returns-in-Err-clause-served
returns-in-Err-clause-served c = served_refused c.args.space.now c.write_pair.new.self c.in-Err.fault c.in-Err.ensures.refused (inl c.in-Err.ensures.fault)
