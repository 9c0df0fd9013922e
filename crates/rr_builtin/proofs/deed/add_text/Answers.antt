use Rattle.std.proofs.Common.{refl, length}
use Rattle.rr_space.specs.Graph.{At, Own}
use Rattle.rr_space.specs.Tables.{TextKey}
use Rattle.rr_space.specs.Parts.{value_of}
use Rattle.rr_builtin.proofs.Performing.{writable}
use Rattle.rr_builtin.proofs.Storing.{written_keys, text_done, text_refused}
use Rattle.rr_builtin.proofs.Serving.{served_both, served_refused}
use Rattle.std.proofs.Common.{inl, inr, ⊎_elim}
use Rattle.rr_builtin.proofs.deed.add_text.Goals as goal

pub returns-in-Ok-clause-act : goal.returns-in-Ok-clause-act
returns-in-Ok-clause-act c = λ below read among.
    let t = c.args.space.now in
    let x = value_of c.args.value in
    let w = writable t c.args.hash c.requires.hash.0 in
    let k = written_keys t c.args.hash w c.len-count.ensures.well in
    let p = c.in-Ok.ensures.slots w.slot w.object k.0 w.named w.here k.1 in
    text_done below t c.write_text_pair.new.self c.args.bytes.items x c.args.hash c.args.value w k.0 k.1 k.2 p.0 p.1 c.write_text_pair.ensures.rest read (c.in-Ok.ensures.below w.slot w.named) refl c.requires.value among

pub returns-in-Err-clause-act : goal.returns-in-Err-clause-act
returns-in-Err-clause-act c = λ below read among.
    let t = c.args.space.now in
    let w = writable t c.args.hash c.requires.hash.0 in
    let k = written_keys t c.args.hash w c.len-count.ensures.well in
    (c.in-Err.ensures.refused, text_refused (At (Own (length t.slots))) (TextKey c.args.bytes.items) (value_of c.args.value) c.args.bytes.items t c.args.hash w k.0 c.in-Err.fault k.2 c.in-Err.ensures.fault)

pub returns-in-Ok-clause-served : goal.returns-in-Ok-clause-served
returns-in-Ok-clause-served c =
    let w = writable c.args.space.now c.args.hash c.requires.hash.0 in
    let k = written_keys c.args.space.now c.args.hash w c.len-count.ensures.well in
    let p = c.in-Ok.ensures.slots w.slot w.object k.0 w.named w.here k.1 in
    served_both c.args.space.now c.write_text_pair.new.self w.slot _ _ c.args.value p.0 c.write_text_pair.ensures.rest c.requires.value

pub returns-in-Err-clause-served : goal.returns-in-Err-clause-served
returns-in-Err-clause-served c = served_refused c.args.space.now c.write_text_pair.new.self c.in-Err.fault c.in-Err.ensures.refused (⊎_elim (λ q. inr q.0) (λ m. inl m) c.in-Err.ensures.fault)
