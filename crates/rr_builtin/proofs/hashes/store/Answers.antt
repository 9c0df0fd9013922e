use Rattle.std.proofs.Common.{◌++◌, ⊎_elim, map, Option, Some, ℕ, sym, subst}
use Rattle.std.proofs.lemmas.List.Elements.{Contains-append_cases}
use Rattle.rr_space.specs.Parts.{below_ref}
use Rattle.rr_space.specs.Views.{key_of}
use Rattle.rr_text.specs.Keys.{place_among}
use Rattle.rr_builtin.specs.declared.built.Built.TheVariants as built
use Rattle.rr_builtin.specs.Acts.{performed, IsDone}
use Rattle.rr_builtin.specs.Hashes.{stored}
use Rattle.rr_builtin.proofs.Among.{among_of}
use Rattle.rr_builtin.proofs.Performing.{writable, read_led}
use Rattle.rr_builtin.proofs.Storing.{written_keys}
use Rattle.rr_builtin.proofs.Putting.{first_of, pair_is, IsPut, put_done, put_served}
use Rattle.rr_builtin.proofs.hashes.store.Goals as goal

pub returns-in-Ok-clause-act : goal.returns-in-Ok-clause-act
returns-in-Ok-clause-act c = λ below read named among.
    let t = c.args.space.now in
    let new = c.write_pair.new.self in
    let v = c.args.hash in
    let key = key_of c.args.key in
    let a = c.args.name in
    let x = c.args.value in
    let w = writable t v c.requires.hash.0 in
    let k = written_keys t v w c.len-count.ensures.well in
    let put : IsPut t new v w k.0 key a x = record {
      present = λ i h. let q = c.in-Ok.ensures.present w.slot i w.object k.0 w.named w.here k.1 h in (q.1, q.2);
      absent = λ out. c.in-Ok.ensures.absent w.slot w.object k.0 w.named w.here k.1 out;
    } in
    subst (λ (r : Option ℕ). IsDone below (performed (stored key r a x t) v t) t new (built.Value x)) (sym (pair_is below t v key k.0 k.2))
    (put_done below t new v w k.0 key a x (place_among key (map (λ y. Some y) k.0)) (first_of key k.0) put k.1 k.2 c.requires.named c.write_pair.ensures.rest
    (read_led below (below_ref a ++ below_ref x) t new w.slot read (c.in-Ok.ensures.below w.slot w.named)
    (λ e has. ⊎_elim (among_of below a named e) (among_of below x among e) (Contains-append_cases (below_ref a) (below_ref x) e has))) c.requires.value among)

pub returns-in-Ok-clause-served : goal.returns-in-Ok-clause-served
returns-in-Ok-clause-served c =
    let t = c.args.space.now in
    let new = c.write_pair.new.self in
    let v = c.args.hash in
    let key = key_of c.args.key in
    let w = writable t v c.requires.hash.0 in
    let k = written_keys t v w c.len-count.ensures.well in
    let put : IsPut t new v w k.0 key c.args.name c.args.value = record {
      present = λ i h. let q = c.in-Ok.ensures.present w.slot i w.object k.0 w.named w.here k.1 h in (q.1, q.2);
      absent = λ out. c.in-Ok.ensures.absent w.slot w.object k.0 w.named w.here k.1 out;
    } in
    put_served t new v w k.0 key c.args.name c.args.value (place_among key (map (λ y. Some y) k.0)) (first_of key k.0) put c.write_pair.ensures.rest c.requires.value
