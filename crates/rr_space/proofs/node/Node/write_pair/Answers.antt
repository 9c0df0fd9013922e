use Rattle.std.proofs.Common.{refl}
use Rattle.rr_space.proofs.Entering.{with_present, with_absent, with_refused, with_within, with_below}
use Rattle.rr_space.proofs.node.Node.write_pair.Goals as goal

pub returns-in-Hash-clause-written : goal.returns-in-Hash-clause-written
returns-in-Hash-clause-written c =
    let w = c.put_pair in
    let es = c.in-Hash.entries.value.entries in
    let new = w.new.entries.entries in
    let made = rw c.deref_mut.ensures.value at w.ensures.entries in
    let kept = rw c.deref_mut.ensures.value at w.ensures.refused in
    record {
      present = λ i kind first. rw c.in-Hash.is (with_present es new c.args.key c.args.name c.args.value w.result i made (rw c.deref_mut.ensures.value at w.ensures.absent) (rw c.in-Hash.is at first));
      absent = λ kind out. rw c.in-Hash.is (with_absent es new c.args.key c.args.name c.args.value w.result made (rw c.in-Hash.is at out));
      refused = rw c.in-Hash.is (with_refused es new c.args.key c.args.name c.args.value w.result kept);
      grown = record {
        head = rw c.in-Hash.is (record { kind = refl; class = refl; bytes = refl });
        within = λ k all inside. with_within es new c.args.key c.args.name c.args.value w.result made kept k (rw c.in-Hash.is at all) inside.0 inside.1;
        below = λ e has. rw c.in-Hash.is (with_below es new c.args.key c.args.name c.args.value w.result made kept e has);
      };
    }
