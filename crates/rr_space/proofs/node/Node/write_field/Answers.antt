use Rattle.std.proofs.Common.{◌∷◌, List, map, ap, refl}
use Rattle.rr_base.specs.declared.name.Sym.{Sym}
use Rattle.rr_space.specs.Graph.{Label, Field, Message, Cause, Ractor}
use Rattle.rr_space.specs.Parts.{field_part}
use Rattle.rr_space.specs.declared.refer.Ref.{Ref}
use Rattle.rr_space.proofs.Fielding.{SetsField, written, raised_written, written_within, written_below, object_present, object_absent, raised_present, raised_absent}
use Rattle.rr_space.proofs.Writing.{on_err}
use Rattle.rr_space.proofs.node.Node.write_field.Goals as goal

pub returns-in-Object-clause-written : goal.returns-in-Object-clause-written
returns-in-Object-clause-written c =
    let q = c.set_field in
    let old = c.in-Object.fields.items in
    let t : Label × Ref = (Field c.args.name.0, c.args.value) in
    let s : SetsField old q.new.fields.items c.args.name c.args.value q.result = record { present = q.ensures.present; absent = q.ensures.absent; refused = q.ensures.refused } in
    let w = written old q.new.fields.items c.args.name c.args.value q.result s in
    record {
      present = λ i first.
          let p = object_present old q.new.fields.items c.args.name c.args.value q.result s i (rw c.in-Object.is at first) in
          (p.0, λ kind. rw c.in-Object.is p.1);
      absent = λ kind out. rw c.in-Object.is (object_absent old q.new.fields.items c.args.name c.args.value q.result s (rw c.in-Object.is at out));
      refused = on_err q.result _ _ (λ same. rw c.in-Object.is (ap (λ (fs : List (Sym × Ref)). map field_part fs) same)) s.refused;
      one = record {
        grown = record {
          head = rw c.in-Object.is (record { kind = refl; class = refl; bytes = refl });
          within = λ m all v. written_within m _ _ t w (rw c.in-Object.is at all) v;
          below = λ e has. rw c.in-Object.is (written_below _ _ t w e has);
        };
        keys = rw c.in-Object.is refl;
      };
    }

pub returns-in-Exception-clause-written : goal.returns-in-Exception-clause-written
returns-in-Exception-clause-written c =
    let q = c.set_field-in-Exception in
    let e = c.in-Exception.raised.value in
    let t : Label × Ref = (Field c.args.name.0, c.args.value) in
    let s0 : SetsField c.deref_mut.result.now.fields.items q.new.fields.items c.args.name c.args.value q.result = record { present = q.ensures.present; absent = q.ensures.absent; refused = q.ensures.refused } in
    let s : SetsField e.fields.items q.new.fields.items c.args.name c.args.value q.result = rw c.deref_mut.ensures.value at s0 in
    let w = raised_written e.fields.items q.new.fields.items c.args.name c.args.value (Message, e.message) (Cause, e.cause) (Ractor, e.ractor) q.result s in
    record {
      present = λ i first.
          let p = raised_present e.fields.items q.new.fields.items c.args.name c.args.value e.message e.cause e.ractor q.result s i (rw c.in-Exception.is at first) in
          (p.0, λ kind. rw (c.in-Exception.is, c.deref_mut.ensures.value) p.1);
      absent = λ kind out.
          rw (c.in-Exception.is, c.deref_mut.ensures.value)
          (raised_absent e.fields.items q.new.fields.items c.args.name c.args.value e.message e.cause e.ractor q.result s (rw c.in-Exception.is at out));
      refused = on_err q.result _ _
          (λ same. rw (c.in-Exception.is, c.deref_mut.ensures.value) (ap (λ (fs : List (Sym × Ref)). (Message, e.message) ∷ (Cause, e.cause) ∷ (Ractor, e.ractor) ∷ map field_part fs) same)) s.refused;
      one = record {
        grown = record {
          head = rw c.in-Exception.is (record { kind = refl; class = refl; bytes = refl });
          within = λ m all v. rw c.deref_mut.ensures.value (written_within m _ _ t w (rw c.in-Exception.is at all) v);
          below = λ x has. rw c.in-Exception.is (written_below _ _ t w x (rw c.deref_mut.ensures.value at has));
        };
        keys = rw c.in-Exception.is refl;
      };
    }
