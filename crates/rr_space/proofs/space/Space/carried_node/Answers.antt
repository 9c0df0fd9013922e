use Rattle.std.proofs.Common.{subst, sym, refl}
use Rattle.rr_space.specs.Parts.{raised_parts}
use Rattle.rr_space.specs.Views.{node_parts}
use Rattle.rr_space.proofs.Carrying.{AreKnown, known_item, known_field, known_pair, zip_places, zip_pairs, zip_fields, zip_keys}
use Rattle.rr_space.proofs.space.Space.carried_node.Goals as goal

pub carried_items-requires-clause-known : goal.carried_items-requires-clause-known
carried_items-requires-clause-known c =
    known_item c.args.self.now c.args.names.now c.in-Array.items (subst (λ n. AreKnown c.args.self.now c.args.names.now (node_parts n)) c.in-Array.is c.requires.known)

pub carried_entries-requires-clause-known : goal.carried_entries-requires-clause-known
carried_entries-requires-clause-known c =
    rw c.deref-in-Hash.ensures
    (known_pair c.args.self.now c.args.names.now 0 c.in-Hash.entries.value.entries (subst (λ n. AreKnown c.args.self.now c.args.names.now (node_parts n)) c.in-Hash.is c.requires.known))

pub carried_fields-requires-clause-known : goal.carried_fields-requires-clause-known
carried_fields-requires-clause-known c =
    rw c.deref-in-Object.ensures.value
    (known_field c.args.self.now c.args.names.now c.in-Object.fields.items (subst (λ n. AreKnown c.args.self.now c.args.names.now (node_parts n)) c.in-Object.is c.requires.known))

pub carried_raised-requires-clause-known : goal.carried_raised-requires-clause-known
carried_raised-requires-clause-known c =
    subst (λ r. AreKnown c.args.self.now c.args.names.now (raised_parts r)) (sym c.deref-in-Exception.ensures)
    (subst (λ n. AreKnown c.args.self.now c.args.names.now (node_parts n)) c.in-Exception.is c.requires.known)

pub returns-in_ok-carried_items-in-Array-clause-parts : goal.returns-in_ok-carried_items-in-Array-clause-parts
returns-in_ok-carried_items-in-Array-clause-parts c =
    rw c.in-Array.is (zip_places c.args.self.now c.args.names.now 0 c.in-Array.items c.in_ok-carried_items-in-Array.field-0 c.in_ok-carried_items-in-Array.ensures.items)

pub returns-in_ok-carried_entries-in-Hash-clause-parts : goal.returns-in_ok-carried_entries-in-Hash-clause-parts
returns-in_ok-carried_entries-in-Hash-clause-parts c =
    let copy = c.in_ok-carried_entries-in-Hash in
    rw c.in-Hash.is
    (zip_pairs c.args.self.now c.args.names.now 0 c.in-Hash.entries.value.entries copy.field-0.value.entries (rw c.deref-in-Hash.ensures at copy.ensures.entries))

pub returns-in_ok-carried_entries-in-Hash-clause-head : goal.returns-in_ok-carried_entries-in-Hash-clause-head
returns-in_ok-carried_entries-in-Hash-clause-head c =
    let copy = c.in_ok-carried_entries-in-Hash in
    rw c.in-Hash.is
    (record {
      kind = refl;
      class = refl;
      bytes = refl;
      keys = zip_keys c.args.self.now c.args.names.now c.in-Hash.entries.value.entries copy.field-0.value.entries (rw c.deref-in-Hash.ensures at copy.ensures.entries);
    })

pub returns-in_ok-fields-in-Object-clause-parts : goal.returns-in_ok-fields-in-Object-clause-parts
returns-in_ok-fields-in-Object-clause-parts c =
    let copy = c.in_ok-fields-in-Object in
    rw c.in-Object.is (zip_fields c.args.self.now c.args.names.now c.in-Object.fields.items copy.fields.items (rw c.deref-in-Object.ensures.value at copy.ensures.fields))

pub returns-in_ok-raised-in-Exception-clause-parts : goal.returns-in_ok-raised-in-Exception-clause-parts
returns-in_ok-raised-in-Exception-clause-parts c = rw c.in-Exception.is (rw c.deref-in-Exception.ensures at c.in_ok-raised-in-Exception.ensures.parts)
