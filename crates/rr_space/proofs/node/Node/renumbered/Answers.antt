use Rattle.std.proofs.Common.{refl, sym, subst}
use Rattle.rr_space.specs.Parts.{raised_parts}
use Rattle.rr_space.specs.Views.{node_parts}
use Rattle.rr_space.proofs.Renumbered.{MayAll, may_item, may_field, may_pair, zip_places, zip_fields, zip_pairs, zip_keys}
use Rattle.rr_space.proofs.node.Node.renumbered.Goals as goal

pub renumbered-requires : goal.renumbered-requires
renumbered-requires g c =
    let M = g.R.Renumber.may c.args.by.now in
    may_item M c.in-Array.items (subst (λ n. MayAll M (node_parts n)) c.in-Array.is c.requires)

pub renumber_entries-requires : goal.renumber_entries-requires
renumber_entries-requires g c =
    let M = g.R.Renumber.may c.args.by.now in
    rw c.deref_mut.ensures.value (may_pair M 0 c.in-Hash.entries.value.entries (subst (λ n. MayAll M (node_parts n)) c.in-Hash.is c.requires))

pub renumber_fields-requires : goal.renumber_fields-requires
renumber_fields-requires g c =
    let M = g.R.Renumber.may c.args.by.now in
    may_field M c.in-Object.fields.items (subst (λ n. MayAll M (node_parts n)) c.in-Object.is c.requires)

pub renumber_raised-requires : goal.renumber_raised-requires
renumber_raised-requires g c =
    let M = g.R.Renumber.may c.args.by.now in
    subst (λ r. MayAll M (raised_parts r)) (sym c.deref_mut-in-Exception.ensures.value) (subst (λ n. MayAll M (node_parts n)) c.in-Exception.is c.requires)

pub returns-in-Array-clause-parts : goal.returns-in-Array-clause-parts
returns-in-Array-clause-parts g c = rw c.in-Array.is (zip_places (g.R.Renumber.gives c.args.by.now) 0 c.in-Array.items c.renumbered.result c.renumbered.ensures)

pub returns-in-Hash-clause-parts : goal.returns-in-Hash-clause-parts
returns-in-Hash-clause-parts g c =
    rw c.in-Hash.is
    (zip_pairs (g.R.Renumber.gives c.args.by.now) 0 c.in-Hash.entries.value.entries c.renumber_entries.new.entries.entries (rw c.deref_mut.ensures.value at c.renumber_entries.ensures))

pub returns-in-Hash-clause-head : goal.returns-in-Hash-clause-head
returns-in-Hash-clause-head g c =
    rw c.in-Hash.is (record {
      kind = refl;
      class = refl;
      bytes = refl;
      keys = zip_keys (g.R.Renumber.gives c.args.by.now) c.in-Hash.entries.value.entries c.renumber_entries.new.entries.entries (rw c.deref_mut.ensures.value at c.renumber_entries.ensures);
    })

pub returns-in-Object-clause-parts : goal.returns-in-Object-clause-parts
returns-in-Object-clause-parts g c = rw c.in-Object.is (zip_fields (g.R.Renumber.gives c.args.by.now) c.in-Object.fields.items c.renumber_fields.new.fields.items c.renumber_fields.ensures)

pub returns-in-Exception-clause-parts : goal.returns-in-Exception-clause-parts
returns-in-Exception-clause-parts g c = rw c.in-Exception.is (rw c.deref_mut-in-Exception.ensures.value at c.renumber_raised.ensures)
