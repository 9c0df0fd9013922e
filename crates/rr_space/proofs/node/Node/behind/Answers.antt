use Rattle.std.proofs.Common.{map, ◌∙◌, ap, refl}
use Rattle.rr_space.specs.Parts.{places_from, pairs_from, field_part}
use Rattle.rr_space.specs.Views.{entry_pair, entry_key}
use Rattle.rr_space.proofs.Shifting.{places_behind, pairs_behind, keys_behind, fields_behind}
use Rattle.rr_space.proofs.node.Node.behind.Goals as goal

pub returns-in-Array-clause-parts : goal.returns-in-Array-clause-parts
returns-in-Array-clause-parts c = rw c.in-Array.is (ap (places_from 0) c.behind.ensures ∙ places_behind c.args.count c.in-Array.items 0)

pub returns-in-Hash-clause-parts : goal.returns-in-Hash-clause-parts
returns-in-Hash-clause-parts c =
    rw c.in-Hash.is (ap (λ es. pairs_from 0 (map entry_pair es)) (rw c.deref_mut.ensures.value at c.entries_behind.ensures) ∙ pairs_behind c.args.count c.in-Hash.entries.value.entries 0)

pub returns-in-Hash-clause-head : goal.returns-in-Hash-clause-head
returns-in-Hash-clause-head c =
    rw c.in-Hash.is (record {
      kind = refl;
      class = refl;
      bytes = refl;
      keys = ap (map entry_key) (rw c.deref_mut.ensures.value at c.entries_behind.ensures) ∙ keys_behind c.args.count c.in-Hash.entries.value.entries;
    })

pub returns-in-Object-clause-parts : goal.returns-in-Object-clause-parts
returns-in-Object-clause-parts c = rw c.in-Object.is (ap (map field_part) c.fields_behind.ensures ∙ fields_behind c.args.count c.in-Object.fields.items)
