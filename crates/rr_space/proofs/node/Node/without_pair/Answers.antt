use Rattle.std.proofs.Common.{ℕ, List, ◌++◌, Contains, ap, ◌∙◌, sym, map, slice_get, remove, subst, IfSome}
use Rattle.std.specs.Option.{option_map}
use Rattle.std.proofs.lemmas.Option.{slice_get-map}
use Rattle.rr_space.specs.Graph.{Object}
use Rattle.rr_space.specs.Parts.{pairs_from, below_ref, below_parts}
use Rattle.rr_space.specs.Views.{entry_pair, entry_key, node_pairs, node_keys, AllWithin, IsWithin}
use Rattle.rr_space.proofs.Removing.{map_remove, pairs_without_within, pair_within, pairs_without_below}
use Rattle.rr_space.proofs.Knowing.{pair_below}
use Rattle.rr_space.proofs.node.Node.without_pair.Goals as goal

pub returns-in-Hash-clause-taken : goal.returns-in-Hash-clause-taken
returns-in-Hash-clause-taken c = λ kind.
    let es = c.in-Hash.entries.value.entries in
    c.without_key-taken.ensures ∙ ap (option_map entry_pair) (rw c.deref_mut.ensures.value at c.shift_remove_index.ensures.entry)
    ∙ sym (slice_get-map entry_pair es c.args.place) ∙ ap (λ n. slice_get (node_pairs n) c.args.place) (sym c.in-Hash.is)

pub returns-in-Hash-clause-pairs : goal.returns-in-Hash-clause-pairs
returns-in-Hash-clause-pairs c = λ kind.
    ap (map entry_pair) (rw c.deref_mut.ensures.value at c.shift_remove_index.ensures.entries)
    ∙ map_remove entry_pair c.in-Hash.entries.value.entries c.args.place ∙ ap (λ n. remove (node_pairs n) c.args.place) (sym c.in-Hash.is)

pub returns-in-Hash-clause-keys : goal.returns-in-Hash-clause-keys
returns-in-Hash-clause-keys c = λ kind.
    ap (map entry_key) (rw c.deref_mut.ensures.value at c.shift_remove_index.ensures.entries)
    ∙ map_remove entry_key c.in-Hash.entries.value.entries c.args.place ∙ ap (λ n. remove (node_keys n) c.args.place) (sym c.in-Hash.is)

pub returns-in-Hash-clause-within : goal.returns-in-Hash-clause-within
returns-in-Hash-clause-within c = λ m all.
    let es = c.in-Hash.entries.value.entries in
    let ps = map entry_pair es in
    let all2 : AllWithin m (pairs_from 0 ps) = rw c.in-Hash.is at all in
    let left = ap (map entry_pair) (rw c.deref_mut.ensures.value at c.shift_remove_index.ensures.entries) ∙ map_remove entry_pair es c.args.place in
    let taken = c.without_key-taken.ensures ∙ ap (option_map entry_pair) (rw c.deref_mut.ensures.value at c.shift_remove_index.ensures.entry) ∙ sym (slice_get-map entry_pair es c.args.place) in (
      subst (λ qs. AllWithin m (pairs_from 0 qs)) (sym left) (pairs_without_within m ps c.args.place 0 0 all2),
      subst (λ o. IfSome o (λ p. IsWithin m p.0 × IsWithin m p.1)) (sym taken) (pair_within m ps c.args.place 0 all2),
    )

pub returns-in-Hash-clause-below : goal.returns-in-Hash-clause-below
returns-in-Hash-clause-below c = λ e has.
    let es = c.in-Hash.entries.value.entries in
    let ps = map entry_pair es in
    let left = ap (map entry_pair) (rw c.deref_mut.ensures.value at c.shift_remove_index.ensures.entries) ∙ map_remove entry_pair es c.args.place in
    rw c.in-Hash.is (pairs_without_below ps c.args.place 0 0 e (rw left at has))

pub returns-in-Hash-clause-below_taken : goal.returns-in-Hash-clause-below_taken
returns-in-Hash-clause-below_taken c =
    let es = c.in-Hash.entries.value.entries in
    let ps = map entry_pair es in
    let taken = c.without_key-taken.ensures ∙ ap (option_map entry_pair) (rw c.deref_mut.ensures.value at c.shift_remove_index.ensures.entry) ∙ sym (slice_get-map entry_pair es c.args.place) in
    rw c.in-Hash.is (subst (λ o. IfSome o (λ p. (e : ℕ × List Object) → Contains (below_ref p.0 ++ below_ref p.1) e → Contains (below_parts (pairs_from 0 ps)) e)) (sym taken) (pair_below ps 0 c.args.place))
