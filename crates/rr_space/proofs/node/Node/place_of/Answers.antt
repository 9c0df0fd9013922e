use Rattle.std.proofs.Common.{map, IfSome, arith, ap, MatchOption, Contains, subst, sym}
use Rattle.rr_space.specs.Views.{key_of, node_keys, node_parts, node_kind, entry_pair}
use Rattle.rr_space.specs.Views.{IsFirstAt}
use Rattle.rr_space.specs.declared.node.Node.{Node}
use Rattle.rr_space.proofs.Keys.{key_eq, keys_decide, place_is}
use Rattle.rr_space.specs.Labels.{IsPairThere}
use Rattle.rr_space.specs.Lookups.{AreDistinct}
use Rattle.rr_space.specs.Parts.{value_triple}
use Rattle.std.proofs.lemmas.List.{length-map}
use Rattle.rr_space.proofs.Finding.{pair_there, keys_distinct}
use Rattle.rr_space.proofs.Knowing.{if_some}
use Rattle.rr_space.proofs.node.Node.place_of.Goals as goal

pub returns-in-Hash-clause-first : goal.returns-in-Hash-clause-first
returns-in-Hash-clause-first c =
    let key = c.args.key.now in
    let es = c.in-Hash.entries.value.entries in
    subst (λ (n : Node). MatchOption c.get_index_of.result (Contains (node_keys n) (key_of key) → ⊥) (IsFirstAt (node_keys n) (key_of key))) (sym c.in-Hash.is)
    (place_is (key_eq key) key_of (key_of key) (keys_decide key) es c.get_index_of.result
    (rw c.deref-in-Hash.ensures at c.get_index_of.ensures.index) (rw c.deref-in-Hash.ensures at c.get_index_of.ensures.found))

pub returns-in-Hash-clause-there : goal.returns-in-Hash-clause-there
returns-in-Hash-clause-there c =
    let es = c.in-Hash.entries.value.entries in
    subst (λ (n : Node). IfSome c.get_index_of.result (λ i. IsPairThere (map value_triple (node_parts n)) i)) (sym c.in-Hash.is)
    (if_some c.get_index_of.result _ _ (λ i lt. pair_there (map entry_pair es) i (omega (arith, lt, length-map es entry_pair))) (rw c.deref-in-Hash.ensures at c.get_index_of.ensures.within))

pub returns-in-Hash-clause-none : goal.returns-in-Hash-clause-none
returns-in-Hash-clause-none c = λ no. absurd (no (ap node_kind c.in-Hash.is))

pub returns-in-Hash-clause-distinct : goal.returns-in-Hash-clause-distinct
returns-in-Hash-clause-distinct c =
    subst (λ (n : Node). AreDistinct (node_keys n)) (sym c.in-Hash.is) (keys_distinct c.in-Hash.entries.value.entries (rw c.deref.ensures at c.len.ensures.unique))
