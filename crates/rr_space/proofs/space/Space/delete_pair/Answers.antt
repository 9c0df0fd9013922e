use Rattle.std.proofs.Common.{ℕ, Contains, ◌≡◌, ◌↔◌, ◌<◌, List, [], length, map, remove, slice_get, slice_set, Some, IsSome, IfSome, inl, ap, sym, ◌∙◌, subst}
use Rattle.std.specs.Option.{option_map}
use Rattle.std.proofs.lemmas.Option.{slice_get-map}
use Rattle.rr_space.specs.Graph.{Object, Value, hash}
use Rattle.rr_space.specs.Tables.{Here, joined}
use Rattle.rr_space.specs.Parts.{value_triple}
use Rattle.rr_space.specs.Views.{below_node, IsNodeWithin, IsLedAlso, node_kind, node_pairs, node_keys}
use Rattle.rr_space.specs.Views.{paired_from, pair_values}
use Rattle.rr_space.proofs.Removing.{hash_parts, hash_values, hash_count, values_paired}
use Rattle.rr_space.proofs.Standing.{mid_size, kind_of_node, on_some, on_none, some_within, of_object, of_keys, of_place, slots_are, keys_are, led_also, put_same}
use Rattle.std.proofs.lemmas.List.Elements.{Contains-append_left, Contains-append_right}
use Rattle.rr_space.specs.Parts.{below_ref}
use Rattle.rr_space.proofs.Knowing.{if_some}
use Rattle.rr_space.proofs.Sounds.{joined_in}
use Rattle.rr_space.proofs.space.Space.delete_pair.Goals as goal

pub put-requires-clause-within : goal.put-requires-clause-within
put-requires-clause-within c =
    subst (λ k. IsNodeWithin k c.without_pair-changed.result.0) (sym (mid_size c.args.self.now c.take.new.self c.in-Local.slot c.in-Whole.ensures.rest))
    (c.without_pair-changed.ensures.within (length c.args.self.now.slots) c.in-Whole.ensures.within).0

pub returns-in-Whole-clause-slots : goal.returns-in-Whole-clause-slots
returns-in-Whole-clause-slots c =
    let t = c.args.self.now in
    let a = c.in-Whole.node in
    let b = c.without_pair-changed.result.0 in
    let r = c.without_pair-changed.result.1 in
    let f = c.in-Whole.frozen in
    let slot = c.in-Local.slot in
    let s = c.in-Whole.ensures.stood in
    let kind : node_kind a ≡ hash = kind_of_node t slot c.args.hash a f hash c.in-Local.is s c.requires.kind in
    let kind2 : node_kind b ≡ hash = c.without_pair-changed.ensures.head.kind ∙ kind in
    let ps = map pair_values (node_pairs a) in
    of_object t c.take.new.self c.put.new.self slot c.args.hash a b f c.in-Local.is s c.in-Whole.ensures.rest c.put.ensures
    (λ n o. IfSome r (λ p. (ps : List (Value × Value)) × (o.triples ≡ paired_from 0 ps) × (slice_get ps c.args.place ≡ Some (pair_values p))
    × (c.put.new.self.slots ≡ slice_set t.slots n (Here (record o { triples = paired_from 0 (remove ps c.args.place) })))))
    (on_some r _ (λ p is. (
      ps,
      ap (map value_triple) (hash_parts a kind) ∙ values_paired (node_pairs a) 0,
      slice_get-map pair_values (node_pairs a) c.args.place ∙ ap (option_map pair_values) (sym (c.without_pair-changed.ensures.taken kind) ∙ is),
      slots_are t c.take.new.self c.put.new.self slot c.args.hash a b f c.in-Local.is s c.in-Whole.ensures.rest c.put.ensures
          (paired_from 0 (remove ps c.args.place)) c.without_pair-changed.ensures.head (hash_values a b c.args.place kind kind2 (c.without_pair-changed.ensures.pairs kind)),
    )))

pub returns-in-Whole-clause-keys : goal.returns-in-Whole-clause-keys
returns-in-Whole-clause-keys c =
    let t = c.args.self.now in
    let a = c.in-Whole.node in
    let b = c.without_pair-changed.result.0 in
    let r = c.without_pair-changed.result.1 in
    let f = c.in-Whole.frozen in
    let slot = c.in-Local.slot in
    let s = c.in-Whole.ensures.stood in
    let kind : node_kind a ≡ hash = kind_of_node t slot c.args.hash a f hash c.in-Local.is s c.requires.kind in
    of_keys t c.take.new.self c.put.new.self slot c.args.hash a b f c.in-Local.is s c.in-Whole.ensures.rest c.put.ensures
    (λ n ks. (IsSome r ↔ (c.args.place < length ks)) × (c.put.new.self.keys ≡ slice_set t.keys n (remove ks c.args.place))) (
      subst (λ k. IsSome r ↔ (c.args.place < k)) (sym (hash_count a))
          (subst (λ o. IsSome o ↔ (c.args.place < length (node_pairs a))) (sym (c.without_pair-changed.ensures.taken kind)) (some_within (node_pairs a) c.args.place)),
      keys_are t c.take.new.self c.put.new.self slot c.args.hash a b f c.in-Local.is s c.in-Whole.ensures.rest c.put.ensures
          (remove (node_keys a) c.args.place) (c.without_pair-changed.ensures.keys kind),
    )

pub returns-in-Whole-clause-below : goal.returns-in-Whole-clause-below
returns-in-Whole-clause-below c =
    let t = c.args.self.now in
    let a = c.in-Whole.node in
    let b = c.without_pair-changed.result.0 in
    of_place t c.take.new.self c.put.new.self c.in-Local.slot c.args.hash a b c.in-Whole.frozen c.in-Local.is c.in-Whole.ensures.stood c.in-Whole.ensures.rest c.put.ensures
    (λ n. IsLedAlso [] n t.below c.put.new.self.below)
    (led_also t c.take.new.self c.put.new.self c.in-Local.slot c.args.hash a b c.in-Whole.frozen c.in-Local.is c.in-Whole.ensures.stood c.in-Whole.ensures.rest c.put.ensures
    [] (λ e has. inl (c.without_pair-changed.ensures.below e has)))

pub returns-in-Whole-clause-within : goal.returns-in-Whole-clause-within
returns-in-Whole-clause-within c = (c.without_pair-changed.ensures.within (length c.args.self.now.slots) c.in-Whole.ensures.within).1

pub returns-in-Whole-clause-none : goal.returns-in-Whole-clause-none
returns-in-Whole-clause-none c =
    let t = c.args.self.now in
    let a = c.in-Whole.node in
    let b = c.without_pair-changed.result.0 in
    on_none c.without_pair-changed.result.1 _ _
    (λ same. put_same t c.take.new.self c.put.new.self c.in-Local.slot c.args.hash a b c.in-Whole.frozen c.in-Local.is c.in-Whole.ensures.stood c.in-Whole.ensures.rest c.put.ensures
    c.without_pair-changed.ensures.head same.0 same.1)
    c.without_pair-changed.ensures.none

pub returns-in-Whole-clause-known : goal.returns-in-Whole-clause-known
returns-in-Whole-clause-known c =
    let t = c.args.self.now in
    let known : (e : ℕ × List Object) → Contains (below_node c.in-Whole.node) e → Contains (joined t.below) e = λ e h. joined_in t.below c.in-Local.slot (below_node c.in-Whole.node) e c.in-Whole.ensures.stood.below h in
    if_some c.without_pair-changed.result.1 _ _
    (λ p inside. (
      λ e has. known e (inside e (Contains-append_left (below_ref p.0) (below_ref p.1) e has)),
      λ e has. known e (inside e (Contains-append_right (below_ref p.0) (below_ref p.1) e has)),
    ))
    c.without_pair-changed.ensures.below_taken
