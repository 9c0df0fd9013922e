-- What an element that is taken out of an array makes of a space.
use Rattle.std.proofs.Common.{◌≡◌, ◌↔◌, ◌<◌, ℕ, List, [], length, map, remove, slice_get, slice_set, Option, Some, None, IsSome, IfSome, IfNone, inl, ap, sym, ◌∙◌, subst, refl}
use Rattle.std.specs.Option.{option_map}
use Rattle.std.proofs.lemmas.List.{length-map}
use Rattle.std.proofs.lemmas.Option.{slice_get-map}
use Rattle.rr_space.specs.Graph.{Object, Value, array}
use Rattle.rr_space.specs.Tables.{Here, Table}
use Rattle.rr_space.specs.Labels.{triples_at}
use Rattle.rr_space.specs.Kinds.{kind_at, kind_named}
use Rattle.rr_space.specs.Parts.{value_of, value_triple}
use Rattle.rr_space.specs.Views.{below_node, node_parts, node_items, placed_from, with_held, IsLedAlso, IsKnownTo}
use Rattle.rr_space.specs.Writes.{IsElementTaken}
use Rattle.rr_space.specs.declared.refer.Ref.{Ref}
use Rattle.rr_space.specs.declared.refer.Ref.TheVariants.{Local}
use Rattle.rr_space.specs.declared.node.Node.TheVariants.{Array}
use Rattle.rr_space.specs.declared.node.Held.TheVariants.{Shell}
use Rattle.rr_space.proofs.Knowing.{if_some, place_below}
use Rattle.rr_space.proofs.Listing.{length-places_from}
use Rattle.rr_space.proofs.Removing.{array_parts, array_values, values_placed, places_without_within, place_within, places_without_below, remove_past}
use Rattle.rr_space.proofs.Rewriting.{Rewrite, its_kind, its_object, its_below, its_keys, is_same}
use Rattle.rr_space.proofs.Sounds.{joined_in}
use Rattle.rr_space.proofs.Standing.{on_some, on_none, some_within, slots_are}
use Rattle.rr_space.proofs.Writing.{triples_is}

-- an array of which an element was taken
pub node_taken : (old new : List Ref) (place : ℕ) (r : Ref) → slice_get old place ≡ Some r → new ≡ remove old place → IsElementTaken (Array old) (Array new) place (Some r)
node_taken old new place r at e = record {
  taken = λ k. sym at;
  items = λ k. e;
  none = tt;
  within_taken = λ k all. place_within k old place 0 r all at;
  below_taken = λ x has. place_below old place r x at has;
  keys = refl;
  grown = record {
    head = record { kind = refl; class = refl; bytes = refl };
    within = λ k all u. rw e (places_without_within k old place 0 0 all);
    below = λ x has. inl (places_without_below old place 0 0 x (rw e at has));
  };
}

-- an array that has no such element
pub node_untaken : (items : List Ref) (place : ℕ) → slice_get items place ≡ None → IsElementTaken (Array items) (Array items) place None
node_untaken items place none = record {
  taken = λ k. sym none;
  items = λ k. sym (remove_past items place none);
  none = refl;
  within_taken = λ k all. tt;
  below_taken = tt;
  keys = refl;
  grown = record { head = record { kind = refl; class = refl; bytes = refl }; within = λ k all u. all; below = λ x has. inl has };
}

module _ {place : ℕ} {r : Option Ref} {t new : Table} {n : ℕ} (v : Ref) (is : v ≡ Local n) (w : Rewrite (λ a b. IsElementTaken a b place r) t new n) where
  pub take_slots : kind_at t v ≡ kind_named array → (m : ℕ) (o : Object) → v ≡ Local m → slice_get t.slots m ≡ Some (Here o)
      → IfSome r (λ x. (vs : List Value) × (o.triples ≡ placed_from 0 vs) × (slice_get vs place ≡ Some (value_of x)) × (new.slots ≡ slice_set t.slots m (Here (record o { triples = placed_from 0 (remove vs place) }))))
  take_slots array_kind =
      let kind = its_kind v is w array array_kind in
      let vs = map value_of (node_items w.a) in
      its_object v is w
      (λ m o. IfSome r (λ x. (vs : List Value) × (o.triples ≡ placed_from 0 vs) × (slice_get vs place ≡ Some (value_of x)) × (new.slots ≡ slice_set t.slots m (Here (record o { triples = placed_from 0 (remove vs place) })))))
      (on_some r _ (λ x found. (
        vs,
        ap (map value_triple) (array_parts w.a kind) ∙ values_placed (node_items w.a) 0,
        slice_get-map value_of (node_items w.a) place ∙ ap (option_map value_of) (sym (w.how.taken kind) ∙ found),
        slots_are t (with_held t n Shell) new n v w.a w.b w.f is w.stood refl w.into (placed_from 0 (remove vs place)) w.how.grown.head
            (array_values w.a w.b place kind (w.how.grown.head.kind ∙ kind) (w.how.items kind)),
      )))

  pub take_some : kind_at t v ≡ kind_named array → IsSome r ↔ (place < length (triples_at t v))
  take_some array_kind =
      let kind = its_kind v is w array array_kind in
      let count : length (triples_at t v) ≡ length (node_items w.a) =
      ap length (triples_is t n v w.a w.f is w.stood) ∙ length-map (node_parts w.a) value_triple ∙ ap length (array_parts w.a kind) ∙ length-places_from (node_items w.a) 0
      in
      subst (λ k. IsSome r ↔ (place < k)) (sym count)
      (subst (λ o. IsSome o ↔ (place < length (node_items w.a))) (sym (w.how.taken kind)) (some_within (node_items w.a) place))

  pub take_below : (m : ℕ) → v ≡ Local m → IsLedAlso [] m t.below new.below
  take_below = its_below v is w w.how.grown

  pub take_keys : new.keys ≡ t.keys
  take_keys = its_keys v is w w.how.keys

  pub take_none : IfNone r (new ≡ t)
  take_none = on_none r _ _ (λ same. is_same v is w w.how.grown same w.how.keys) w.how.none

  pub take_known : IfSome r (IsKnownTo t)
  take_known = if_some r _ _ (λ x inside e has. joined_in t.below n (below_node w.a) e w.stood.below (inside e has)) w.how.below_taken
