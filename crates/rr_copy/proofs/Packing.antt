-- What the copies of a space's objects make as a message.
use Rattle.std.proofs.Common.{◌≡◌, ◌↔◌, ◌⊎◌, ◌<◌, ◌≤◌, ◌^◌, ⊎_elim, inr, ℕ, nat_eq, List, [], ◌∷◌, ◌++◌, length, map, slice_get, Some, Contains, sym, ap, ◌∙◌, subst, refl, arith}
use Rattle.std.proofs.lemmas.Option.{same_Some, slice_get_within}
use Rattle.std.proofs.lemmas.Bool.{eqb-true}
use Rattle.std.proofs.lemmas.Map.Steps.{length-le_from_distinct_below}
use Rattle.std.proofs.lemmas.Map.Views.{Contains-from_any}
use Rattle.std.proofs.lemmas.List.{length-map}
use Rattle.std.proofs.lemmas.List.Elements.{Contains-append_left, Contains-append_right, Contains-append_cases}
use Rattle.std.specs.List.{AllZip, IsDistinct}
use Rattle.std.specs.Option.{option_and_then}
use Rattle.rr_space.specs.Graph.{Graph, Name, Own, Value, At, Label, Object, shell, Leads, Reaches}
use Rattle.rr_space.specs.Graph.{SameValue, Alike, IsAt}
use Rattle.rr_space.specs.Moves.{IsCopy, IsPromoted}
use Rattle.rr_space.specs.Tables.{Below, Slot, Here, Table, joined, object_in, resolve, resolve_object, space_graph, message_graph, IsBelow, IsSealed}
use Rattle.rr_space.specs.Sound.{IsWell}
use Rattle.rr_space.specs.Parts.{value_of, below_ref}
use Rattle.rr_space.specs.Views.{IsWithin}
use Rattle.rr_space.specs.Views.{AllCarriedWithin, carried_object, carried_below, carried_keys}
use Rattle.rr_space.specs.declared.carried.Carried.{Carried}
use Rattle.rr_space.specs.declared.refer.Ref.{Ref}
use Rattle.rr_space.specs.declared.refer.Ref.TheVariants.{Nil, False, True, Int, Symbol, Class, Ractor, Local, Shared}
use Rattle.rr_space.proofs.Renaming.{contains_at, mapped_at, map_at}
use Rattle.rr_space.proofs.Sounds.{gets, joined_back, sound_is_sealed}
use Rattle.rr_share.proofs.Ends.{none_reached}
use Rattle.rr_share.proofs.Searching.{none_in}
use Rattle.rr_copy.specs.Contents.{packed_of, IsMessage, IsCarriedFrom}
use Rattle.rr_copy.proofs.Contained.{ref_inside, message_at, message_sealed}
use Rattle.rr_share.proofs.Places.{none_distinct, one_place}
use Rattle.rr_share.proofs.Zips.{zip_length}
use Rattle.rr_space.proofs.Zips.{zip_at, zip_back}
use Rattle.rr_copy.proofs.Pairings.{paired_objects_alike}

-- slots without repeats, each of which is there, are at most as many as there are
pub few_names : (names : List ℕ) (slots : List Slot) → IsDistinct nat_eq names → ((n : ℕ) → Contains names n → (o : Object) × (slice_get slots n ≡ Some (Here o)) × (o.kind ≡ shell → ⊥)) → length names ≤ length slots
few_names names slots distinct there = length-le_from_distinct_below names (length slots) distinct (λ n e. let o = there n (Contains-from_any (λ x y same. eqb-true x y same) n names e) in slice_get_within slots n (Here o.0) o.1)

pub none_contained : (xs : List ℕ) → ((n : ℕ) → Contains xs n → ⊥) → xs ≡ []
none_contained [] none = refl
none_contained (x ∷ xs) none = absurd (none x (0, omega arith, refl))

-- ---- paths

one_more : (g : Graph) (path : List Label) (v : Value) (n m : Name) (o : Object) (l : Label) → Leads g v path (At n) → g n ≡ Some o → Contains o.triples (l, At m) → Leads g v (path ++ l ∷ []) (At m)
one_more g [] v n m o l e is has = (At m, (n, o, e, is, has), refl)
one_more g (k ∷ path) v n m o l (x, under, rest) is has = (x, under, one_more g path x n m o l rest is has)

-- what an object that is reached has is reached
pub reaches_more : (t : Table) (v : Value) (n m : ℕ) (o : Object) (l : Label) → Reaches (space_graph t) v (Own n) → slice_get t.slots n ≡ Some (Here o)
    → Contains (resolve_object t.slots o).triples (l, At (Own m)) → Reaches (space_graph t) v (Own m)
reaches_more t v n m o l reach at has = (reach.0 ++ l ∷ [], one_more (space_graph t) reach.0 v (Own n) (Own m) (resolve_object t.slots o) l reach.1 (ap (option_and_then (object_in t.slots)) at) has)

-- ---- a message

carried_within : (t : Table) (names xs : List ℕ) (cs : List Carried) → AllZip (IsCarriedFrom t names) xs cs → AllCarriedWithin (length names) cs
carried_within t names [] [] z = tt
carried_within t names [] (c ∷ cs) z = absurd z
carried_within t names (x ∷ xs) [] z = absurd z
carried_within t names (x ∷ xs) (c ∷ cs) z = (z.0.within, carried_within t names xs cs z.1)

-- the copies of what a promoted value leads to
pub record IsPack (t : Table) (v : Ref) (names : List ℕ) (cs : List Carried) (root : Ref) : Type 0 where
  pub sealed : IsSealed (space_graph t)
  pub promoted : IsPromoted t (value_of v)
  pub exact : (n : ℕ) → Contains names n ↔ Reaches (space_graph t) (resolve t.slots (value_of v)) (Own n)
  pub whole : (n : ℕ) → Contains names n → (o : Object) × (slice_get t.slots n ≡ Some (Here o)) × (o.kind ≡ shell → ⊥)
  pub distinct : IsDistinct nat_eq names
  pub copies : AllZip (IsCarriedFrom t names) names cs
  pub roots : SameValue (IsAt names) (resolve t.slots (value_of v)) (value_of root)
  pub within : IsWithin (length names) root
  pub below : (e : ℕ × List Object) → Contains (below_ref root) e → Contains (joined t.below) e ⊎ Contains (below_ref v) e

pub pack_of : (t : Table) (v : Ref) (names : List ℕ) (cs : List Carried) (root : Ref) → IsWell t → IsPromoted t (value_of v) → IsWithin (length t.slots) v
    → ((n : ℕ) → Contains names n ↔ Reaches (space_graph t) (resolve t.slots (value_of v)) (Own n))
    → (IsBelow (length t.slots) (value_of v) → (n : ℕ) → Contains names n → (o : Object) × (slice_get t.slots n ≡ Some (Here o)) × (o.kind ≡ shell → ⊥))
    → IsDistinct nat_eq names → AllZip (IsCarriedFrom t names) names cs
    → SameValue (IsAt names) (resolve t.slots (value_of v)) (value_of root) → (IsWithin (length t.slots) v → IsWithin (length names) root)
    → ((e : ℕ × List Object) → Contains (below_ref root) e → Contains (joined t.below) e ⊎ Contains (below_ref v) e)
    → IsPack t v names cs root
pack_of t v names cs root well promoted there exact whole distinct copies roots within below = record {
  sealed = sound_is_sealed t.slots t.below well.sound;
  promoted = promoted;
  exact = exact;
  whole = whole (ref_inside (length t.slots) v there);
  distinct = distinct;
  copies = copies;
  roots = roots;
  within = within there;
  below = below;
}

-- what is no slot of the space goes as it is
same_outside : (slots : List Slot) (v : Ref) → ((s : ℕ) → v ≡ Local s → ⊥) → SameValue (IsAt []) (resolve slots (value_of v)) (value_of v)
same_outside slots Nil outside = refl
same_outside slots False outside = refl
same_outside slots True outside = refl
same_outside slots (Int z) outside = refl
same_outside slots (Symbol s) outside = refl
same_outside slots (Class c) outside = refl
same_outside slots (Ractor r) outside = refl
same_outside slots (Local n) outside = absurd (outside n refl)
same_outside slots (Shared p c) outside = (refl, refl)

within_outside : (k m : ℕ) (v : Ref) → ((s : ℕ) → v ≡ Local s → ⊥) → IsWithin k v → IsWithin m v
within_outside k m Nil outside h = tt
within_outside k m False outside h = tt
within_outside k m True outside h = tt
within_outside k m (Int z) outside h = tt
within_outside k m (Symbol s) outside h = tt
within_outside k m (Class c) outside h = tt
within_outside k m (Ractor r) outside h = tt
within_outside k m (Local n) outside h = absurd (outside n refl)
within_outside k m (Shared p c) outside h = h

pub pack_none : (t : Table) (v : Ref) (cs : List Carried) → IsWell t → IsPromoted t (value_of v) → IsWithin (length t.slots) v → ((s : ℕ) → v ≡ Local s → ⊥) → cs ≡ [] → IsPack t v [] cs v
pack_none t v cs well promoted there outside none =
    pack_of t v [] cs v well promoted there
    (λ n. (λ has. absurd (none_in n has), λ r. absurd (none_reached t v well.sound outside n r)))
    (λ below n has. absurd (none_in n has))
    none_distinct
    (subst (AllZip (IsCarriedFrom t []) []) (sym none) tt)
    (same_outside t.slots v outside)
    (within_outside (length t.slots) 0 v outside)
    (λ e has. inr has)

module _ (t : Table) (v : Ref) (names : List ℕ) (cs : List Carried) (root : Ref) (p : IsPack t v names cs root) where
  count : length names ≡ length cs
  count = zip_length (IsCarriedFrom t names) names cs p.copies

  objects_within : AllCarriedWithin (length cs) cs
  objects_within = subst (λ k. AllCarriedWithin k cs) count (carried_within t names names cs p.copies)

  root_within : IsWithin (length cs) root
  root_within = subst (λ k. IsWithin k root) count p.within

  pack_alike : (sender sequence : ℕ) → Alike (space_graph t) (resolve t.slots (value_of v)) (message_graph (packed_of cs root sender sequence)) (value_of root) (IsAt names)
  pack_alike sender sequence =
      let m = packed_of cs root sender sequence in
      paired_objects_alike (space_graph t) (resolve t.slots (value_of v)) (message_graph m) (value_of root) (IsAt names) (record {
        left_sealed = p.sealed;
        right_sealed = message_sealed cs root sender sequence objects_within root_within;
        roots = p.roots;
        same = λ n i at.
            let c = zip_at (IsCarriedFrom t names) names cs i n p.copies at in
            let o = p.whole n (contains_at names i n at) in (
              resolve_object t.slots o.0,
              carried_object c.0,
              ap (option_and_then (object_in t.slots)) o.1,
              message_at m i (carried_object c.0) (map_at carried_object cs i c.0 c.1),
              c.2.matches o.0 o.1,
            );
        part = λ n i at. let r = (p.exact n).0 (contains_at names i n at) in (r, p.promoted n r);
        one_left = λ n i j a b. one_place names n i j p.distinct a b;
        one_right = λ n k i a b. same_Some n k (sym a ∙ b);
      })

  pub pack_is_message : length names < 2 ^ 32 → IsMessage cs root
  pack_is_message few = record {
    few = omega (arith, few, count);
    objects_within = objects_within;
    root_within = root_within;
    parts = λ i lt.
        let n = gets names i (omega (arith, lt, length-map cs carried_object, count)) in
        (pack_alike 0 0).right n.0 i n.1;
  }

  pub pack_is_copy : (sender sequence : ℕ) → IsCopy t (value_of v) names (packed_of cs root sender sequence)
  pack_is_copy sender sequence = record {
    alike = pack_alike sender sequence;
    size = length-map cs carried_object ∙ sym count;
    keys = λ n i at. let c = zip_at (IsCarriedFrom t names) names cs i n p.copies at in map_at carried_keys cs i c.0 c.1 ∙ sym c.2.keys;
  }

  -- the clusters of the message are known to the space, or come with the value
  pub pack_below : (e : ℕ × List Object) → Contains (below_ref root ++ joined (map carried_below cs)) e → Contains (joined t.below ++ below_ref v) e
  pack_below e has = ⊎_elim
      (λ r. ⊎_elim (Contains-append_left (joined t.below) (below_ref v) e) (Contains-append_right (joined t.below) (below_ref v) e) (p.below e r))
      (λ r.
      let b = joined_back (map carried_below cs) e r in
      let c = mapped_at carried_below cs b.0 b.1 b.2 in
      let f = zip_back (IsCarriedFrom t names) names cs b.0 c.0 p.copies c.1 in
      Contains-append_left (joined t.below) (below_ref v) e (f.2.below e (subst (λ (y : Below). Contains y e) (sym c.2) b.3)))
      (Contains-append_cases (below_ref root) (joined (map carried_below cs)) e has)
