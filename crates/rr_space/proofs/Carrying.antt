-- Lists whose references are carried one after another.
use Rattle.std.proofs.Common.{◌≡◌, ℕ, zero, suc, ◌+◌, ◌<◌, ◌≤◌, ◌⊎◌, inl, inr, Bool, true, false, List, [], ◌∷◌, ◌++◌, length, take, map, slice_get, get_or, Option, Some, None, Contains, IsTrue, refl, sym, ap, ◌∙◌, subst, arith, ⊎_elim}
use Rattle.std.specs.List.{AllZip, AllByRecursion, IsDistinct}
use Rattle.std.specs.Map.{keys_of}
use Rattle.std.specs.Option.{option_map}
use Rattle.std.proofs.lemmas.Bool.{false≢true}
use Rattle.std.proofs.lemmas.List.Elements.{all_zip_more, Contains-append_left, Contains-append_right, Contains-append_cases}
use Rattle.std.proofs.lemmas.Option.{same_Some, none-some, slice_get_within, get_or_from_slice_get, slice_get_read, slice_get-map}
use Rattle.indexmap.specs.IndexMap.{insert_entry}
use Rattle.indexmap.proofs.MapLemmas.{insert_entry-absent}
use Rattle.rr_base.specs.declared.name.Sym.{Sym}
use Rattle.rr_space.specs.Graph.{Own, At, Label, Place, Field, KeyAt, ValueAt, Object}
use Rattle.rr_space.specs.Graph.{IsAt, SameTriple, Matches}
use Rattle.rr_space.specs.Tables.{Slot, Here, Table, joined, resolve_triple, resolve_object}
use Rattle.rr_space.specs.Parts.{Parts, field_part, places_from, pairs_from, raised_parts, value_triple, below_ref, below_parts}
use Rattle.rr_space.specs.Parts.{AllWithin}
use Rattle.rr_space.specs.Views.{key_of, entry_key, entry_pair, node_object, node_parts, below_node, is_whole, slot_of, IsHeadKept, StandsAt, IsHeldWithin, AllHeldWithin}
use Rattle.rr_space.specs.Views.{IsKnown, IsCarried, IsCarriedPart, IsCarriedField, IsCarriedEntry}
use Rattle.rr_space.specs.declared.refer.Ref.{Ref}
use Rattle.rr_space.specs.declared.refer.Raised.{Raised}
use Rattle.rr_space.specs.declared.node.Key.{Key}
use Rattle.rr_space.specs.declared.node.Node.{Node}
use Rattle.rr_space.specs.declared.node.Held.{Held}
use Rattle.rr_space.specs.declared.node.Held.TheVariants.{Whole, Shell, Forward}
use Rattle.rr_space.proofs.Keys.{key_eq, keys_decide}
use Rattle.rr_space.proofs.Listing.{place_first}
use Rattle.rr_space.proofs.Entering.{Entries}
use Rattle.rr_space.proofs.Parting.{held_within}
use Rattle.rr_space.proofs.Placing.{table_of, stands, count_is}
use Rattle.rr_space.proofs.Sounds.{joined_in}

-- one more of each list
pub more_at : {X : Type 0} (R : X → X → Type 0) (xs ys : List X) (i : ℕ) (x y : X) → slice_get xs i ≡ Some x → AllZip R (take i xs) ys → R x y → AllZip R (take (i + 1) xs) (ys ++ y ∷ [])
more_at R xs ys i x y at h r = all_zip_more R xs ys i x y (slice_get_within xs i x at) (sym (get_or_from_slice_get xs i x x at)) h r

pub apart_at : (P : Key → Type 0) (es : Entries) (i : ℕ) (e : Key × (Ref × Ref)) → AllByRecursion P (keys_of es) → slice_get es i ≡ Some e → P e.0
apart_at P [] i e all at = absurd (none-some e at)
apart_at P (x ∷ es) zero e all at = subst (λ (y : Key × (Ref × Ref)). P y.0) (same_Some x e at) all.0
apart_at P (x ∷ es) (suc i) e all at = apart_at P es i e all.1 at

module _ (t : Table) (names : List ℕ) where
  abbrev pub AreCarried : Entries → Entries → Type 0
  AreCarried es cs = AllZip (IsCarriedEntry t names) es cs

  -- the key of a later entry is none of the earlier ones
  pub fresh_key : (es cs : Entries) (i : ℕ) (e : Key × (Ref × Ref)) (k : Key) → IsDistinct key_eq (keys_of es) → slice_get es i ≡ Some e → AreCarried (take i es) cs → key_of e.0 ≡ key_of k → AllByRecursion (λ y. key_eq k y ≡ false) (keys_of cs)
  unfolding IsDistinct
  fresh_key [] cs i e k apart at h same = absurd (none-some e at)
  fresh_key (x ∷ es) [] i e k apart at h same = tt
  fresh_key (x ∷ es) (c ∷ cs) zero e k apart at h same = absurd h
  fresh_key (x ∷ es) (c ∷ cs) (suc i) e k apart at h same = (by (key_eq k c.0) refl, fresh_key es cs i e k apart.1 at h.1 same)
    where
      by : (b : Bool) → key_eq k c.0 ≡ b → key_eq k c.0 ≡ false
      by true q = absurd (false≢true (sym (apart_at (λ y. key_eq x.0 y ≡ false) es i e apart.0 at) ∙ (keys_decide x.0 e.0).1 (h.0.key ∙ sym ((keys_decide k c.0).0 q) ∙ sym same)))
      by false q = q

  -- one more entry under a key of its own
  pub entry_more : (es cs new : Entries) (i : ℕ) (e : Key × (Ref × Ref)) (k : Key) (v : Ref × Ref) → IsDistinct key_eq (keys_of es) → slice_get es i ≡ Some e → AreCarried (take i es) cs
      → IsCarriedEntry t names e (k, v) → new ≡ insert_entry key_eq cs k v → AreCarried (take (i + 1) es) new
  entry_more es cs new i e k v apart at h r is =
      subst (AreCarried (take (i + 1) es)) (sym (is ∙ insert_entry-absent key_eq k v cs (fresh_key es cs i e k apart at h r.key)))
      (more_at (IsCarriedEntry t names) es cs i e (k, v) at h r)

-- short lists, element by element
module _ {X : Type 0} (R : X → X → Type 0) where
  pub zip_none : (xs ys : List X) → slice_get xs 0 ≡ None → ys ≡ [] → AllZip R xs ys
  zip_none [] ys e is = subst (AllZip R []) (sym is) tt
  zip_none (x ∷ xs) ys e is = absurd (none-some x (sym e))

  pub zip_one : (xs ys : List X) (x y : X) → slice_get xs 0 ≡ Some x → slice_get xs 1 ≡ None → R x y → ys ≡ y ∷ [] → AllZip R xs ys
  zip_one [] ys x y e f r is = absurd (none-some x e)
  zip_one (a ∷ []) ys x y e f r is = subst (AllZip R (a ∷ [])) (sym is) (subst (λ v. R v y) (sym (same_Some a x e)) r, tt)
  zip_one (a ∷ b ∷ xs) ys x y e f r is = absurd (none-some b (sym f))

  pub zip_two : (xs ys : List X) (x z y w : X) → slice_get xs 0 ≡ Some x → slice_get xs 1 ≡ Some z → length xs ≤ 2 → R x y → R z w → ys ≡ y ∷ w ∷ [] → AllZip R xs ys
  zip_two [] ys x z y w e f few r s is = absurd (none-some x e)
  zip_two (a ∷ []) ys x z y w e f few r s is = absurd (none-some z f)
  zip_two (a ∷ b ∷ []) ys x z y w e f few r s is =
      subst (AllZip R (a ∷ b ∷ [])) (sym is) (subst (λ v. R v y) (sym (same_Some a x e)) r, (subst (λ v. R v w) (sym (same_Some b z f)) s, tt))
  zip_two (a ∷ b ∷ c ∷ xs) ys x z y w e f few r s is = absurd (let no : ⊥ = omega (arith, few) in no)

-- the parts of nodes whose references are carried
module _ (t : Table) (names : List ℕ) where
  abbrev pub AreParts : Parts → Parts → Type 0
  AreParts ps qs = AllZip (IsCarriedPart t names) ps qs

  pub zip_fields : (fs gs : List (Sym × Ref)) → AllZip (IsCarriedField t names) fs gs → AreParts (map field_part fs) (map field_part gs)
  zip_fields [] [] h = tt
  zip_fields [] (g ∷ gs) h = absurd h
  zip_fields (f ∷ fs) [] h = absurd h
  zip_fields (f ∷ fs) (g ∷ gs) h = (record { label = ap (λ (s : Sym). Field s.0) h.0.name; value = h.0.value }, zip_fields fs gs h.1)

  pub zip_raised : (r s : Raised) → IsCarried t names r.message s.message → IsCarried t names r.cause s.cause → IsCarried t names r.ractor s.ractor
      → AllZip (IsCarriedField t names) r.fields.items s.fields.items → AreParts (raised_parts r) (raised_parts s)
  zip_raised r s message cause ractor fields = (
    record { label = refl; value = message },
    (record { label = refl; value = cause }, (record { label = refl; value = ractor }, zip_fields r.fields.items s.fields.items fields)),
  )

  pub zip_places : (j : ℕ) (rs ss : List Ref) → AllZip (IsCarried t names) rs ss → AreParts (places_from j rs) (places_from j ss)
  zip_places j [] [] h = tt
  zip_places j [] (s ∷ ss) h = absurd h
  zip_places j (r ∷ rs) [] h = absurd h
  zip_places j (r ∷ rs) (s ∷ ss) h = (record { label = refl; value = h.0 }, zip_places (j + 1) rs ss h.1)

  pub zip_pairs : (j : ℕ) (es fs : Entries) → AllZip (IsCarriedEntry t names) es fs → AreParts (pairs_from j (map entry_pair es)) (pairs_from j (map entry_pair fs))
  zip_pairs j [] [] h = tt
  zip_pairs j [] (f ∷ fs) h = absurd h
  zip_pairs j (e ∷ es) [] h = absurd h
  zip_pairs j (e ∷ es) (f ∷ fs) h = (record { label = refl; value = h.0.name }, (record { label = refl; value = h.0.value }, zip_pairs (j + 1) es fs h.1))

  pub zip_keys : (es fs : Entries) → AllZip (IsCarriedEntry t names) es fs → map entry_key fs ≡ map entry_key es
  zip_keys [] [] h = refl
  zip_keys [] (f ∷ fs) h = absurd h
  zip_keys (e ∷ es) [] h = absurd h
  zip_keys (e ∷ es) (f ∷ fs) h = ap (λ k. k ∷ map entry_key fs) (sym h.0.key) ∙ ap (λ ks. key_of e.0 ∷ ks) (zip_keys es fs h.1)

  -- what a node needs is known of each of its references
  abbrev pub AreKnown : Parts → Type 0
  AreKnown ps = (k : ℕ) (p : Label × Ref) → slice_get ps k ≡ Some p → IsKnown t names p.1

  pub known_item : (rs : List Ref) → AreKnown (places_from 0 rs) → (k : ℕ) (r : Ref) → slice_get rs k ≡ Some r → IsKnown t names r
  known_item rs all k r at = all k (Place k, r) (place_first rs k ∙ ap (option_map (λ (x : Ref). (Place k, x))) at)

  pub known_field : (fs : List (Sym × Ref)) → AreKnown (map field_part fs) → (k : ℕ) (f : Sym × Ref) → slice_get fs k ≡ Some f → IsKnown t names f.1
  known_field fs all k f at = all k (field_part f) (slice_get-map field_part fs k ∙ ap (option_map field_part) at)

  pub known_pair : (j : ℕ) (es : Entries) → AreKnown (pairs_from j (map entry_pair es)) → (k : ℕ) (e : Key × (Ref × Ref)) → slice_get es k ≡ Some e → IsKnown t names e.1.0 × IsKnown t names e.1.1
  known_pair j [] all k e at = absurd (none-some e at)
  known_pair j (x ∷ es) all zero e at =
      subst (λ (y : Key × (Ref × Ref)). IsKnown t names y.1.0 × IsKnown t names y.1.1) (same_Some x e at) (all 0 (KeyAt j, x.1.0) refl, all 1 (ValueAt j, x.1.1) refl)
  known_pair j (x ∷ es) all (suc k) e at = known_pair (j + 1) es (λ i p here. all (suc (suc i)) p here) k e at

  -- what is said of the copy of an object
  pub copied_triples : (ps qs : Parts) → AreParts ps qs → AllZip (SameTriple (IsAt names)) (map (resolve_triple t.slots) (map value_triple ps)) (map value_triple qs)
  copied_triples [] [] h = tt
  copied_triples [] (q ∷ qs) h = absurd h
  copied_triples (p ∷ ps) [] h = absurd h
  copied_triples (p ∷ ps) (q ∷ qs) h = ((h.0.label, h.0.value.same), copied_triples ps qs h.1)

  pub copied_within : (ps qs : Parts) → AreParts ps qs → AllWithin (length t.slots) ps → AllWithin (length names) qs
  copied_within [] [] h all = tt
  copied_within [] (q ∷ qs) h all = absurd h
  copied_within (p ∷ ps) [] h all = absurd h
  copied_within (p ∷ ps) (q ∷ qs) h all = (h.0.value.within all.0, copied_within ps qs h.1 all.1)

  pub copied_below : (ps qs : Parts) → AreParts ps qs → (e : ℕ × List Object) → Contains (below_parts qs) e → Contains (joined t.below) e ⊎ Contains (below_parts ps) e
  copied_below [] [] h e has = inr has
  copied_below [] (q ∷ qs) h e has = absurd h
  copied_below (p ∷ ps) [] h e has = absurd h
  copied_below (p ∷ ps) (q ∷ qs) h e has =
      let a = below_ref p.1 in
      let b = below_parts ps in
      ⊎_elim
      (λ here. ⊎_elim (λ w. inl w) (λ w. inr (Contains-append_left a b e w)) (h.0.value.below e here))
      (λ later. ⊎_elim (λ w. inl w) (λ w. inr (Contains-append_right a b e w)) (copied_below ps qs h.1 e later))
      (Contains-append_cases (below_ref q.1) (below_parts qs) e has)

-- the copy of the object in the slot n
module _ (t : Table) (names : List ℕ) (n : ℕ) (node copy : Node) (frozen : Bool) (here : slice_get t.slots n ≡ Some (Here (node_object node frozen))) where
  pub known_part : ((o : Object) (l : Label) (m : ℕ) → slice_get t.slots n ≡ Some (Here o) → Contains (resolve_object t.slots o).triples (l, At (Own m)) → Contains names m) → AreKnown t names (node_parts node)
  known_part all k p at m e =
      let f = resolve_triple t.slots in
      let ps = node_parts node in
      let read : slice_get (map f (map value_triple ps)) k ≡ Some (p.0, At (Own m)) =
      slice_get-map f (map value_triple ps) k ∙ ap (option_map f) (slice_get-map value_triple ps k ∙ ap (option_map value_triple) at) ∙ ap (λ v. Some (p.0, v)) e in
      all (node_object node frozen) p.0 m here
      (k, slice_get_within (map f (map value_triple ps)) k (p.0, At (Own m)) read, get_or_from_slice_get (map f (map value_triple ps)) k (p.0, At (Own m)) (p.0, At (Own m)) read)

  module _ (parts : AreParts t names (node_parts node) (node_parts copy)) (head : IsHeadKept node copy) where
    pub copy_matches : (o : Object) → slice_get t.slots n ≡ Some (Here o) → Matches (IsAt names) (resolve_object t.slots o) (node_object copy frozen)
    copy_matches o at = subst (λ x. Matches (IsAt names) (resolve_object t.slots x) (node_object copy frozen)) (same (node_object node frozen) o (same_Some _ _ (sym here ∙ at)))
        (record { kind = sym head.kind; class = sym head.class; bytes = sym head.bytes; frozen = refl; triples = copied_triples t names (node_parts node) (node_parts copy) parts })
      where
        same : (o p : Object) → Here o ≡ Here p → o ≡ p
        same o p e = cc

    pub copy_below : slice_get t.below n ≡ Some (below_node node) → (e : ℕ × List Object) → Contains (below_node copy) e → Contains (joined t.below) e
    copy_below at e has = ⊎_elim (λ w. w) (λ w. joined_in t.below n (below_node node) e at w) (copied_below t names (node_parts node) (node_parts copy) parts e has)

-- what stands in the slot of a whole object is that object
pub not_whole : (h : Held) → IsTrue (is_whole (Some (slot_of h))) → ((frozen : Bool) (node : Node) → h ≡ Whole frozen node → ⊥) → ⊥
not_whole (Whole frozen node) whole out = out frozen node refl
not_whole Shell whole out = false≢true whole
not_whole (Forward p c) whole out = false≢true whole

module _ (hs : List Held) (limit owner next : ℕ) (t : Table) (n : ℕ) (h : Held) (is : table_of hs limit owner next ≡ t) (whole : IsTrue (is_whole (slice_get t.slots n))) (here : h ≡ get_or hs n h) where
  held_at : slice_get hs n ≡ Some h
  held_at = slice_get_read hs (length hs) n h refl (by (slice_get t.slots n) refl whole) here
    where
      by : (v : Option Slot) → slice_get t.slots n ≡ v → IsTrue (is_whole v) → n < length hs
      by None q w = absurd (false≢true w)
      by (Some s) q w = omega (arith, slice_get_within t.slots n s q, count_is hs limit owner next t is)

  pub whole_stands : StandsAt t n h
  whole_stands = stands hs limit owner next t n h is held_at

  pub whole_within : AllHeldWithin (length hs) hs → IsHeldWithin (length t.slots) h
  whole_within all = held_within hs limit owner next t n h is all held_at
