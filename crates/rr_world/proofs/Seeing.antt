-- What a ractor's value leads to in its space and in the whole graph.
use Rattle.std.proofs.Common.{◌≡◌, ℕ, ◌<◌, ◌⊎◌, ⊎_elim, inl, inr, List, [], ◌∷◌, length, map, Option, Some, None, slice_get, sym, ap, ◌∙◌, subst, refl, arith}
use Rattle.std.specs.Prelude.{slice_index}
use Rattle.std.specs.Option.{option_map, option_and_then}
use Rattle.std.proofs.lemmas.List.{length-map}
use Rattle.std.proofs.lemmas.Option.{same_Some}
use Rattle.rr_space.specs.Graph.{Graph, Name, Own, Published, Value, Plain, At, Label, Object, Leads, Reaches, IsShareable, IsFreeOfShells}
use Rattle.rr_space.specs.Tables.{Slot, Here, Led, Below, Embeds, There, IsPublished, IsSealed, renamed_object, numbered_object, joined, space_graph, published_at, resolve, resolve_slot, resolve_object, object_in}
use Rattle.rr_space.specs.Moves.{IsPromoted}
use Rattle.rr_space.specs.Parts.{value_of, below_ref, IsWithin}
use Rattle.rr_space.specs.Sound.{HasPlaceIn, IsWell}
use Rattle.rr_space.specs.Readings.{Owner, Space, Shared, Objects, Naming, Layout, HasPlace, Knows, IsApart, IsShared, IsSharedValue, whole, name_in}
use Rattle.rr_space.specs.declared.refer.Ref.{Ref}
use Rattle.rr_space.specs.declared.refer.Ref.TheVariants as ref
use Rattle.rr_space.proofs.Renaming.{leads_back, reaches_on, shares_on, shares_back}
use Rattle.rr_space.proofs.Apart.{readings_are_apart}
use Rattle.rr_space.proofs.Sounds.{finds, gets, joined_in, sound_is_sealed, sound_is_shut}
use Rattle.rr_space.proofs.Spaces.{entry_of, known_at, spaces_are_inside, raw_of}
use Rattle.rr_share.specs.Search.{LeadsToShell}
use Rattle.rr_world.specs.Views.{Member, Assembly, seen_slots}
use Rattle.rr_world.specs.Layouts.{layout, space_slots, IsRead}
use Rattle.rr_world.specs.Readings.{value_in, root_in, state_in}
use Rattle.rr_world.specs.Enabling.{AreShareablesShared}
use Rattle.rr_world.specs.PlanCases.{IsToPublish}
use Rattle.rr_world.proofs.Forwarding.{seen_plain}
use Rattle.rr_world.proofs.Published.{in_place, place_shared, leads_shared, shared_solid, owner_shared, sealed_path}

there_end : (g : Graph) (f : Name → Name) (gs : Graph) → Embeds g f gs → (path : List Label) (v : Value) (n : Name) → There g v → Leads g v path (At n) → There g (At n)
there_end g f gs E [] v n there e = subst (There g) e there
there_end g f gs E (l ∷ path) v n there (x, (k, o, is, here, has), rest) = there_end g f gs E path x n (E.shut k o l x here has) rest

-- the reference is an immediate, or a slot of the space
abbrev pub IsOfSpace : Ref → Type 0
IsOfSpace (ref.Shared p c) = ⊥
IsOfSpace _ = Unit {0}

-- a place of a cluster that is known has an object
pub place_there : (below : Below) (tables : Layout) → Knows below tables → (c p : ℕ) → HasPlaceIn below c p → (o : Object) × (published_at below c p ≡ Some o)
place_there below tables K c p (os, has, lt) =
    let f = finds below c os has in
    let a = K.known c os has in
    let b = K.known c f.0 (entry_of below c f.0 f.1) in
    let raws : map Here a.0 ≡ map Here b.0 = same_Some _ _ (sym a.1 ∙ b.1) in
    let same : length os ≡ length f.0 =
    ap length (sym a.2) ∙ length-map a.0 (numbered_object c) ∙ sym (length-map a.0 Here) ∙ ap length raws ∙ length-map b.0 Here ∙ sym (length-map b.0 (numbered_object c)) ∙ ap length b.2 in
    let o = gets f.0 p (omega (arith, same, lt)) in
    (o.0, ap (option_and_then (λ (l : List Object). slice_get l p)) f.1 ∙ o.1)

pub space_table : (w : Assembly) (k : ℕ) (m : Member) → slice_get w.ractors k ≡ Some m → layout w (Space k) ≡ Some (seen_slots m)
unfolding layout
space_table w k m at = ap (option_map space_slots) at

-- a value has one name with and without its forward followed
pub value_resolved : (w : Assembly) (names : Naming) (bound : ℕ) (g : Objects) → IsRead w names bound g → (k : ℕ) (m : Member) → slice_get w.ractors k ≡ Some m → (x : Value)
    → value_in names (Space k) (resolve (seen_slots m) x) ≡ value_in names (Space k) x
value_resolved w names bound g R k m at (Plain n) = refl
value_resolved w names bound g R k m at (At (Published d q)) = refl
value_resolved w names bound g R k m at (At (Own i)) = on (slice_get (seen_slots m) i) refl
  where
    on : (y : Option Slot) → slice_get (seen_slots m) i ≡ y → value_in names (Space k) (At (resolve_slot (slice_get (seen_slots m) i) i)) ≡ At (Own (slice_index (names (Space k)) i))
    on None e = ap (λ z. value_in names (Space k) (At (resolve_slot z i))) e
    on (Some (Here o)) e = ap (λ z. value_in names (Space k) (At (resolve_slot z i))) e
    on (Some (Led d q)) e = ap (λ z. value_in names (Space k) (At (resolve_slot z i))) e ∙ ap (λ z. At (Own z)) (sym ((R.tables.reads (Space k) (seen_slots m) (space_table w k m at)).led i d q e))

module _ (w : Assembly) (names : Naming) (bound : ℕ) (g : Objects) (R : IsRead w names bound g) (k : ℕ) (m : Member) (v : Ref) (at : slice_get w.ractors k ≡ Some m) (plain : m.published ≡ None)
    (well : IsWell m.space) (within : IsWithin (length m.space.slots) v) (knows : Knows (below_ref v) (layout w)) where
  pub apart : (c : ℕ) → Space k ≡ Shared c → ⊥
  apart c e = cc

  pub is_space : layout w (Space k) ≡ Some m.space.slots
  is_space = space_table w k m at ∙ ap (λ (ss : List Slot). Some ss) (seen_plain m plain)

  space_known : Knows (joined m.space.below) (layout w)
  space_known = (R.knows.ractors k m at).space

  pub inside : Embeds (space_graph m.space) (name_in names (Space k)) (whole g)
  inside = spaces_are_inside (layout w) names bound g (Space k) m.space R.tables is_space apart space_known (sound_is_shut (layout w) m.space.slots m.space.below well.sound space_known)

  place_seen : (c p : ℕ) (o : Object) → space_graph m.space (Published c p) ≡ Some o → HasPlace (layout w) c p
  place_seen c p o e = let a = known_at (joined m.space.below) (layout w) space_known c p o e in (a.0, a.1, a.2, a.3)

  pub is_sealed : IsSealed (space_graph m.space)
  is_sealed = sound_is_sealed m.space.slots m.space.below well.sound

  pub all_apart : IsApart g
  all_apart = readings_are_apart (layout w) names bound g R.tables R.clusters

  -- the value leads to the space, or it is published, and shared in the whole graph
  pub held : IsOfSpace v ⊎ (IsPublished (resolve m.space.slots (value_of v)) × IsSharedValue g (root_in names (Space k) v))
  held = by v within knows
    where
      by : (r : Ref) → IsWithin (length m.space.slots) r → Knows (below_ref r) (layout w) → IsOfSpace r ⊎ (IsPublished (resolve m.space.slots (value_of r)) × IsSharedValue g (root_in names (Space k) r))
      by ref.Nil h K = inl tt
      by ref.False h K = inl tt
      by ref.True h K = inl tt
      by (ref.Int b) h K = inl tt
      by (ref.Symbol b) h K = inl tt
      by (ref.Class b) h K = inl tt
      by (ref.Ractor b) h K = inl tt
      by (ref.Local s) h K = inl tt
      by (ref.Shared p c) h K = inr (tt, place_shared (layout w) names bound g R.tables (Space k) c.now.number p (in_place (layout w) (length m.space.slots) (ref.Shared p c) h K))

  slot_there : (s : ℕ) → s < length m.space.slots → There (space_graph m.space) (At (resolve_slot (slice_get m.space.slots s) s))
  slot_there s lt = by (gets m.space.slots s lt).0 (gets m.space.slots s lt).1
    where
      by : (x : Slot) → slice_get m.space.slots s ≡ Some x → There (space_graph m.space) (At (resolve_slot (slice_get m.space.slots s) s))
      by (Here o) e n is =
          let name : n ≡ Own s = let y : At (Own s) ≡ At n = ap (λ z. At (resolve_slot z s)) (sym e) ∙ is in cc in
          (resolve_object m.space.slots o, ap (space_graph m.space) name ∙ ap (option_and_then (object_in m.space.slots)) e)
      by (Led c p) e n is =
          let b = gets m.space.below s (let y = well.sound.count in omega arith) in
          let h = well.sound.slots s (Led c p) b.0 e b.1 in
          let x = place_there (joined m.space.below) (layout w) space_known c p (h.0, joined_in m.space.below s b.0 (c, h.0) b.1 h.1, h.2) in
          let name : n ≡ Published c p = let y : At (Published c p) ≡ At n = ap (λ z. At (resolve_slot z s)) (sym e) ∙ is in cc in
          (x.0, ap (space_graph m.space) name ∙ x.1)

  pub there : IsOfSpace v → There (space_graph m.space) (resolve m.space.slots (value_of v))
  there own = by v within own
    where
      by : (r : Ref) → IsWithin (length m.space.slots) r → IsOfSpace r → There (space_graph m.space) (resolve m.space.slots (value_of r))
      by ref.Nil h K n e = let y : ⊥ = cc in absurd y
      by ref.False h K n e = let y : ⊥ = cc in absurd y
      by ref.True h K n e = let y : ⊥ = cc in absurd y
      by (ref.Int b) h K n e = let y : ⊥ = cc in absurd y
      by (ref.Symbol b) h K n e = let y : ⊥ = cc in absurd y
      by (ref.Class b) h K n e = let y : ⊥ = cc in absurd y
      by (ref.Ractor b) h K n e = let y : ⊥ = cc in absurd y
      by (ref.Local s) h K n e = slot_there s h n e
      by (ref.Shared p c) h K n e = absurd K

  pub resolved : value_in names (Space k) (resolve m.space.slots (value_of v)) ≡ root_in names (Space k) v
  resolved = ap (λ (ss : List Slot). value_in names (Space k) (resolve ss (value_of v))) (sym (seen_plain m plain)) ∙ value_resolved w names bound g R k m at (value_of v)

  -- what is reached in the whole graph is reached in the space
  back : IsOfSpace v → (n : Name) → Reaches (whole g) (root_in names (Space k) v) n
      → (q : Name) × (name_in names (Space k) q ≡ n) × Reaches (space_graph m.space) (resolve m.space.slots (value_of v)) q × There (space_graph m.space) (At q)
  back own n r =
      let b = leads_back (space_graph m.space) (name_in names (Space k)) (whole g) inside r.0 (resolve m.space.slots (value_of v)) n (there own)
      (subst (λ x. Leads (whole g) x r.0 (At n)) (sym resolved) r.1) in
      (b.0, b.1, (r.0, b.2), b.3)

  on : (n : Name) → Reaches (space_graph m.space) (resolve m.space.slots (value_of v)) n → Reaches (whole g) (root_in names (Space k) v) (name_in names (Space k) n)
  on n r = subst (λ x. Reaches (whole g) x (name_in names (Space k) n)) resolved (reaches_on (space_graph m.space) (name_in names (Space k)) (whole g) inside (resolve m.space.slots (value_of v)) n r)

  pub shared_of : IsPromoted m.space (value_of v) → AreShareablesShared g (root_in names (Space k) v)
  shared_of promoted n y reach here share = ⊎_elim
      (λ own. let b = back own (Own n) reach in by b.0 b.1 b.2 b.3)
      (λ h. owner_shared g n y (leads_shared g all_apart reach.0 (root_in names (Space k) v) (At (Own n)) h.1 reach.1) here)
      held
    where
      by : (q : Name) → name_in names (Space k) q ≡ Own n → Reaches (space_graph m.space) (resolve m.space.slots (value_of v)) q → There (space_graph m.space) (At q) → IsShared y.owner
      by (Own i) is r t = absurd (promoted i r (shares_back (space_graph m.space) (name_in names (Space k)) (whole g) inside (At (Own i)) (subst (λ z. IsShareable (whole g) (At z)) (sym is) share)))
      by (Published c p) is r t =
          let o = t (Published c p) refl in
          owner_shared g n y (subst (λ z. IsSharedValue g (At z)) is (place_shared (layout w) names bound g R.tables (Space k) c p (place_seen c p o.0 o.1))) here

  own_promoted : IsOfSpace v → AreShareablesShared g (root_in names (Space k) v) → IsPromoted m.space (value_of v)
  own_promoted own shared i reach share =
      let t = there_end (space_graph m.space) (name_in names (Space k)) (whole g) inside reach.0 (resolve m.space.slots (value_of v)) (Own i) (there own) reach.1 in
      let o = t (Own i) refl in
      let raw = raw_of (layout w) names bound g (Space k) m.space R.tables is_space i o.0 o.1 in
      let here = (R.tables.reads (Space k) m.space.slots is_space).here i raw.0 raw.1 in
      let is = shared (slice_index (names (Space k)) i) _ (on (Own i) reach) here (shares_on (space_graph m.space) (name_in names (Space k)) (whole g) inside (At (Own i)) t share) in
      apart is.0 is.1

  pub promoted_of : AreShareablesShared g (root_in names (Space k) v) → IsPromoted m.space (value_of v)
  promoted_of shared i reach share = ⊎_elim (λ own. own_promoted own shared i reach share) (λ h. sealed_path (space_graph m.space) is_sealed reach.0 (resolve m.space.slots (value_of v)) i h.0 reach.1) held

  own_free : IsOfSpace v → IsFreeOfShells (space_graph m.space) (resolve m.space.slots (value_of v)) → IsFreeOfShells (whole g) (root_in names (Space k) v)
  own_free own free n o reach here is =
      let b = back own n reach in
      let p = b.3 b.0 refl in
      let same : renamed_object (name_in names (Space k)) p.0 ≡ o = same_Some _ _ (sym (inside.here b.0 p.0 p.1) ∙ ap (whole g) b.1 ∙ here) in
      free b.0 p.0 b.2 p.1 (ap (λ (x : Object). x.kind) same ∙ is)

  pub free_of : IsFreeOfShells (space_graph m.space) (resolve m.space.slots (value_of v)) → IsFreeOfShells (whole g) (root_in names (Space k) v)
  free_of free n o reach here is = ⊎_elim (λ own. own_free own free n o reach here is) (λ h. (shared_solid g all_apart (root_in names (Space k) v) h.1 n o reach here).no_shell is) held

  pub shell_of : LeadsToShell (space_graph m.space) (resolve m.space.slots (value_of v)) → LeadsToShell (whole g) (root_in names (Space k) v)
  shell_of (n, o, reach, here, is) = (name_in names (Space k) n, renamed_object (name_in names (Space k)) o, on n reach, inside.here n o here, is)

  not_shared : (h : Owner) → h ≡ Space k → IsShared h → ⊥
  not_shared h own shared = apart shared.0 (sym own ∙ shared.1)

  -- what is reached and shareable in the space is to be published
  pub planned_here : (i : ℕ) → Reaches (space_graph m.space) (resolve m.space.slots (value_of v)) (Own i) → IsShareable (space_graph m.space) (At (Own i))
      → IsToPublish k (root_in names (Space k) v) (state_in w names g) (slice_index (names (Space k)) i)
  planned_here i reach share = ⊎_elim on_own (λ h. absurd (sealed_path (space_graph m.space) is_sealed reach.0 (resolve m.space.slots (value_of v)) i h.0 reach.1)) held
    where
      on_own : IsOfSpace v → IsToPublish k (root_in names (Space k) v) (state_in w names g) (slice_index (names (Space k)) i)
      on_own own =
          let t = there_end (space_graph m.space) (name_in names (Space k)) (whole g) inside reach.0 (resolve m.space.slots (value_of v)) (Own i) (there own) reach.1 in
          let o = t (Own i) refl in
          let raw = raw_of (layout w) names bound g (Space k) m.space R.tables is_space i o.0 o.1 in
          let here = (R.tables.reads (Space k) m.space.slots is_space).here i raw.0 raw.1 in
          record { owned = _; here = here; own = refl; reached = on (Own i) reach; shareable = shares_on (space_graph m.space) (name_in names (Space k)) (whole g) inside (At (Own i)) t share }

  -- and there is nothing else
  pub planned_back : (n : ℕ) → IsToPublish k (root_in names (Space k) v) (state_in w names g) n
      → (i : ℕ) × (slice_index (names (Space k)) i ≡ n) × Reaches (space_graph m.space) (resolve m.space.slots (value_of v)) (Own i) × IsShareable (space_graph m.space) (At (Own i))
  planned_back n T = ⊎_elim
      (λ own. let b = back own (Own n) T.reached in by b.0 b.1 b.2 b.3)
      (λ h. absurd (not_shared T.owned.owner T.own (owner_shared g n T.owned (leads_shared g all_apart T.reached.0 (root_in names (Space k) v) (At (Own n)) h.1 T.reached.1) T.here)))
      held
    where
      by : (q : Name) → name_in names (Space k) q ≡ Own n → Reaches (space_graph m.space) (resolve m.space.slots (value_of v)) q → There (space_graph m.space) (At q)
          → (i : ℕ) × (slice_index (names (Space k)) i ≡ n) × Reaches (space_graph m.space) (resolve m.space.slots (value_of v)) (Own i) × IsShareable (space_graph m.space) (At (Own i))
      by (Own i) is r t =
          let e : Own (slice_index (names (Space k)) i) ≡ Own n = is in
          (i, cc, r, shares_back (space_graph m.space) (name_in names (Space k)) (whole g) inside (At (Own i)) (subst (λ z. IsShareable (whole g) (At z)) (sym is) T.shareable))
      by (Published c p) is r t =
          let o = t (Published c p) refl in
          absurd (not_shared T.owned.owner T.own
          (owner_shared g n T.owned (subst (λ z. IsSharedValue g (At z)) is (place_shared (layout w) names bound g R.tables (Space k) c p (place_seen c p o.0 o.1))) T.here))
