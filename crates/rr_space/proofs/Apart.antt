-- In a graph that is read, what two holders both reach is shared.
use Rattle.std.proofs.Common.{◌≡◌, ℕ, ◌⊎◌, ⊎_elim, inl, inr, List, [], ◌∷◌, slice_get, Option, Some, None, Contains, sym, ap, ◌∙◌, subst, refl}
use Rattle.std.specs.Prelude.{slice_index}
use Rattle.std.proofs.lemmas.Option.{slice_get-get_or, same_Some, none-some}
use Rattle.rr_space.specs.Graph.{Name, Own, Published, Value, Plain, At, Label, Object, Leads, Reaches, IsSolid}
use Rattle.rr_space.specs.Tables.{Slot, Here, Led}
use Rattle.rr_space.specs.Tables.{renamed, renamed_triple}
use Rattle.rr_space.specs.Readings.{AreClustersInOrder, IsSharedValue, Owner, Shared, Owned, Objects, Naming, Layout, name_in, named, whole, object_part, HasPlace, IsInLayout, IsReading, IsShared, IsLocal, ReadingsAreApart, RootsAreLocal}
use Rattle.rr_space.proofs.Renaming.{contains_map_back}
use Rattle.rr_space.proofs.Hands.{some_back}

module _ (tables : Layout) (names : Naming) (bound : ℕ) (g : Objects) (R : IsReading tables names bound g) where
  shared_place : (h : Owner) (c p n : ℕ) → HasPlace tables c p → n ≡ slice_index (names (Shared c)) p → IsLocal h g (At (Own n))
  shared_place h c p n (u, o, e, at) same m is =
      let name : Own n ≡ m = cc in
      (n, _, sym name, ap g same ∙ (R.reads (Shared c) u e).here p o at, inr (c, refl))

  value_local : (h : Owner) (t : List Slot) (v : Value) → tables h ≡ Some t → IsInLayout tables t v → IsLocal h g (renamed (name_in names h) v)
  value_local h t (Plain n) e w = λ m is. plain m is
    where
      plain : (m : Name) → Plain n ≡ At m → (k : ℕ) × (x : Owned) × (m ≡ Own k) × (g k ≡ Some x) × ((x.owner ≡ h) ⊎ IsShared x.owner)
      plain m is = let z : ⊥ = cc in absurd z
  value_local h t (At (Published c p)) e w = shared_place h c p _ w refl
  value_local h t (At (Own i)) e w = by (slice_get t i) refl
    where
      by : (s : Option Slot) → slice_get t i ≡ s → IsLocal h g (At (Own (slice_index (names h) i)))
      by None q = absurd (none-some _ (sym q ∙ slice_get-get_or t i (Led 0 0) w))
      by (Some (Here o)) q = λ m is. let name : Own (slice_index (names h) i) ≡ m = cc in (slice_index (names h) i, _, sym name, (R.reads h t e).here i o q, inl refl)
      by (Some (Led c p)) q = shared_place h c p _ ((R.sound h t e).led i c p q) ((R.reads h t e).led i c p q)

  -- a triple out of an object ends at its owner's or at a shared object
  out_of : (n : ℕ) (x : Owned) (l : Label) (y : Value) → g n ≡ Some x → Contains x.object.triples (l, y) → IsLocal x.owner g y
  out_of n x l y e has =
      let st = R.only n x e in
      let same : record { owner = x.owner; object = named names x.owner st.raw } ≡ x = same_Some _ x (sym ((R.reads x.owner st.table st.is_table).here st.place st.raw st.is_raw) ∙ ap g st.is_name ∙ e) in
      let r = contains_map_back (renamed_triple (name_in names x.owner)) st.raw.triples (l, y) (subst (λ (o : Owned). Contains o.object.triples (l, y)) (sym same) has) in
      subst (λ v. IsLocal x.owner g v) (ap (λ (t : Label × Value). t.1) r.2)
      (value_local x.owner st.table r.0.1 st.is_table ((R.sound x.owner st.table st.is_table).within st.place st.raw r.0.0 r.0.1 st.is_raw r.1))

  wider : (h k : Owner) (v : Value) → (k ≡ h) ⊎ IsShared k → IsLocal k g v → IsLocal h g v
  wider h k v c local m is = let q = local m is in
      (q.0, q.1, q.2, q.3, ⊎_elim (λ e. ⊎_elim (λ d. inl (e ∙ d)) (λ d. inr (d.0, e ∙ d.1)) c) (λ d. inr d) q.4)

  stays_local : (h : Owner) (path : List Label) (v w : Value) → IsLocal h g v → Leads (whole g) v path w → IsLocal h g w
  stays_local h [] v w local e = subst (λ x. IsLocal h g x) e local
  stays_local h (l ∷ path) v w local (y, (m, o, is, here, has), rest) =
      let q = local m is in
      let b = some_back object_part (g q.0) o (sym (ap (whole g) q.2) ∙ here) in
      let same : b.0 ≡ q.1 = same_Some b.0 q.1 (sym b.1 ∙ q.3) in
      let out = out_of q.0 b.0 l y b.1 (subst (λ (p : Object). Contains p.triples (l, y)) (sym b.2) has) in
      stays_local h path y w (wider h b.0.owner y (subst (λ (x : Owned). (x.owner ≡ h) ⊎ IsShared x.owner) (sym same) q.4) out) rest

  owner_of : (h : Owner) (n : ℕ) (x : Owned) → IsLocal h g (At (Own n)) → g n ≡ Some x → (x.owner ≡ h) ⊎ IsShared x.owner
  owner_of h n x local e = let q = local (Own n) refl in
      let name : n ≡ q.0 = let z : Own n ≡ Own q.0 = q.2 in cc in
      subst (λ (y : Owned). (y.owner ≡ h) ⊎ IsShared y.owner) (same_Some q.1 x (sym q.3 ∙ ap g (sym name) ∙ e)) q.4

  apart_of : (h k : Owner) (v w : Value) (n : ℕ) (x : Owned) → (h ≡ k → ⊥) → IsLocal h g v → IsLocal k g w
      → Reaches (whole g) v (Own n) → Reaches (whole g) w (Own n) → g n ≡ Some x → IsShared x.owner
  apart_of h k v w n x differ lv lw rv rw e =
      ⊎_elim
      (λ a. ⊎_elim (λ b. absurd (differ (sym a ∙ b))) (λ b. b) (owner_of k n x (stays_local k rw.0 w (At (Own n)) lw rw.1) e))
      (λ a. a)
      (owner_of h n x (stays_local h rv.0 v (At (Own n)) lv rv.1) e)

  solid_of : AreClustersInOrder tables → (n : ℕ) (x : Owned) → g n ≡ Some x → IsShared x.owner → IsSolid x.object
  solid_of order n x e shared =
      let st = R.only n x e in
      let same : record { owner = x.owner; object = named names x.owner st.raw } ≡ x = same_Some _ x (sym ((R.reads x.owner st.table st.is_table).here st.place st.raw st.is_raw) ∙ ap g st.is_name ∙ e) in
      let raw = order.solid shared.0 st.place st.table st.raw (ap tables (sym shared.1) ∙ st.is_table) st.is_raw in
      subst (λ (y : Owned). IsSolid y.object) same (record { frozen = raw.frozen; no_shell = raw.no_shell })

  shut_of : (n : ℕ) (x : Owned) (l : Label) (v : Value) → g n ≡ Some x → IsShared x.owner → Contains x.object.triples (l, v) → IsSharedValue g v
  shut_of n x l v e shared has m is =
      let q = out_of n x l v e has m is in
      (q.0, q.1, q.2, q.3, ⊎_elim (λ w. (shared.0, w ∙ shared.1)) (λ w. w) q.4)

pub readings_are_apart : ReadingsAreApart
readings_are_apart tables names bound g R order = record {
  apart = apart_of tables names bound g R;
  solid = solid_of tables names bound g R order;
  shut = shut_of tables names bound g R;
}

pub roots_are_local : RootsAreLocal
roots_are_local tables names bound g h t v R e w = value_local tables names bound g R h t v e w
