-- Tables that are sound: their graphs are sealed, and shut where the clusters are the store's.
use Rattle.std.proofs.Common.{◌≡◌, ℕ, zero, suc, ◌<◌, ◌≤◌, ◌⊎◌, ⊎_elim, inl, inr, Bool, true, false, cond, nat_eq, eq-eqb, List, [], ◌∷◌, ◌++◌, length, map, slice_get, Option, Some, None, Contains, sym, ap, ◌∙◌, subst, refl, arith}
use Rattle.std.specs.Option.{option_and_then}
use Rattle.std.proofs.lemmas.List.{length-map}
use Rattle.std.proofs.lemmas.List.Elements.{Contains-append_left, Contains-append_right, Contains-append_cases}
use Rattle.std.proofs.lemmas.Option.{slice_get_within, same_Some, none-some}
use Rattle.rr_space.specs.Graph.{Name, Own, Published, Value, Plain, At, Label, Object, IsSolid}
use Rattle.rr_space.specs.Tables.{Slot, Here, Led, Below, Whole, joined, below_hold, outer_objects, numbered, numbered_triple, numbered_object, cluster_at, published_at, resolve, resolve_slot, resolve_triple, resolve_object, object_in, graph_of, IsPublished}
use Rattle.rr_space.specs.Tables.{There}
use Rattle.rr_space.specs.Readings.{Knows}
use Rattle.rr_space.specs.Readings.{Layout}
use Rattle.rr_space.specs.Sound.{HasPlaceIn, IsStanding, IsObjectSound, IsBelowSound, IsTableSound, IsWholeSound, SoundIsSealed, SoundIsShut}
use Rattle.rr_space.proofs.Renaming.{mapped_at, contains_map_back, same_at}
use Rattle.rr_space.proofs.Spaces.{entry_of}

pub place_later : (a b : Below) → ((e : ℕ × List Object) → Contains a e → Contains b e) → (c p : ℕ) → HasPlaceIn a c p → HasPlaceIn b c p
place_later a b more c p (os, has, lt) = (os, more (c, os) has, lt)

pub standing_later : (k m : ℕ) (a b : Below) → k ≤ m → ((e : ℕ × List Object) → Contains a e → Contains b e) → (x : Value) → IsStanding k a x → IsStanding m b x
standing_later k m a b le more (Plain i) h = tt
standing_later k m a b le more (At (Own n)) h = omega (arith, h, le)
standing_later k m a b le more (At (Published c p)) h = place_later a b more c p h

pub joined_in : (bs : List Below) (n : ℕ) (b : Below) (e : ℕ × List Object) → slice_get bs n ≡ Some b → Contains b e → Contains (joined bs) e
joined_in [] n b e at has = absurd (none-some b at)
joined_in (x ∷ bs) zero b e at has = Contains-append_left x (joined bs) e (subst (λ (y : Below). Contains y e) (sym (same_Some x b at)) has)
joined_in (x ∷ bs) (suc n) b e at has = Contains-append_right x (joined bs) e (joined_in bs n b e at has)

pub joined_back : (bs : List Below) (e : ℕ × List Object) → Contains (joined bs) e → (n : ℕ) × (b : Below) × (slice_get bs n ≡ Some b) × Contains b e
joined_back [] e (i, lt, q) = absurd (let w : ⊥ = omega (arith, lt) in w)
joined_back (x ∷ bs) e has = ⊎_elim (λ h. (0, x, refl, h)) (λ h. let r = joined_back bs e h in (suc r.0, r.1, r.2, r.3)) (Contains-append_cases x (joined bs) e has)

pub append_sound : (a b : Below) → IsBelowSound a → IsBelowSound b → IsBelowSound (a ++ b)
append_sound a b ha hb = record {
  solid = λ c os p o has at. ⊎_elim (λ h. ha.solid c os p o h at) (λ h. hb.solid c os p o h at) (Contains-append_cases a b (c, os) has);
  within = λ c os p o has at l x in_o. ⊎_elim
      (λ h. standing_later 0 0 a (a ++ b) (omega arith) (Contains-append_left a b) x (ha.within c os p o h at l x in_o))
      (λ h. standing_later 0 0 b (a ++ b) (omega arith) (Contains-append_right a b) x (hb.within c os p o h at l x in_o)) (Contains-append_cases a b (c, os) has);
}

pub none_in : {X : Type 0} (x : X) → Contains [] x → ⊥
none_in x (i, lt, e) = omega (arith, lt)

pub none_sound : IsBelowSound []
none_sound = record { solid = λ c os p o has at. absurd (none_in (c, os) has); within = λ c os p o has at. absurd (none_in (c, os) has) }

-- a list's first entry is what it is, or the entry is later
pub in_first : {X : Type 0} (a : X) (xs : List X) (x : X) → Contains (a ∷ xs) x → (a ≡ x) ⊎ Contains xs x
in_first a xs x (zero, lt, e) = inl e
in_first a xs x (suc i, lt, e) = inr (i, omega (arith, lt), e)

pub in_later : (x : ℕ × List Object) (xs : Below) (e : ℕ × List Object) → Contains xs e → Contains (x ∷ xs) e
in_later x xs e (i, lt, q) = (suc i, omega (arith, lt), q)

module _ (w : Whole) (h : IsWholeSound w) where
  outer_standing : (x : Value) → IsStanding (length w.own) w.below x → IsStanding 0 (below_hold w) (numbered w.number x)
  outer_standing (Plain i) s = tt
  outer_standing (At (Own n)) s = (outer_objects w, (0, omega arith, refl), let e = length-map w.own (numbered_object w.number) in omega (arith, e, s))
  outer_standing (At (Published c p)) s = (s.0, in_later (w.number, outer_objects w) w.below (c, s.0) s.1, s.2)

  outer_at : (p : ℕ) (o : Object) → slice_get (outer_objects w) p ≡ Some o → IsSolid o × IsObjectSound 0 (below_hold w) o
  outer_at p o at =
      let m = mapped_at (numbered_object w.number) w.own p o at in (
        subst IsSolid m.2 (let s = h.solid p m.0 m.1 in record { frozen = s.frozen; no_shell = s.no_shell }),
        λ l x has. let q = contains_map_back (numbered_triple w.number) m.0.triples (l, x) (subst (λ (y : Object). Contains y.triples (l, x)) (sym m.2) has) in
            subst (IsStanding 0 (below_hold w)) (ap (λ (t : Label × Value). t.1) q.2) (outer_standing q.0.1 (h.within p m.0 m.1 q.0.0 q.0.1 q.1)),
      )

  pub hold_sound : IsBelowSound (below_hold w)
  hold_sound = record {
    solid = λ c os p o has at. ⊎_elim (λ e. (outer_at p o (subst (λ (y : ℕ × List Object). slice_get y.1 p ≡ Some o) (sym e) at)).0) (λ q. h.below.solid c os p o q at)
        (in_first (w.number, outer_objects w) w.below (c, os) has);
    within = λ c os p o has at. ⊎_elim (λ e. (outer_at p o (subst (λ (y : ℕ × List Object). slice_get y.1 p ≡ Some o) (sym e) at)).1)
        (λ q l x in_o. standing_later 0 0 w.below (below_hold w) (omega arith) (in_later (w.number, outer_objects w) w.below) x (h.below.within c os p o q at l x in_o))
        (in_first (w.number, outer_objects w) w.below (c, os) has);
  }

-- what a look-up of a place finds is an object of an entry
found_in : (below : Below) (c p : ℕ) (o : Object) → published_at below c p ≡ Some o → (os : List Object) × Contains below (c, os) × (slice_get os p ≡ Some o)
found_in below c p o e = by (cluster_at below c) refl
  where
    by : (v : Option (List Object)) → cluster_at below c ≡ v → (os : List Object) × Contains below (c, os) × (slice_get os p ≡ Some o)
    by None q = absurd (none-some o (sym (ap (option_and_then (λ (os : List Object). slice_get os p)) q) ∙ e))
    by (Some os) q = (os, entry_of below c os q, sym (ap (option_and_then (λ (os : List Object). slice_get os p)) q) ∙ e)

standing_shut : (below : Below) (x : Value) → IsStanding 0 below x → IsPublished x
standing_shut below (Plain i) s = tt
standing_shut below (At (Own n)) s = omega (arith, s)
standing_shut below (At (Published c p)) s = tt

pub sound_is_sealed : SoundIsSealed
sound_is_sealed slots below t = record {
  solid = λ c p o here. let f = found_in (joined below) c p o here in let b = joined_back below (c, f.0) f.1 in
      (t.below b.0 b.1 b.2).solid c f.0 p o b.3 f.2;
  shut = λ c p o l x here has. let f = found_in (joined below) c p o here in let b = joined_back below (c, f.0) f.1 in
      standing_shut b.1 x ((t.below b.0 b.1 b.2).within c f.0 p o b.3 f.2 l x has);
}

-- a number that has an entry is found
pub finds : (below : Below) (c : ℕ) (os : List Object) → Contains below (c, os) → (ps : List Object) × (cluster_at below c ≡ Some ps)
finds [] c os has = absurd (none_in (c, os) has)
finds (x ∷ xs) c os has = by (nat_eq c x.0) refl (finds xs c os)
  where
    by : (b : Bool) → nat_eq c x.0 ≡ b → (Contains xs (c, os) → (ps : List Object) × (cluster_at xs c ≡ Some ps)) → (ps : List Object) × (cluster_at (x ∷ xs) c ≡ Some ps)
    by true q rest = (x.1, ap (λ b. cond b (Some x.1) (cluster_at xs c)) q)
    by false q rest = ⊎_elim
        (λ e. let z : true ≡ false = sym (eq-eqb c x.0 (sym (ap (λ (y : ℕ × List Object). y.0) e))) ∙ q in absurd (let v : ⊥ = cc in v))
        (λ r. let f = rest r in (f.0, ap (λ b. cond b (Some x.1) (cluster_at xs c)) q ∙ f.1)) (in_first x xs (c, os) has)

pub gets : {A : Type 0} (xs : List A) (p : ℕ) → p < length xs → (x : A) × (slice_get xs p ≡ Some x)
gets [] p lt = absurd (let w : ⊥ = omega (arith, lt) in w)
gets (x ∷ xs) zero lt = (x, refl)
gets (x ∷ xs) (suc p) lt = gets xs p (omega (arith, lt))

-- the object of a slot, before its values are resolved
pub raw_in : (slots : List Slot) (below : Below) (i : ℕ) (o : Object) → graph_of slots below (Own i) ≡ Some o → (raw : Object) × (slice_get slots i ≡ Some (Here raw)) × (resolve_object slots raw ≡ o)
raw_in slots below i o e = by (slice_get slots i) refl
  where
    by : (v : Option Slot) → slice_get slots i ≡ v → (raw : Object) × (slice_get slots i ≡ Some (Here raw)) × (resolve_object slots raw ≡ o)
    by None q = absurd (none-some o (sym (ap (option_and_then (object_in slots)) q) ∙ e))
    by (Some (Here raw)) q = (raw, q, same_Some _ o (sym (ap (option_and_then (object_in slots)) q) ∙ e))
    by (Some (Led c p)) q = absurd (none-some o (sym (ap (option_and_then (object_in slots)) q) ∙ e))

pub resolved_back : (slots : List Slot) (ts : List (Label × Value)) (l : Label) (x : Value) → Contains (map (resolve_triple slots) ts) (l, x) → (y : Value) × Contains ts (l, y) × (resolve slots y ≡ x)
resolved_back slots ts l x has =
    let m = contains_map_back (resolve_triple slots) ts (l, x) has in
    (m.0.1, subst (λ k. Contains ts (k, m.0.1)) (ap (λ (t : Label × Value). t.0) m.2) m.1, ap (λ (t : Label × Value). t.1) m.2)

module _ (tables : Layout) (slots : List Slot) (below : List Below) (t : IsTableSound slots below) (K : Knows (joined below) tables) where
  there_place : (c p : ℕ) → HasPlaceIn (joined below) c p → There (graph_of slots (joined below)) (At (Published c p))
  there_place c p (os, has, lt) m e =
      let f = finds (joined below) c os has in
      let a = K.known c os has in
      let b = K.known c f.0 (entry_of (joined below) c f.0 f.1) in
      let raws : map Here a.0 ≡ map Here b.0 = same_Some _ _ (sym a.1 ∙ b.1) in
      let same : length os ≡ length f.0 =
      ap length (sym a.2) ∙ length-map a.0 (numbered_object c) ∙ sym (length-map a.0 Here) ∙ ap length raws ∙ length-map b.0 Here ∙ sym (length-map b.0 (numbered_object c)) ∙ ap length b.2 in
      let o = gets f.0 p (omega (arith, same, lt)) in
      (o.0, ap (graph_of slots (joined below)) (sym (same_at (Published c p) m e)) ∙ ap (option_and_then (λ (l : List Object). slice_get l p)) f.1 ∙ o.1)

  there_joined : (n : ℕ) (b : Below) (c p : ℕ) → slice_get below n ≡ Some b → HasPlaceIn b c p → There (graph_of slots (joined below)) (At (Published c p))
  there_joined n b c p at h = there_place c p (place_later b (joined below) (λ e has. joined_in below n b e at has) c p h)

  below_at : (i : ℕ) (s : Slot) → slice_get slots i ≡ Some s → (b : Below) × (slice_get below i ≡ Some b)
  below_at i s at = gets below i (let lt = slice_get_within slots i s at in omega (arith, lt, t.count))

  there_own : (n : ℕ) (s : Slot) → slice_get slots n ≡ Some s → There (graph_of slots (joined below)) (At (resolve_slot (Some s) n))
  there_own n (Here q) at = λ m e. (resolve_object slots q, ap (graph_of slots (joined below)) (sym (same_at (Own n) m e)) ∙ ap (option_and_then (object_in slots)) at)
  there_own n (Led c p) at = let b = below_at n (Led c p) at in there_joined n b.0 c p b.1 (t.slots n (Led c p) b.0 at b.1)

  resolved_there : (i : ℕ) (b : Below) (y : Value) → slice_get below i ≡ Some b → IsStanding (length slots) b y → There (graph_of slots (joined below)) (resolve slots y)
  resolved_there i b (Plain z) at h = λ m e. absurd (let w : ⊥ = cc in w)
  resolved_there i b (At (Own n)) at h =
      let s = gets slots n h in
      subst (λ v. There (graph_of slots (joined below)) (At (resolve_slot v n))) (sym s.1) (there_own n s.0 s.1)
  resolved_there i b (At (Published c p)) at h = there_joined i b c p at h

  published_there : (i : ℕ) (b : Below) (x : Value) → slice_get below i ≡ Some b → IsStanding 0 b x → There (graph_of slots (joined below)) x
  published_there i b (Plain z) at h = λ m e. absurd (let w : ⊥ = cc in w)
  published_there i b (At (Own n)) at h = absurd (let w : ⊥ = omega (arith, h) in w)
  published_there i b (At (Published c p)) at h = there_joined i b c p at h

  shut_all : (n : Name) (o : Object) (l : Label) (x : Value) → graph_of slots (joined below) n ≡ Some o → Contains o.triples (l, x) → There (graph_of slots (joined below)) x
  shut_all (Own i) o l x here has =
      let r = raw_in slots (joined below) i o here in
      let y = resolved_back slots r.0.triples l x (subst (λ (z : Object). Contains z.triples (l, x)) (sym r.2) has) in
      let b = below_at i (Here r.0) r.1 in
      subst (There (graph_of slots (joined below))) y.2 (resolved_there i b.0 y.0 b.1 (t.slots i (Here r.0) b.0 r.1 b.1 l y.0 y.1))
  shut_all (Published c p) o l x here has =
      let f = found_in (joined below) c p o here in
      let b = joined_back below (c, f.0) f.1 in
      published_there b.0 b.1 x b.2 ((t.below b.0 b.1 b.2).within c f.0 p o b.3 f.2 l x has)

pub sound_is_shut : SoundIsShut
sound_is_shut tables slots below t K = record { all = shut_all tables slots below t K }
