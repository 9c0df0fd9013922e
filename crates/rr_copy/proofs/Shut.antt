-- Where the clusters that a message knows are the store's, no triple leads out of its graph.
use Rattle.std.proofs.Common.{◌≡◌, ℕ, List, length, map, slice_get, ◌++◌, Option, Some, None, Contains, ⊎_elim, sym, ap, ◌∙◌, subst, refl, arith}
use Rattle.std.specs.Option.{option_and_then}
use Rattle.std.proofs.lemmas.List.{length-map}
use Rattle.std.proofs.lemmas.List.Elements.{Contains-append_left, Contains-append_right, Contains-append_cases}
use Rattle.std.proofs.lemmas.Option.{same_Some, slice_get_within, none-some}
use Rattle.rr_space.specs.Graph.{Name, Own, Published, Value, Plain, At, Label, Object}
use Rattle.rr_space.specs.Tables.{Below, Here, Packed, joined, numbered_object, cluster_at, published_at, graph_of}
use Rattle.rr_space.specs.Tables.{There}
use Rattle.rr_space.specs.Readings.{Knows}
use Rattle.rr_space.specs.Readings.{Layout}
use Rattle.rr_space.specs.Sound.{HasPlaceIn, IsStanding, IsBelowSound}
use Rattle.rr_space.proofs.Renaming.{same_at}
use Rattle.rr_space.proofs.Sounds.{finds, gets, raw_in, resolved_back, joined_in, joined_back, standing_later}
use Rattle.rr_space.proofs.Spaces.{entry_of}
use Rattle.rr_copy.specs.Messages.{IsMessageSound, MessageIsShut}
use Rattle.rr_copy.proofs.Contained.{message_at, still}

module _ (tables : Layout) (m : Packed) (s : IsMessageSound m) (K : Knows (m.root_below ++ joined m.below) tables) where
  abbrev known : Below
  known = m.root_below ++ joined m.below

  abbrev inside : Value → Type 0
  inside x = There (graph_of (map Here m.objects) known) x

  -- a place of a known cluster is there
  place_there : (c p : ℕ) → HasPlaceIn known c p → inside (At (Published c p))
  place_there c p (os, has, lt) n e =
      let f = finds known c os has in
      let a = K.known c os has in
      let b = K.known c f.0 (entry_of known c f.0 f.1) in
      let raws : map Here a.0 ≡ map Here b.0 = same_Some _ _ (sym a.1 ∙ b.1) in
      let same : length os ≡ length f.0 =
      ap length (sym a.2) ∙ length-map a.0 (numbered_object c) ∙ sym (length-map a.0 Here) ∙ ap length raws ∙ length-map b.0 Here ∙ sym (length-map b.0 (numbered_object c)) ∙ ap length b.2 in
      let o = gets f.0 p (omega (arith, same, lt)) in
      (o.0, ap (graph_of (map Here m.objects) known) (sym (same_at (Published c p) n e)) ∙ ap (option_and_then (λ (l : List Object). slice_get l p)) f.1 ∙ o.1)

  standing_there : (k : ℕ) (x : Value) → k ≡ length m.objects → IsStanding k known x → inside x
  standing_there k (Plain i) is h = λ n e. absurd (let w : ⊥ = cc in w)
  standing_there k (At (Published c p)) is h = place_there c p h
  standing_there k (At (Own i)) is h = λ n e.
      let o = gets m.objects i (omega (arith, is, h)) in
      (o.0, ap (graph_of (map Here m.objects) known) (sym (same_at (Own i) n e)) ∙ message_at m i o.0 o.1)

  -- an entry of the clusters is one of the root's or of an object's
  entry_sound : (c : ℕ) (os : List Object) → Contains known (c, os) → (b : Below) × IsBelowSound b × Contains b (c, os) × ((e : ℕ × List Object) → Contains b e → Contains known e)
  entry_sound c os has = ⊎_elim
      (λ r. (m.root_below, s.root_below, r, Contains-append_left m.root_below (joined m.below)))
      (λ r. let b = joined_back m.below (c, os) r in (b.1, s.objects.below b.0 b.1 b.2, b.3, λ e h. Contains-append_right m.root_below (joined m.below) e (joined_in m.below b.0 b.1 e b.2 h)))
      (Contains-append_cases m.root_below (joined m.below) (c, os) has)

  found : (c p : ℕ) (o : Object) → published_at known c p ≡ Some o → (os : List Object) × Contains known (c, os) × (slice_get os p ≡ Some o)
  found c p o e = by (cluster_at known c) refl
    where
      by : (v : Option (List Object)) → cluster_at known c ≡ v → (os : List Object) × Contains known (c, os) × (slice_get os p ≡ Some o)
      by None q = absurd (none-some o (sym (ap (option_and_then (λ (os : List Object). slice_get os p)) q) ∙ e))
      by (Some os) q = (os, entry_of known c os q, sym (ap (option_and_then (λ (os : List Object). slice_get os p)) q) ∙ e)

  all_there : (n : Name) (o : Object) (l : Label) (x : Value) → graph_of (map Here m.objects) known n ≡ Some o → Contains o.triples (l, x) → inside x
  all_there (Own i) o l x here has =
      let r = raw_in (map Here m.objects) known i o here in
      let y = resolved_back (map Here m.objects) r.0.triples l x (subst (λ (z : Object). Contains z.triples (l, x)) (sym r.2) has) in
      let lt = slice_get_within (map Here m.objects) i (Here r.0) r.1 in
      let b = gets m.below i (omega (arith, lt, s.objects.count)) in
      let stands = s.objects.slots i (Here r.0) b.0 r.1 b.1 l y.0 y.1 in
      let more : (e : ℕ × List Object) → Contains b.0 e → Contains known e = λ e h. Contains-append_right m.root_below (joined m.below) e (joined_in m.below i b.0 e b.1 h) in
      let k = length (map Here m.objects) in
      subst inside (sym (still m.objects y.0) ∙ y.2) (standing_there k y.0 (length-map m.objects Here) (standing_later k k b.0 known (omega arith) more y.0 stands))
  all_there (Published c p) o l x here has =
      let f = found c p o here in
      let b = entry_sound c f.0 f.1 in
      standing_there (length m.objects) x refl (standing_later 0 (length m.objects) b.0 known (omega arith) b.3 x (b.1.within c f.0 p o b.2 f.2 l x has))

  root_there : inside m.root
  root_there = standing_there (length m.objects) m.root refl (standing_later (length m.objects) (length m.objects) m.root_below known (omega arith) (Contains-append_left m.root_below (joined m.below)) m.root s.root)

pub message_is_shut : MessageIsShut
message_is_shut tables m s K = (record { all = all_there tables m s K }, root_there tables m s K)
