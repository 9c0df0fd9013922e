-- A copy of a value comes into a hand.
use Rattle.std.proofs.Common.{◌≡◌, ℕ, ◌+◌, ◌<◌, ⊎_elim, inl, inr, [], ◌∷◌, length, map, Some, None, slice_get, sym, ap, ◌∙◌, subst, refl, arith}
use Rattle.std.specs.Prelude.{slice_index, slice_set}
use Rattle.std.specs.Option.{option_map, option_and_then}
use Rattle.std.proofs.lemmas.List.{length-map}
use Rattle.std.proofs.lemmas.List.Elements.{Contains-append_cases, Contains-append_right}
use Rattle.std.proofs.lemmas.Option.{none-some, same_Some, slice_get_within, slice_get-get_or}
use Rattle.rr_base.specs.declared.name.RactorNo.{RactorNo}
use Rattle.rr_space.specs.Graph.{Own, Published, Value, Plain, At, Object, IsPart, IsAlike, Paired}
use Rattle.rr_space.proofs.Apart.{readings_are_apart}
use Rattle.rr_space.specs.Tables.{Table, Packed, Here, Led, Below, Embeds, IsPublished, joined, message_graph, space_graph, resolve}
use Rattle.rr_space.specs.Parts.{value_of, below_ref}
use Rattle.rr_space.specs.Sound.{IsStanding}
use Rattle.rr_space.specs.Readings.{Owner, Space, Hand, Mail, Shown, Shared, Owned, Objects, Naming, IsReading, IsSound, IsInLayout, IsApart, IsSharedValue, Knows, whole, name_in}
use Rattle.rr_space.specs.Steps.{Remakes, IsRemade, IsNamed, IsCopied}
use Rattle.rr_space.specs.declared.refer.Ref.{Ref}
use Rattle.rr_space.proofs.Frames.{owner_cases}
use Rattle.rr_space.proofs.Inside.{alike_inside}
use Rattle.rr_space.proofs.Remaking.{remaking_is_a_step}
use Rattle.rr_space.proofs.Renaming.{map_at, mapped_at}
use Rattle.rr_space.proofs.Sounds.{gets, joined_in, sound_is_sealed}
use Rattle.rr_space.proofs.Spaces.{spaces_are_inside, raw_of}
use Rattle.rr_copy.proofs.Shut.{message_is_shut}
use Rattle.rr_world.specs.Views.{Member, Channels, Assembly, IsFree}
use Rattle.rr_world.specs.Layouts.{layout, space_slots, hand_slots, inbox_slots, port_slots, message_slots, cluster_slots, message_below, IsMessageKnown, IsRead}
use Rattle.rr_world.specs.Readings.{each_from, actor_in, parcel_in, root_in, post_in, state_in}
use Rattle.rr_world.specs.Enabling.{StandsAt, IsFreeHand, IsValue, MayBePacked}
use Rattle.rr_world.specs.Packing.{IsPackedFrom, MayNotPack, Packs, named_ref}
use Rattle.rr_world.specs.Runs.{HasOutcome}
use Rattle.rr_world.specs.declared.step.Operand.{Operand}
use Rattle.rr_world.specs.declared.step.Action.TheVariants.{Pack}
use Rattle.rr_world.specs.declared.step.Reply.TheVariants.{NotEnabled, Done, Refused}
use Rattle.rr_world.specs.Outcomes.{reply_of}
use Rattle.rr_world.specs.declared.outcome.Outcome.{Outcome}
use Rattle.rr_world.specs.declared.outcome.Outcome.TheVariants as outcome
use Rattle.rr_world.proofs.Lists.{set_at, set_off, seen_same, each_set}
use Rattle.rr_world.proofs.Namings.{actor_same, post_same, handed}
use Rattle.rr_world.proofs.Published.{place_known}
use Rattle.rr_world.proofs.Sharing.{empty_list, shared_alike, shared_names, shared_root, shared_stays}
use Rattle.rr_world.proofs.Knowing.{knows_on, order_on, knows_either, read_set, holding_knows}
use Rattle.rr_world.proofs.Messages.{known_message}
use Rattle.rr_world.proofs.Enabled.{actor_at, free, free_back, allowed, tested_at}
use Rattle.rr_world.proofs.Insides.{set_again, same_assembly}
use Rattle.rr_world.proofs.Staying.{stays_read, same_state, one_renamed}
use Rattle.rr_world.proofs.Operands.{value_named, known_named}
use Rattle.rr_world.proofs.Seeing.{IsOfSpace, held, all_apart, is_sealed, inside, there, resolved, shared_of, promoted_of, free_of, shell_of}
use Rattle.rr_world.proofs.Fitting.{waits_same}
use Rattle.rr_world.proofs.KeyMoves.{copied_keys}

-- the table that a message is
abbrev table_of : Packed → Table
table_of p = record { slots = map Here p.objects; below = p.root_below ∷ p.below; keys = []; limit = 0; owner = 0; next_message = 0 }

module _ (w w2 : Assembly) (names : Naming) (bound : ℕ) (g : Objects) (R : IsRead w names bound g) (k : ℕ) (m : Member) (v : Ref) (p : Packed) (at : slice_get w.ractors k ≡ Some m)
    (P : IsPackedFrom m.space v p) (empty : IsFree m) (knows : Knows (below_ref v) (layout w))
    (rs : w2.ractors ≡ slice_set w.ractors k (record m { hand = Some p })) (is : w2.channels ≡ w.channels) where
  rest : (h : Owner) → (h ≡ Hand k → ⊥) → layout w2 h ≡ layout w h
  unfolding layout
  rest (Space j) q = ap (λ xs. option_map space_slots (slice_get xs j)) rs ∙ seen_same (option_map space_slots) w.ractors k j m (record m { hand = Some p }) at refl
  rest (Hand j) q = ap (λ xs. option_and_then hand_slots (slice_get xs j)) rs ∙ ap (option_and_then hand_slots) (set_off w.ractors k j (record m { hand = Some p }) (λ e. q (ap Hand e)))
  rest (Mail d u) q = ap (λ (x : Channels). option_and_then (inbox_slots u) (slice_get x.inboxes d)) is
  rest (Shown d u) q = ap (λ (x : Channels). option_and_then (port_slots u) (slice_get x.ports d)) is
  rest (Shared d) q = ap (λ (x : Channels). option_map cluster_slots (slice_get x.store.clusters d)) is

  was : layout w (Hand k) ≡ None
  unfolding layout
  was = ap (option_and_then hand_slots) at ∙ ap (option_map message_slots) empty.hand

  now : layout w2 (Hand k) ≡ Some (map Here p.objects)
  unfolding layout
  now = ap (λ xs. option_and_then hand_slots (slice_get xs k)) rs ∙ ap (option_and_then hand_slots) (set_at w.ractors k (record m { hand = Some p }) (slice_get_within w.ractors k m at))

  hand_apart : (c : ℕ) → Hand k ≡ Shared c → ⊥
  hand_apart c e = cc

  known : Knows (message_below p) (layout w)
  known = knows_either (layout w) (joined m.space.below) (below_ref v) (message_below p) (λ e has. Contains-append_cases (joined m.space.below) (below_ref v) e (P.below e has))
      (R.knows.ractors k m at).space knows

  -- and the root is in a place that there is
  message_known : IsMessageKnown (layout w) p
  message_known = known_message (layout w) p P.sound known (copied_keys (layout w) m.space (value_of v) P.names p P.copy (R.knows.ractors k m at).keyed)

  here_is : (i : ℕ) (o : Object) → slice_get (map Here p.objects) i ≡ Some (Here o) → i < length p.objects
  here_is i o e = let lt = slice_get_within (map Here p.objects) i (Here o) e in omega (arith, lt, length-map p.objects Here)

  no_led : (i c q : ℕ) → slice_get (map Here p.objects) i ≡ Some (Led c q) → ⊥
  no_led i c q e = let z = mapped_at Here p.objects i (Led c q) e in differ z.0 z.2
    where
      differ : (o : Object) → Here o ≡ Led c q → ⊥
      differ o same = cc

  standing : (i : ℕ) (b : Below) (x : Value) → slice_get p.below i ≡ Some b → IsStanding (length (map Here p.objects)) b x → IsInLayout (layout w) (map Here p.objects) x
  standing i b (Plain n) e s = s
  standing i b (At (Own n)) e s = s
  standing i b (At (Published c q)) e s =
      place_known (layout w) (message_below p) c q known (s.0, Contains-append_right p.root_below (joined p.below) (c, s.0) (joined_in p.below i b (c, s.0) e s.1), s.2)

  sound : IsSound (layout w) (map Here p.objects)
  sound = record {
    within = λ i o l x e has. let b = gets p.below i (let lt = slice_get_within (map Here p.objects) i (Here o) e in let c = P.sound.objects.count in omega arith) in
        standing i b.0 x b.1 (P.sound.objects.slots i (Here o) b.0 e b.1 l x has);
    led = λ i c q e. absurd (no_led i c q e);
  }

  remakes : Remakes (Hand k) (length p.objects) [] (map Here p.objects) (layout w) (layout w2)
  remakes = record {
    was = inr (was, refl);
    now = now;
    rest = rest;
    unshared = hand_apart;
    size = omega (arith, length-map p.objects Here);
    kept_here = λ i o e. absurd (none-some (Here o) e);
    kept_led = λ i c q e. absurd (none-some (Led c q) e);
    fresh_here = λ i c q e. absurd (no_led i c q e);
    sound = sound;
  }

  module _ (names2 : Naming) (g2 : Objects) (after_reading : IsReading (layout w2) names2 (bound + length p.objects) g2) (N : IsNamed (Hand k) names names2)
      (M : IsRemade (Hand k) [] (map Here p.objects) names names2 g g2) where
    kept_shared : (c : ℕ) → names2 (Shared c) ≡ names (Shared c)
    kept_shared c = N.rest (Shared c) (λ e. hand_apart c (sym e))

    known2 : Knows (message_below p) (layout w2)
    known2 = knows_on w w2 (ap (λ (x : Channels). x.store.clusters) is) (message_below p) known

    inside2 : Embeds (message_graph p) (name_in names2 (Hand k)) (whole g2)
    inside2 = spaces_are_inside (layout w2) names2 (bound + length p.objects) g2 (Hand k) (table_of p) after_reading now hand_apart known2 (message_is_shut (layout w2) p P.sound known2).0

    count : length (names2 (Hand k)) ≡ length p.objects
    count = (after_reading.reads (Hand k) (map Here p.objects) now).size ∙ length-map p.objects Here

    name_at : (i : ℕ) → i < length p.objects → slice_get (names2 (Hand k)) i ≡ Some (slice_index (names2 (Hand k)) i)
    name_at i lt = slice_get-get_or (names2 (Hand k)) i 0 (omega (arith, count, lt))

    right_at : (i : ℕ) → i < length p.objects → slice_get (map Own (names2 (Hand k))) i ≡ Some (Own (slice_index (names2 (Hand k)) i))
    right_at i lt = map_at Own (names2 (Hand k)) i (slice_index (names2 (Hand k)) i) (name_at i lt)

    own_alike : IsOfSpace v → IsAlike (whole g) (root_in names (Space k) v) (whole g2) (parcel_in names2 (Hand k) p).root (Paired (map (λ n. name_in names (Space k) (Own n)) P.names) (map Own (names2 (Hand k))))
    own_alike own = subst (λ x. IsAlike (whole g) x (whole g2) (parcel_in names2 (Hand k) p).root (Paired (map (λ n. name_in names (Space k) (Own n)) P.names) (map Own (names2 (Hand k)))))
        (resolved w names bound g R k m v at empty.published P.well P.within knows)
        (alike_inside (space_graph m.space) (name_in names (Space k)) (whole g) (message_graph p) (name_in names2 (Hand k)) (whole g2) (resolve m.space.slots (value_of v)) p.root P.names (map Own (names2 (Hand k)))
        (record {
          left = inside w names bound g R k m v at empty.published P.well P.within knows;
          right = inside2;
          left_sealed = sound_is_sealed m.space.slots m.space.below P.well.sound;
          right_sealed = P.sealed;
          published = λ c q. ap (λ ns. Own (slice_index ns q)) (sym (kept_shared c));
        })
        (there w names bound g R k m v at empty.published P.well P.within knows own)
        (message_is_shut (layout w2) p P.sound known2).1
        P.copy.alike
        (λ i o e. let raw = raw_of (layout w2) names2 (bound + length p.objects) g2 (Hand k) (table_of p) after_reading now i o e in right_at i (here_is i raw.0 raw.1)))

    -- the copy of a published value is the value itself
    published_alike : IsPublished (resolve m.space.slots (value_of v)) → IsSharedValue g (root_in names (Space k) v)
        → IsAlike (whole g) (root_in names (Space k) v) (whole g2) (parcel_in names2 (Hand k) p).root (Paired (map (λ n. name_in names (Space k) (Own n)) P.names) (map Own (names2 (Hand k))))
    published_alike public shared =
        let none = shared_names (space_graph m.space) (message_graph p) (resolve m.space.slots (value_of v)) p.root P.names (is_sealed w names bound g R k m v at empty.published P.well P.within knows) public P.copy.alike in
        let root : (parcel_in names2 (Hand k) p).root ≡ root_in names (Space k) v =
        shared_root names names2 (Space k) (Hand k) kept_shared (resolve m.space.slots (value_of v)) p.root P.names public P.copy.alike.roots ∙ resolved w names bound g R k m v at empty.published P.well P.within knows in
        let no_names : names2 (Hand k) ≡ [] = empty_list (names2 (Hand k)) (count ∙ P.copy.size ∙ ap length none) in
        let stays : IsSharedValue g2 (root_in names (Space k) v) = shared_stays g g2 (Hand k) (hand_apart) M.others (root_in names (Space k) v) shared in
        let after : IsApart g2 = readings_are_apart (layout w2) names2 (bound + length p.objects) g2 after_reading (order_on w w2 (ap (λ (x : Channels). x.store.clusters) is) R.clusters) in
        subst (λ x. IsAlike (whole g) (root_in names (Space k) v) (whole g2) x (Paired (map (λ n. name_in names (Space k) (Own n)) P.names) (map Own (names2 (Hand k))))) (sym root)
        (subst (λ ns. IsAlike (whole g) (root_in names (Space k) v) (whole g2) (root_in names (Space k) v) (Paired (map (λ n. name_in names (Space k) (Own n)) ns) (map Own (names2 (Hand k))))) (sym none)
        (subst (λ ns. IsAlike (whole g) (root_in names (Space k) v) (whole g2) (root_in names (Space k) v) (Paired [] (map Own ns))) (sym no_names)
        (shared_alike g g2 (all_apart w names bound g R k m v at empty.published P.well P.within knows) after (root_in names (Space k) v) shared stays)))

    alike : IsAlike (whole g) (root_in names (Space k) v) (whole g2) (parcel_in names2 (Hand k) p).root (Paired (map (λ n. name_in names (Space k) (Own n)) P.names) (map Own (names2 (Hand k))))
    alike = ⊎_elim own_alike (λ h. published_alike h.0 h.1) (held w names bound g R k m v at empty.published P.well P.within knows)

    -- a new object stands in the hand
    stands_new : (n : ℕ) (y : Owned) → g n ≡ None → g2 n ≡ Some y → (y.owner ≡ Hand k) × ((i : ℕ) × (i < length p.objects) × (slice_index (names2 (Hand k)) i ≡ n))
    stands_new n y none here =
        let st = after_reading.only n y here in
        ⊎_elim
        (λ mine.
        let t_is : st.table ≡ map Here p.objects = same_Some _ _ (sym st.is_table ∙ ap (layout w2) mine ∙ now) in
        (mine, (st.place, here_is st.place st.raw (ap (λ t. slice_get t st.place) (sym t_is) ∙ st.is_raw), ap (λ h. slice_index (names2 h) st.place) (sym mine) ∙ st.is_name)))
        (λ other.
        let old : layout w y.owner ≡ Some st.table = sym (rest y.owner other) ∙ st.is_table in
        let there = (R.tables.reads y.owner st.table old).here st.place st.raw st.is_raw in
        let name : slice_index (names y.owner) st.place ≡ n = ap (λ ns. slice_index ns st.place) (sym (N.rest y.owner other)) ∙ st.is_name in
        absurd (none-some _ (sym none ∙ ap g (sym name) ∙ there)))
        (owner_cases y.owner (Hand k))

    copied : IsCopied k (root_in names (Space k) v) (parcel_in names2 (Hand k) p).root (map (λ n. name_in names (Space k) (Own n)) P.names) (map Own (names2 (Hand k))) g g2
    copied = record {
      alike = alike;
      part = λ n part.
          let h = alike.has_right (Own n) part in
          let z = mapped_at Own (names2 (Hand k)) h.1.0 (Own n) h.1.2 in
          let lt : h.1.0 < length p.objects = let l = slice_get_within (names2 (Hand k)) h.1.0 z.0 z.1 in omega (arith, l, count) in
          let slot = gets p.objects h.1.0 lt in
          let free = M.fresh h.1.0 (Here slot.0) (map_at Here p.objects h.1.0 slot.0 slot.1) (omega arith) in
          let one : slice_index (names2 (Hand k)) h.1.0 ≡ n = same_Some _ _ (sym (name_at h.1.0 lt) ∙ z.1) ∙ (let e : Own z.0 ≡ Own n = z.2 in cc) in
          ap g (sym one) ∙ free;
      fresh = λ n y none here.
          let s = stands_new n y none here in
          let l = gets P.names s.1.0 (let c = P.copy.size in let lt = s.1.1 in omega arith) in (
            s.0,
            subst (λ j. IsPart (whole g2) (parcel_in names2 (Hand k) p).root (Own j)) s.1.2
                (alike.right (name_in names (Space k) (Own l.0)) (Own (slice_index (names2 (Hand k)) s.1.0))
                (s.1.0, map_at (λ n. name_in names (Space k) (Own n)) P.names s.1.0 l.0 l.1, right_at s.1.0 s.1.1)),
          );
      kept = λ n x here. M.others n x here (λ mine. let st = R.tables.only n x here in none-some st.table (sym was ∙ ap (layout w) (sym mine) ∙ st.is_table));
    }

module _ (w w2 : Assembly) (who : RactorNo) (k : ℕ) (m : Member) (op : Operand) (v : Ref) (p : Packed) (at : slice_get w.ractors k ≡ Some m) (stands : StandsAt who k)
    (named : named_ref m.roots op ≡ Some v) (P : IsPackedFrom m.space v p) (empty : IsFree m) (rs : w2.ractors ≡ slice_set w.ractors k (record m { hand = Some p })) (is : w2.channels ≡ w.channels) where
  pub packed : ((names : Naming) (bound : ℕ) (g : Objects) → IsRead w names bound g → Knows (below_ref v) (layout w)) → HasOutcome (record { who = who; action = Pack op }) Done w w2
  packed all names bound g R =
      let knows = all names bound g R in
      let q = remaking_is_a_step (Hand k) (length p.objects) [] (map Here p.objects) (layout w) (layout w2) names bound g (remakes w w2 names bound g R k m v p at P empty knows rs is) R.tables in
      let names2 = q.0 in
      let N = q.3 in
      let hand_off : (c : ℕ) → Hand k ≡ Shared c → ⊥ = λ c e. let y : ⊥ = cc in y in
      let kept : (c : ℕ) → names2 (Shared c) ≡ names (Shared c) = λ c. N.rest (Shared c) (λ e. hand_off c (sym e)) in
      let spaces : (n : ℕ) → names2 (Space n) ≡ names (Space n) = λ n. N.rest (Space n) (λ z. let y : ⊥ = cc in y) in
      let value = value_named names (Space k) m.roots op ∙ ap (option_map (root_in names (Space k))) named in (
        names2,
        bound + length p.objects,
        q.1,
        read_set w w2 k m (record m { hand = Some p }) at rs is refl (waits_same m (record m { hand = Some p }) refl refl) (R.held.roots k m at) (holding_knows (layout w) m p m.ticket (R.knows.ractors k m at) (message_known w w2 names bound g R k m v p at P empty knows rs is)) R q.2,
        (
          k,
          actor_in names k m,
          stands,
          actor_at w names g k m at,
          (free names k m empty, (root_in names (Space k) v, value)),
          (
            root_in names (Space k) v,
            parcel_in names2 (Hand k) p,
            value,
            record {
              free = free_of w names bound g R k m v at empty.published P.well P.within knows P.free;
              shared = shared_of w names bound g R k m v at empty.published P.well P.within knows P.promoted;
              left = map (λ n. name_in names (Space k) (Own n)) P.names;
              objects = copied w w2 names bound g R k m v p at P empty knows rs is names2 q.1 q.2 N q.4;
              size = length-map P.names (λ n. name_in names (Space k) (Own n)) ∙ sym P.copy.size;
              sender = P.sender ∙ R.owned k m at;
              sequence = P.sequence;
              ractors = ap (each_from (actor_in names2) 0) rs
                  ∙ each_set (actor_in names) (actor_in names2) 0 w.ractors k k (record m { hand = Some p }) (omega arith)
                  (λ j n x d z a. actor_same names names2 n x (spaces n) (N.rest (Hand n) (λ y. d (let f : n ≡ k = cc in omega arith))) kept)
                  ∙ ap (slice_set (each_from (actor_in names) 0 w.ractors) k) (handed names names2 k m p m.ticket (spaces k) kept);
              post = ap (post_in names2) is ∙ post_same names names2 w.channels (λ c u. N.rest (Mail c u) (λ z. let f : ⊥ = cc in f)) (λ c u. N.rest (Shown c u) (λ z. let f : ⊥ = cc in f)) kept;
            },
          ),
        ),
        one_renamed w (Hand k) (record { who = who; action = Pack op }) N stands (λ j e. let z : ⊥ = cc in z),
      )

-- why a value may not be packed
pub not_packed : (w : Assembly) (names : Naming) (bound : ℕ) (g : Objects) (k : ℕ) (m : Member) (op : Operand) → IsRead w names bound g → slice_get w.ractors k ≡ Some m
    → MayNotPack op m → IsFreeHand (actor_in names k m) → IsValue (actor_in names k m) op → MayBePacked (state_in w names g) (actor_in names k m) op → ⊥
not_packed w names bound g k m op R at (inl busy) empty value tested = busy (free_back names k m empty)
not_packed w names bound g k m op R at (inr (inl none)) empty value tested =
    none-some value.0 (sym (value_named names (Space k) m.roots op ∙ ap (option_map (root_in names (Space k))) none) ∙ value.1)
not_packed w names bound g k m op R at (inr (inr (v, named, N))) empty value tested =
    let knows = known_named (layout w) m.roots op v (R.knows.ractors k m at).roots named in
    ⊎_elim
    (λ s. free_of w names bound g R k m v at (free_back names k m empty).published N.well N.within knows N.free s.0 s.1 s.2 s.3 s.4)
    (λ s. N.open_left (promoted_of w names bound g R k m v at (free_back names k m empty).published N.well N.within knows s))
    (tested (root_in names (Space k) v) (value_named names (Space k) m.roots op ∙ ap (option_map (root_in names (Space k))) named))

-- whatever a pack answers
pub packed_by : (w w2 : Assembly) (who : RactorNo) (k : ℕ) (m m2 : Member) (op : Operand) (r : Outcome) → slice_get w.ractors k ≡ Some m → w2.ractors ≡ slice_set w.ractors k m2 → w2.channels ≡ w.channels
    → StandsAt who k → Packs op r m m2 → HasOutcome (record { who = who; action = Pack op }) (reply_of r) w w2
packed_by w w2 who k m m2 op outcome.Done at rs is stands (v, p, empty, named, P, same) =
    packed w w2 who k m op v p at stands named P empty (rs ∙ ap (slice_set w.ractors k) same) is (λ names bound g R. known_named (layout w) m.roots op v (R.knows.ractors k m at).roots named)
packed_by w w2 who k m m2 op outcome.NotEnabled at rs is stands (why, same) =
    stays_read (record { who = who; action = Pack op }) NotEnabled w w2 (same_assembly w2.ractors w.ractors w2.channels w.channels (rs ∙ set_again w.ractors w.ractors k m2 m refl at same) is)
    (λ names bound g R. (
      λ e.
          let z = allowed w names g (record { who = who; action = Pack op }) k m stands at e in
          not_packed w names bound g k m op R at why z.0 z.1 (tested_at w names g (record { who = who; action = Pack op }) k m stands at e),
      same_state (state_in w names g),
    ))
packed_by w w2 who k m m2 op (outcome.Refused f) at rs is stands (v, empty, named, F, same) =
    stays_read (record { who = who; action = Pack op }) (Refused f) w w2 (same_assembly w2.ractors w.ractors w2.channels w.channels (rs ∙ set_again w.ractors w.ractors k m2 m refl at same) is)
    (λ names bound g R.
    let value = value_named names (Space k) m.roots op ∙ ap (option_map (root_in names (Space k))) named in (
      k,
      actor_in names k m,
      stands,
      actor_at w names g k m at,
      (free names k m empty, (root_in names (Space k) v, value)),
      (
        root_in names (Space k) v,
        value,
        (⊎_elim (λ e. inl e) (λ e. inr (e.0, shell_of w names bound g R k m v at empty.published F.well F.within (known_named (layout w) m.roots op v (R.knows.ractors k m at).roots named) e.1)) F.why, same_state (state_in w names g)),
      ),
    ))
