-- One object of a space becomes another.
use Rattle.std.proofs.Common.{◌≡◌, ℕ, ◌+◌, ◌<◌, ◌⊎◌, ⊎_elim, inl, inr, List, length, map, Option, Some, None, slice_get, Contains, true, sym, ap, ◌∙◌, subst, refl, arith}
use Rattle.std.specs.Prelude.{slice_index, slice_set}
use Rattle.std.specs.Option.{option_map, option_and_then}
use Rattle.std.proofs.lemmas.Option.{none-some, same_Some, slice_get_within}
use Rattle.rr_space.specs.Graph.{Own, Published, Value, Plain, At, Label, Object, shell}
use Rattle.rr_space.specs.Tables.{Slot, Here, Led, renamed, renamed_triple}
use Rattle.rr_space.specs.Parts.{value_of, below_ref, IsWithin}
use Rattle.rr_space.specs.Readings.{Owner, Space, Hand, Mail, Shown, Shared, Owned, Objects, Naming, Layout, IsReading, IsSound, IsInLayout, Knows, named, name_in}
use Rattle.rr_space.specs.Steps.{Remakes, IsRemade, IsNamed, IsChange, IsNewValue}
use Rattle.rr_space.specs.declared.refer.Ref.{Ref}
use Rattle.rr_space.specs.declared.refer.Ref.TheVariants as ref
use Rattle.rr_space.proofs.Frames.{owner_cases, object_same, within_same}
use Rattle.rr_space.proofs.Remaking.{remaking_is_a_step}
use Rattle.rr_space.proofs.Renaming.{at_contains, contains_map, contains_map_back}
use Rattle.rr_space.proofs.Sounds.{gets}
use Rattle.rr_world.specs.Views.{Member, Channels, Assembly, seen_slots, seen_through}
use Rattle.rr_world.specs.Layouts.{cluster_slots, layout, space_slots, hand_slots, inbox_slots, port_slots, message_slots, MemberKnows, IsRead}
use Rattle.rr_world.specs.Readings.{each_from, actor_in, shells_in, planned_in, published_names, root_in, value_in, post_in, state_in, parcel_in}
use Rattle.rr_world.specs.ObjectCases.{IsChangedTo}
use Rattle.rr_world.specs.Changing.{IsRewritten}
use Rattle.rr_world.proofs.Lists.{eq_cases, set_at, set_off, set_back, seen_same, each_set}
use Rattle.rr_world.proofs.Namings.{actor_same, same_actor, plan_stands, published_stands, post_same, hand_same, home_stands}
use Rattle.rr_world.proofs.Knowing.{read_set}
use Rattle.rr_world.proofs.Published.{in_place}
use Rattle.rr_world.proofs.Enabled.{actor_at}
use Rattle.rr_world.proofs.Operands.{root_within}
use Rattle.rr_world.proofs.Rooting.{roots_keep}
use Rattle.rr_world.proofs.Changes.{set_length}
use Rattle.rr_world.proofs.Fitting.{waits_same}
use Rattle.rr_world.proofs.Forwarding.{IsOut, seen_here, seen_length, seen_set}
use Rattle.rr_world.proofs.Holding.{same_rooted}

module _ (w w2 : Assembly) (k n : ℕ) (m m2 : Member) (o p : Object) (vs : List Ref) (at : slice_get w.ractors k ≡ Some m) (here : slice_get (seen_slots m) n ≡ Some (Here o))
    (A : IsRewritten n p vs m m2) (rs : w2.ractors ≡ slice_set w.ractors k m2) (is : w2.channels ≡ w.channels)
    (values : (l : Label) (x : Value) → Contains p.triples (l, x) → ((j : Label) × Contains o.triples (j, x)) ⊎ ((v : Ref) × Contains vs v × (x ≡ value_of v))) where
  abbrev known : Type 0
  known = (v : Ref) → Contains vs v → Knows (below_ref v) (layout w)

  abbrev reached : Objects → List Value → Naming → Type 0
  reached g us names = (v : Ref) → Contains vs v → IsNewValue g us (root_in names (Space k) v)

  abbrev after : List Slot
  after = slice_set (seen_slots m) n (Here p)

  rest : (h : Owner) → (h ≡ Space k → ⊥) → layout w2 h ≡ layout w h
  unfolding layout
  rest (Space j) q = ap (λ xs. option_map space_slots (slice_get xs j)) rs ∙ ap (option_map space_slots) (set_off w.ractors k j m2 (λ e. q (ap Space e)))
  rest (Hand j) q = ap (λ xs. option_and_then hand_slots (slice_get xs j)) rs ∙ seen_same (option_and_then hand_slots) w.ractors k j m m2 at (ap (option_map message_slots) A.hand)
  rest (Mail d u) q = ap (λ (x : Channels). option_and_then (inbox_slots u) (slice_get x.inboxes d)) is
  rest (Shown d u) q = ap (λ (x : Channels). option_and_then (port_slots u) (slice_get x.ports d)) is
  rest (Shared d) q = ap (λ (x : Channels). option_map cluster_slots (slice_get x.store.clusters d)) is

  was : layout w (Space k) ≡ Some (seen_slots m)
  unfolding layout
  was = ap (option_map space_slots) at

  -- the slot is none of a published plan
  out : IsOut m.published n
  out = seen_here m.space m.published n o A.fit here

  seen_now : seen_slots m2 ≡ after
  seen_now = ap (λ x. seen_through x m2.space.slots) A.published ∙ ap (seen_through m.published) A.slots ∙ seen_set m.published m.space.slots n (Here p) out

  many : length (seen_slots m) ≡ length m.space.slots
  many = seen_length m.published m.space.slots

  now : layout w2 (Space k) ≡ Some after
  unfolding layout
  now = ap (λ xs. option_map space_slots (slice_get xs k)) rs ∙ ap (option_map space_slots) (set_at w.ractors k m2 (slice_get_within w.ractors k m at)) ∙ ap (λ ss. Some ss) seen_now

  space_apart : (c : ℕ) → Space k ≡ Shared c → ⊥
  space_apart c e = cc

  less : n < length (seen_slots m)
  less = slice_get_within (seen_slots m) n (Here o) here

  size : length after ≡ length (seen_slots m)
  size = set_length (seen_slots m) n (Here p)

  at_n : slice_get after n ≡ Some (Here p)
  at_n = set_at (seen_slots m) n (Here p) less

  -- what stands in a slot now stood there before, or is the new object
  back : (j : ℕ) (x : Slot) → slice_get after j ≡ Some x → ((j ≡ n) × (Here p ≡ x)) ⊎ ((j ≡ n → ⊥) × (slice_get (seen_slots m) j ≡ Some x))
  back j x e = ⊎_elim
      (λ same. inl (same, same_Some _ x (sym at_n ∙ ap (slice_get after) (sym same) ∙ e)))
      (λ differ. inr (differ, sym (set_off (seen_slots m) n j (Here p) differ) ∙ e))
      (eq_cases j n)

  forth : (j : ℕ) (x : Slot) → (j ≡ n → ⊥) → slice_get (seen_slots m) j ≡ Some x → slice_get after j ≡ Some x
  forth j x differ e = set_off (seen_slots m) n j (Here p) differ ∙ e

  not_led : (c q : ℕ) → slice_get (seen_slots m) n ≡ Some (Led c q) → ⊥
  not_led c q e = let z : Here o ≡ Led c q = same_Some _ _ (sym here ∙ e) in cc

  no_new_led : (c q : ℕ) → Here p ≡ Led c q → ⊥
  no_new_led c q e = cc

  wider : (x : Value) → IsInLayout (layout w) (seen_slots m) x → IsInLayout (layout w) after x
  wider (Plain i) s = s
  wider (At (Own i)) s = omega (arith, size, s)
  wider (At (Published c q)) s = s

  -- a value that came in leads to a slot of the space
  valued : known → (v : Ref) → Contains vs v → IsInLayout (layout w) (seen_slots m) (value_of v)
  valued K v has = let x = at_contains vs v has in by v (subst (λ j. IsWithin j v) (sym many) (root_within (length m.space.slots) vs x.0 v A.values x.1)) (K v has)
    where
      by : (r : Ref) → IsWithin (length (seen_slots m)) r → Knows (below_ref r) (layout w) → IsInLayout (layout w) (seen_slots m) (value_of r)
      by ref.Nil h L = tt
      by ref.False h L = tt
      by ref.True h L = tt
      by (ref.Int b) h L = tt
      by (ref.Symbol b) h L = tt
      by (ref.Class b) h L = tt
      by (ref.Ractor b) h L = tt
      by (ref.Local s) h L = h
      by (ref.Shared q c) h L = in_place (layout w) (length (seen_slots m)) (ref.Shared q c) h L

  -- each value of the new object is within
  all_within : IsSound (layout w) (seen_slots m) → known → (l : Label) (x : Value) → Contains p.triples (l, x) → IsInLayout (layout w) (seen_slots m) x
  all_within S K l x has = ⊎_elim (λ old. S.within n o old.0 x here old.1) (λ came. subst (IsInLayout (layout w) (seen_slots m)) (sym came.2) (valued K came.0 came.1)) (values l x has)

  remakes : IsSound (layout w) (seen_slots m) → known → Remakes (Space k) 0 (seen_slots m) after (layout w) (layout w2)
  remakes S K = record {
    was = inl was;
    now = now;
    rest = rest;
    unshared = space_apart;
    size = omega (arith, size);
    kept_here = λ i x e. ⊎_elim (λ same. (p, ap (slice_get after) same ∙ at_n)) (λ differ. (x, forth i (Here x) differ e)) (eq_cases i n);
    kept_led = λ i c q e. ⊎_elim (λ same. absurd (not_led c q (ap (slice_get (seen_slots m)) (sym same) ∙ e))) (λ differ. forth i (Led c q) differ e) (eq_cases i n);
    fresh_here = λ i c q e. let lt = slice_get_within after i (Led c q) e in omega (arith, size, lt);
    sound = record {
      within = λ i x l y e has. wider y (⊎_elim
          (λ new. all_within S K l y (subst (λ (s : Object). Contains s.triples (l, y)) (sym (same_here x new.1)) has))
          (λ old. S.within i x l y old.1 has)
          (back i (Here x) e));
      led = λ i c q e. ⊎_elim (λ new. absurd (no_new_led c q new.1)) (λ old. S.led i c q old.1) (back i (Led c q) e);
    };
  }
    where
      same_here : (x : Object) → Here p ≡ Here x → p ≡ x
      same_here x e = cc

  module _ (names : Naming) (bound : ℕ) (g : Objects) (R : IsRead w names bound g) (K : known) (names2 : Naming) (g2 : Objects)
      (after_reading : IsReading (layout w2) names2 (bound + 0) g2) (N : IsNamed (Space k) names names2) (M : IsRemade (Space k) (seen_slots m) after names names2 g g2) where
    sound : IsSound (layout w) (seen_slots m)
    sound = R.tables.sound (Space k) (seen_slots m) was

    kept_shared : (c : ℕ) → names2 (Shared c) ≡ names (Shared c)
    kept_shared c = N.rest (Shared c) (λ e. space_apart c (sym e))

    stand : (i : ℕ) → i < length (seen_slots m) → slice_index (names2 (Space k)) i ≡ slice_index (names (Space k)) i
    stand i lt = let x = gets (seen_slots m) i lt in M.kept i x.0 x.1

    stand_all : (i : ℕ) → i < length m.space.slots → slice_index (names2 (Space k)) i ≡ slice_index (names (Space k)) i
    stand_all i lt = stand i (omega (arith, lt, many))

    pub value_stays : (x : Value) → IsInLayout (layout w) (seen_slots m) x → value_in names2 (Space k) x ≡ value_in names (Space k) x
    value_stays x within = within_same (layout w) (seen_slots m) (Space k) (Space k) names names2 x stand (λ c u e. kept_shared c) within

    abbrev name : ℕ
    name = slice_index (names (Space k)) n

    stood : g name ≡ Some (record { owner = Space k; object = named names (Space k) o })
    stood = (R.tables.reads (Space k) (seen_slots m) was).here n o here

    stands : g2 name ≡ Some (record { owner = Space k; object = named names2 (Space k) p })
    stands = ap g2 (sym (stand n less)) ∙ M.own n p at_n

    old_stays : (j : ℕ) (x : Owned) → (j ≡ name → ⊥) → g j ≡ Some x → g2 j ≡ Some x
    old_stays j x differ e = ⊎_elim
        (λ mine.
        let st = R.tables.only j x e in
        let t_is : st.table ≡ (seen_slots m) = same_Some _ _ (sym st.is_table ∙ ap (layout w) mine ∙ was) in
        let raw : slice_get (seen_slots m) st.place ≡ Some (Here st.raw) = ap (λ t. slice_get t st.place) (sym t_is) ∙ st.is_raw in
        let lt = slice_get_within (seen_slots m) st.place (Here st.raw) raw in
        let name_is : slice_index (names (Space k)) st.place ≡ j = ap (λ h. slice_index (names h) st.place) (sym mine) ∙ st.is_name in
        let old = (R.tables.reads (Space k) (seen_slots m) was).here st.place st.raw raw in
        let x_is : record { owner = Space k; object = named names (Space k) st.raw } ≡ x = same_Some _ x (sym old ∙ ap g name_is ∙ e) in
        let new = M.own st.place st.raw (forth st.place (Here st.raw) (λ q. differ (sym name_is ∙ ap (slice_index (names (Space k))) q)) raw) in
        let same : named names2 (Space k) st.raw ≡ named names (Space k) st.raw =
        object_same (layout w) (seen_slots m) (Space k) (Space k) names names2 st.place st.raw stand (λ c u e2. kept_shared c) sound raw in
        let there : g2 j ≡ Some (record { owner = Space k; object = named names2 (Space k) st.raw }) = ap g2 (sym name_is ∙ sym (stand st.place lt)) ∙ new in
        let stays_so : g2 j ≡ Some (record { owner = Space k; object = named names (Space k) st.raw }) = subst (λ (y : Object). g2 j ≡ Some (record { owner = Space k; object = y })) same there in
        subst (λ (y : Owned). g2 j ≡ Some y) x_is stays_so)
        (λ other. M.others j x e other)
        (owner_cases x.owner (Space k))

    none_new : (j : ℕ) (y : Owned) → g j ≡ None → g2 j ≡ Some y → ⊥
    none_new j y none e =
        let st = after_reading.only j y e in
        ⊎_elim
        (λ mine.
        let t_is : st.table ≡ after = same_Some _ _ (sym st.is_table ∙ ap (layout w2) mine ∙ now) in
        let raw : slice_get after st.place ≡ Some (Here st.raw) = ap (λ t. slice_get t st.place) (sym t_is) ∙ st.is_raw in
        let lt : st.place < length (seen_slots m) = let l = slice_get_within after st.place (Here st.raw) raw in omega (arith, size, l) in
        let name_is : slice_index (names (Space k)) st.place ≡ j = sym (stand st.place lt) ∙ ap (λ h. slice_index (names2 h) st.place) (sym mine) ∙ st.is_name in
        ⊎_elim
        (λ new. none-some _ (sym none ∙ ap g (sym name_is ∙ ap (slice_index (names (Space k))) new.0) ∙ stood))
        (λ old. none-some _ (sym none ∙ ap g (sym name_is) ∙ (R.tables.reads (Space k) (seen_slots m) was).here st.place st.raw old.1))
        (back st.place (Here st.raw) raw))
        (λ other.
        let old : layout w y.owner ≡ Some st.table = sym (rest y.owner other) ∙ st.is_table in
        let there = (R.tables.reads y.owner st.table old).here st.place st.raw st.is_raw in
        let name_is : slice_index (names y.owner) st.place ≡ j = ap (λ ns. slice_index ns st.place) (sym (N.rest y.owner other)) ∙ st.is_name in
        none-some _ (sym none ∙ ap g (sym name_is) ∙ there))
        (owner_cases y.owner (Space k))

    others : (j : ℕ) → (j ≡ name → ⊥) → g2 j ≡ g j
    others j differ = by (g j) refl
      where
        by : (x : Option Owned) → g j ≡ x → g2 j ≡ g j
        by (Some x) e = old_stays j x differ e ∙ sym e
        by None e = on (g2 j) refl ∙ sym e
          where
            on : (x : Option Owned) → g2 j ≡ x → g2 j ≡ None
            on None q = q
            on (Some y) q = absurd (none_new j y e q)

    old_named : named names2 (Space k) o ≡ named names (Space k) o
    old_named = object_same (layout w) (seen_slots m) (Space k) (Space k) names names2 n o stand (λ c u e. kept_shared c) sound here

    -- a value of the new object was in the old one, or is one that came in
    new_value : (us : List Value) → reached g us names → (l : Label) (u : Value) → Contains (named names2 (Space k) p).triples (l, u)
        → IsNewValue g us u ⊎ ((x : Owned) × (j : Label) × (g name ≡ Some x) × Contains x.object.triples (j, u))
    new_value us rooted l u has =
        let b = contains_map_back (renamed_triple (name_in names2 (Space k))) p.triples (l, u) has in
        let u_is : renamed (name_in names2 (Space k)) b.0.1 ≡ u = ap (λ (t : Label × Value). t.1) b.2 in
        let old_is : value_in names (Space k) b.0.1 ≡ u = sym (value_stays b.0.1 (all_within sound K b.0.0 b.0.1 b.1)) ∙ u_is in
        ⊎_elim
        (λ old. inr (
          record { owner = Space k; object = named names (Space k) o },
          old.0,
          stood,
          subst (λ x. Contains (named names (Space k) o).triples (old.0, x)) old_is (contains_map (renamed_triple (name_in names (Space k))) o.triples (old.0, b.0.1) old.1),
        ))
        (λ came. inl (subst (IsNewValue g us) (ap (value_in names (Space k)) (sym came.2) ∙ old_is) (rooted came.0 came.1)))
        (values b.0.0 b.0.1 b.1)

    change : ((o.frozen ≡ true) ⊎ (o.kind ≡ shell) → p ≡ o) → (us : List Value) → reached g us names → IsChange k us g g2
    change shut us rooted = record {
      others = λ j x e differ. old_stays j x (λ same. differ (ap (λ (y : Owned). y.owner) (same_Some x _ (sym e ∙ ap g same ∙ stood)))) e;
      closed = λ j x e closed. ⊎_elim
          (λ same.
          let x_is : record { owner = Space k; object = named names (Space k) o } ≡ x = same_Some _ x (sym stood ∙ ap g (sym same) ∙ e) in
          let so : p ≡ o = shut (subst (λ (y : Owned). (y.object.frozen ≡ true) ⊎ (y.object.kind ≡ shell)) (sym x_is) closed) in
          ap g2 same ∙ stands ∙ ap (λ (y : Object). Some (record { owner = Space k; object = y })) (ap (named names2 (Space k)) so ∙ old_named) ∙ ap (λ y. Some y) x_is)
          (λ differ. old_stays j x differ e)
          (eq_cases j name);
      stays = λ j x e mine. ⊎_elim
          (λ same. (named names2 (Space k) p, ap g2 same ∙ stands))
          (λ differ. (x.object, old_stays j x differ e ∙ ap (λ (h : Owner). Some (record { owner = h; object = x.object })) mine))
          (eq_cases j name);
      fresh = λ j y none e. absurd (none_new j y none e);
      values = λ j y l u e mine has. ⊎_elim
          (λ same.
          let y_is : record { owner = Space k; object = named names2 (Space k) p } ≡ y = same_Some _ y (sym stands ∙ ap g2 (sym same) ∙ e) in
          ⊎_elim (λ z. inl z) (λ z. inr (z.0, z.1, ap g same ∙ z.2, z.3)) (new_value us rooted l u (subst (λ (z : Owned). Contains z.object.triples (l, u)) (sym y_is) has)))
          (λ differ. inr (y, l, sym (others j differ) ∙ e, has))
          (eq_cases j name);
    }

    actor : actor_in names2 k m2 ≡ actor_in names k m
    actor =
        let hands = N.rest (Hand k) (λ z. let y : ⊥ = cc in y) in
        let roots : map (root_in names2 (Space k)) m2.roots ≡ map (root_in names (Space k)) m.roots =
        ap (map (root_in names2 (Space k))) A.roots ∙ roots_keep (length m.space.slots) names names2 (Space k) m.roots A.within stand_all kept_shared in
        let count : length m2.space.slots ≡ length m.space.slots = ap length A.slots ∙ set_length m.space.slots n (Here p) in
        same_actor roots (ap (option_map (parcel_in names2 (Hand k))) A.hand ∙ hand_same names names2 (Hand k) m.hand hands kept_shared)
        (ap (option_map (shells_in names2 k)) A.home ∙ home_stands names names2 k m.space.slots m.hand m.home A.away stand_all) A.ticket
        (ap (option_map (planned_in names2 k)) A.plan ∙ plan_stands names names2 k (length m.space.slots) m.plan A.planned stand_all)
        (ap (option_map (published_names names2 k)) A.published ∙ published_stands names names2 k m.space m.published A.fit stand_all) count A.limit A.next A.limits A.runs

    changed_to : ((o.frozen ≡ true) ⊎ (o.kind ≡ shell) → p ≡ o) → reached g (actor_in names k m).roots names
        → IsChangedTo k (actor_in names k m) name (named names (Space k) o) (named names2 (Space k) p) (state_in w names g) (state_in w2 names2 g2)
    changed_to shut rooted =
        let hands : (i : ℕ) → names2 (Hand i) ≡ names (Hand i) = λ i. N.rest (Hand i) (λ z. let y : ⊥ = cc in y) in
        let mails : (i u : ℕ) → names2 (Mail i u) ≡ names (Mail i u) = λ i u. N.rest (Mail i u) (λ z. let y : ⊥ = cc in y) in
        let shows : (i u : ℕ) → names2 (Shown i u) ≡ names (Shown i u) = λ i u. N.rest (Shown i u) (λ z. let y : ⊥ = cc in y) in
        record {
          was = stood;
          now = stands;
          others = others;
          objects = change shut (actor_in names k m).roots rooted;
          ractors = ap (each_from (actor_in names2) 0) rs
              ∙ each_set (actor_in names) (actor_in names2) 0 w.ractors k k m2 (omega arith)
              (λ j i x d z a. actor_same names names2 i x (N.rest (Space i) (λ y. d (let f : i ≡ k = cc in omega arith))) (hands i) kept_shared)
              ∙ ap (slice_set (each_from (actor_in names) 0 w.ractors) k) actor
              ∙ set_back (each_from (actor_in names) 0 w.ractors) k (actor_in names k m) (actor_at w names g k m at);
          post = ap (post_in names2) is ∙ post_same names names2 w.channels mails shows kept_shared;
        }

  rewritten_knows : (tables : Layout) → ((v : Ref) → Contains vs v → Knows (below_ref v) tables) → MemberKnows tables m → MemberKnows tables m2
  rewritten_knows tables L K = record {
    space = record { known = λ c os has. ⊎_elim (λ old. K.space.known c os old) (λ came. (L came.0 came.1).known c os came.2) (A.below (c, os) has) };
    roots = λ r has. K.roots r (subst (λ (xs : List Ref). Contains xs r) A.roots has);
    hand = λ q e. K.hand q (sym A.hand ∙ e);
    plan = λ q e. K.plan q (sym A.plan ∙ e);
    published = λ q e. K.published q (sym A.published ∙ e);
    keyed = A.keyed tables K.space L K.keyed;
  }

  -- from each reading before there is one after, and the object of that name is another
  pub rewritten : (names : Naming) (bound : ℕ) (g : Objects) → IsRead w names bound g → known → ((o.frozen ≡ true) ⊎ (o.kind ≡ shell) → p ≡ o)
      → reached g (actor_in names k m).roots names
      → (names2 : Naming) × (bound2 : ℕ) × (g2 : Objects) × IsRead w2 names2 bound2 g2
      × IsChangedTo k (actor_in names k m) (slice_index (names (Space k)) n) (named names (Space k) o) (named names2 (Space k) p) (state_in w names g) (state_in w2 names2 g2)
      × ((l : Label) (x : Value) → Contains p.triples (l, x) → value_in names2 (Space k) x ≡ value_in names (Space k) x) × IsNamed (Space k) names names2
      × ((i : ℕ) → i < length m.space.slots → slice_index (names2 (Space k)) i ≡ slice_index (names (Space k)) i)
  rewritten names bound g R K shut rooted =
      let S = R.tables.sound (Space k) (seen_slots m) was in
      let q = remaking_is_a_step (Space k) 0 (seen_slots m) after (layout w) (layout w2) names bound g (remakes S K) R.tables in (
        q.0,
        bound + 0,
        q.1,
        read_set w w2 k m m2 at rs is A.owner (waits_same m m2 A.home A.ticket) (same_rooted m m2 (ap length A.slots ∙ set_length m.space.slots n (Here p)) A.roots (R.held.roots k m at)) (rewritten_knows (layout w) K (R.knows.ractors k m at)) R q.2,
        changed_to names bound g R K q.0 q.1 q.2 q.3 q.4 shut rooted,
        λ l x has. value_stays names bound g R K q.0 q.1 q.2 q.3 q.4 x (all_within S K l x has),
        q.3,
        λ i lt. stand_all names bound g R K q.0 q.1 q.2 q.3 q.4 i lt,
      )
