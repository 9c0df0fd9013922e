-- A value that was read joins the roots.
use Rattle.std.proofs.Common.{◌≡◌, ℕ, ⊎_elim, [], ◌∷◌, ◌++◌, length, map, Option, Some, None, slice_get, Contains, sym, ap, ◌∙◌, subst, refl, arith}
use Rattle.std.specs.Prelude.{slice_index, slice_set}
use Rattle.std.specs.Option.{option_map, option_and_then}
use Rattle.std.proofs.lemmas.List.{length-map, map-append}
use Rattle.std.proofs.lemmas.List.Elements.{Contains-append_cases}
use Rattle.std.proofs.lemmas.Option.{none-some, same_Some}
use Rattle.rr_base.specs.declared.name.RactorNo.{RactorNo}
use Rattle.rr_space.specs.Graph.{Own, Value, At, Label, Object}
use Rattle.rr_space.specs.Labels.{label_of, triples_at, triples_of}
use Rattle.rr_space.specs.Tables.{Slot, Here, Led, Below, joined, numbered_object, outer_objects, renamed, renamed_triple}
use Rattle.rr_space.specs.Sound.{IsWell}
use Rattle.rr_space.specs.Views.{object_at, slot_object}
use Rattle.rr_space.specs.Parts.{value_of, below_ref, IsWithin}
use Rattle.rr_space.specs.Readings.{Owner, Space, Hand, Mail, Shown, Shared, Owned, Objects, Naming, Layout, Knows, Reads as TableReads, named, name_in}
use Rattle.rr_space.specs.declared.refer.Ref.{Ref}
use Rattle.rr_space.specs.declared.refer.Ref.TheVariants as ref
use Rattle.rr_space.specs.declared.label.Label.{Label as CodeLabel}
use Rattle.rr_space.proofs.Frames.{reading_same}
use Rattle.rr_space.proofs.Renaming.{contains_at, map_at, mapped_at, contains_map, contains_map_back}
use Rattle.rr_space.proofs.Hands.{some_back}
use Rattle.rr_space.proofs.Sounds.{gets, joined_in, none_in, in_first}
use Rattle.rr_space.proofs.Spaces.{known_at}
use Rattle.rr_world.specs.Views.{Member, Channels, Assembly, IsPublishedFit, seen_slots}
use Rattle.rr_world.specs.Layouts.{layout, space_slots, hand_slots, inbox_slots, port_slots, cluster_slots, MemberKnows, IsRead}
use Rattle.rr_world.specs.States.{Actor}
use Rattle.rr_world.specs.Readings.{each_from, actor_in, root_in, post_in, state_in}
use Rattle.rr_world.specs.Enabling.{StandsAt, named_value}
use Rattle.rr_world.specs.ObjectCases.{IsReadAs}
use Rattle.rr_world.specs.Changing.{HasRootsWithin, HasUnder, IsReadBy, Reads}
use Rattle.rr_world.specs.Packing.{named_ref}
use Rattle.rr_world.specs.Runs.{HasOutcome}
use Rattle.rr_world.specs.declared.step.Operand.{Operand}
use Rattle.rr_world.specs.declared.step.Action.TheVariants.{Read}
use Rattle.rr_world.specs.declared.step.Reply.TheVariants.{Done}
use Rattle.rr_world.specs.Outcomes.{reply_of}
use Rattle.rr_world.specs.declared.outcome.Outcome.{Outcome}
use Rattle.rr_world.specs.declared.outcome.Outcome.TheVariants as outcome
use Rattle.rr_world.proofs.Turned.{forward_seen, raw_seen}
use Rattle.rr_world.proofs.Enabled.{actor_at, allowed}
use Rattle.rr_world.proofs.Knowing.{knows_fewer, knows_either, read_set}
use Rattle.rr_world.proofs.Published.{outer_named}
use Rattle.rr_world.proofs.Seeing.{place_there}
use Rattle.rr_world.proofs.Lists.{seen_same, each_set}
use Rattle.rr_world.proofs.Making.{value_on, unmade, unmade_for}
use Rattle.rr_world.proofs.Operands.{known_named, ref_within, value_named}
use Rattle.rr_world.proofs.Staying.{same_state}
use Rattle.rr_world.proofs.Fitting.{waits_same}
use Rattle.rr_world.proofs.Rooting.{roots_and_more}

abbrev with_root : Member → Ref → Member
with_root m r = record m { roots = m.roots ++ r ∷ [] }

module _ (w : Assembly) (names : Naming) (bound : ℕ) (g : Objects) (R : IsRead w names bound g) (k : ℕ) (m : Member) (at : slice_get w.ractors k ≡ Some m) (fit : IsPublishedFit m.space m.published) where
  here_space : layout w (Space k) ≡ Some (seen_slots m)
  unfolding layout
  here_space = ap (option_map space_slots) at

  reads : TableReads (layout w) names g (Space k) (seen_slots m)
  reads = R.tables.reads (Space k) (seen_slots m) here_space

  space_known : Knows (joined m.space.below) (layout w)
  space_known = (R.knows.ractors k m at).space

  -- the object that a value leads to stands in the whole graph, under the value's name
  pub object_seen : (v : Ref) → Knows (below_ref v) (layout w) → (o : Object) → object_at m.space v ≡ Some o
      → (n : ℕ) × (y : Owned) × (root_in names (Space k) v ≡ At (Own n)) × (g n ≡ Some y) × (y.object ≡ named names (Space k) o)
  object_seen ref.Nil K o e = absurd (none-some o e)
  object_seen ref.False K o e = absurd (none-some o e)
  object_seen ref.True K o e = absurd (none-some o e)
  object_seen (ref.Int b) K o e = absurd (none-some o e)
  object_seen (ref.Symbol b) K o e = absurd (none-some o e)
  object_seen (ref.Class b) K o e = absurd (none-some o e)
  object_seen (ref.Ractor b) K o e = absurd (none-some o e)
  object_seen (ref.Shared p c) K o e =
      let a = K.known c.now.number (outer_objects c.now) (0, omega arith, refl) in
      let b = mapped_at (numbered_object c.now.number) a.0 p o (ap (λ os. slice_get os p) a.2 ∙ e) in (
        slice_index (names (Shared c.now.number)) p,
        record { owner = Shared c.now.number; object = named names (Shared c.now.number) b.0 },
        refl,
        (R.tables.reads (Shared c.now.number) (map Here a.0) a.1).here p b.0 (map_at Here a.0 p b.0 b.1),
        outer_named names (Space k) c.now.number b.0 ∙ ap (named names (Space k)) b.2,
      )
  object_seen (ref.Local i) K o e = by (slice_get m.space.slots i) (slice_get m.space.below i) refl refl e
    where
      by : (x : Option Slot) (b : Option Below) → slice_get m.space.slots i ≡ x → slice_get m.space.below i ≡ b → slot_object x b ≡ Some o
          → (n : ℕ) × (y : Owned) × (At (Own (slice_index (names (Space k)) i)) ≡ At (Own n)) × (g n ≡ Some y) × (y.object ≡ named names (Space k) o)
      by None b s t is = absurd (none-some o is)
      by (Some (Here raw)) b s t is =
          let x = raw_seen w names bound g R k m at fit i raw s in
          (slice_index (names (Space k)) i, x.0, refl, x.1, x.2 ∙ ap (named names (Space k)) (same_Some raw o is))
      by (Some (Led c q)) None s t is = absurd (none-some o is)
      by (Some (Led c q)) (Some b) s t is =
          let known = knows_fewer (layout w) b (joined m.space.below) (λ x has. joined_in m.space.below i b x t has) space_known in
          let a = known_at b (layout w) known c q o is in (
            slice_index (names (Space k)) i,
            record { owner = Shared c; object = named names (Shared c) a.1 },
            refl,
            ap g (reads.led i c q (forward_seen m fit i c q s)) ∙ (R.tables.reads (Shared c) a.0 a.2).here q a.1 a.3,
            outer_named names (Space k) c a.1 ∙ ap (named names (Space k)) a.4,
          )

  -- what has something under a label is an object
  object_under : (v : Ref) (t : Label × Value) → Contains (triples_at m.space v) t → (o : Object) × (object_at m.space v ≡ Some o)
  object_under v t has = by (object_at m.space v) refl
    where
      by : (x : Option Object) → object_at m.space v ≡ x → (o : Object) × (object_at m.space v ≡ Some o)
      by None e = absurd (none_in t (subst (λ (y : Option Object). Contains (triples_of y) t) e has))
      by (Some o) e = (o, e)

  -- the object that an operand is, which has something under a label
  pub under_seen : (op : Operand) (v : Ref) (t : Label × Value) → named_ref m.roots op ≡ Some v → Contains (triples_at m.space v) t
      → (n : ℕ) × (y : Owned) × (named_value (actor_in names k m).roots op ≡ Some (At (Own n))) × (g n ≡ Some y) × (y.object.triples ≡ map (renamed_triple (name_in names (Space k))) (triples_at m.space v))
  under_seen op v t is_named has =
      let o = object_under v t has in
      let q = object_seen v (known_named (layout w) m.roots op v (R.knows.ractors k m at).roots is_named) o.0 o.1 in (
        q.0,
        q.1,
        value_on w names bound g R k m at op v is_named ∙ ap (λ x. Some x) q.2,
        q.3,
        ap (λ (x : Object). x.triples) q.4 ∙ ap (λ (x : Option Object). map (renamed_triple (name_in names (Space k))) (triples_of x)) (sym o.1),
      )

  -- in the machine, a read is of an object that has the label
  under_on : (who : RactorNo) (op : Operand) (l : Label) → HasUnder op l m
      → (n : ℕ) × (y : Owned) × (x : Value) × (named_value (actor_in names k m).roots op ≡ Some (At (Own n))) × (g n ≡ Some y) × Contains y.object.triples (l, x)
  under_on who op l (v, x, is_named, has) =
      let s = under_seen op v (l, x) is_named has in
      (s.0, s.1, _, s.2, s.3, subst (λ ts. Contains ts (l, renamed (name_in names (Space k)) x)) (sym s.4) (contains_map (renamed_triple (name_in names (Space k))) (triples_at m.space v) (l, x) has))

  -- a value that has a name in the machine is an object
  pub object_there : (v : Ref) (n : ℕ) → IsWell m.space → IsWithin (length m.space.slots) v → root_in names (Space k) v ≡ At (Own n) → (o : Object) × (object_at m.space v ≡ Some o)
  object_there ref.Nil n well h e = let z : ⊥ = cc in absurd z
  object_there ref.False n well h e = let z : ⊥ = cc in absurd z
  object_there ref.True n well h e = let z : ⊥ = cc in absurd z
  object_there (ref.Int b) n well h e = let z : ⊥ = cc in absurd z
  object_there (ref.Symbol b) n well h e = let z : ⊥ = cc in absurd z
  object_there (ref.Class b) n well h e = let z : ⊥ = cc in absurd z
  object_there (ref.Ractor b) n well h e = let z : ⊥ = cc in absurd z
  object_there (ref.Shared p c) n well h e = gets (outer_objects c.now) p (let many = length-map c.now.own (numbered_object c.now.number) in let lt = h.within in omega (arith, many, lt))
  object_there (ref.Local i) n well h e =
      let x = gets m.space.slots i h in
      let b = gets m.space.below i (let many = well.sound.count in omega (arith, h, many)) in
      by x.0 b.0 x.1 b.1
    where
      by : (x : Slot) (b : Below) → slice_get m.space.slots i ≡ Some x → slice_get m.space.below i ≡ Some b → (o : Object) × (slot_object (slice_get m.space.slots i) (slice_get m.space.below i) ≡ Some o)
      by (Here o) b s t = (o, ap (λ y. slot_object y (slice_get m.space.below i)) s)
      by (Led c q) b s t =
          let known = knows_fewer (layout w) b (joined m.space.below) (λ y has. joined_in m.space.below i b y t has) space_known in
          let o = place_there b (layout w) known c q (well.sound.slots i (Led c q) b s t) in
          (o.0, ap (λ y. slot_object y (slice_get m.space.below i)) s ∙ ap (slot_object (Some (Led c q))) t ∙ o.1)

  under_back : (who : RactorNo) (op : Operand) (l : Label) → IsWell m.space → HasRootsWithin m
      → (n : ℕ) × (y : Owned) × (x : Value) × (named_value (actor_in names k m).roots op ≡ Some (At (Own n))) × (g n ≡ Some y) × Contains y.object.triples (l, x) → HasUnder op l m
  under_back who op l well within (n, y, x, is_named, here, has) =
      let v = some_back (root_in names (Space k)) (named_ref m.roots op) (At (Own n)) (sym (value_named names (Space k) m.roots op) ∙ is_named) in
      let o = object_there v.0 n well (ref_within (length m.space.slots) m.roots op v.0 within v.1) v.2 in
      let q = object_seen v.0 (known_named (layout w) m.roots op v.0 (R.knows.ractors k m at).roots v.1) o.0 o.1 in
      let name : q.0 ≡ n = let z : At (Own q.0) ≡ At (Own n) = sym q.2 ∙ v.2 in cc in
      let one : named names (Space k) o.0 ≡ y.object = sym q.4 ∙ ap (λ (z : Owned). z.object) (same_Some q.1 y (sym q.3 ∙ ap g name ∙ here)) in
      let b = contains_map_back (renamed_triple (name_in names (Space k))) o.0.triples (l, x) (subst (λ (z : Object). Contains z.triples (l, x)) (sym one) has) in
      let label : b.0.0 ≡ l = ap (λ (t : Label × Value). t.0) b.2 in
      (v.0, b.0.1, v.1, subst (λ (z : Option Object). Contains (triples_of z) (l, b.0.1)) (sym o.1) (subst (λ j. Contains o.0.triples (j, b.0.1)) label b.1))

module _ (w w2 : Assembly) (who : RactorNo) (k : ℕ) (m m2 : Member) (op : Operand) (label : CodeLabel) (v r : Ref) (at : slice_get w.ractors k ≡ Some m) (rs : w2.ractors ≡ slice_set w.ractors k m2)
    (is : w2.channels ≡ w.channels) (stands : StandsAt who k) (A : IsReadBy op (label_of label) v r m m2) where
  set : w2.ractors ≡ slice_set w.ractors k (with_root m r)
  set = rs ∙ ap (slice_set w.ractors k) A.now_is

  same_tables : (h : Owner) → layout w2 h ≡ layout w h
  unfolding layout
  same_tables (Space j) = ap (λ xs. option_map space_slots (slice_get xs j)) set ∙ seen_same (option_map space_slots) w.ractors k j m (with_root m r) at refl
  same_tables (Hand j) = ap (λ xs. option_and_then hand_slots (slice_get xs j)) set ∙ seen_same (option_and_then hand_slots) w.ractors k j m (with_root m r) at refl
  same_tables (Mail d u) = ap (λ (x : Channels). option_and_then (inbox_slots u) (slice_get x.inboxes d)) is
  same_tables (Shown d u) = ap (λ (x : Channels). option_and_then (port_slots u) (slice_get x.ports d)) is
  same_tables (Shared d) = ap (λ (x : Channels). option_map cluster_slots (slice_get x.store.clusters d)) is

  root_known : (tables : Layout) → MemberKnows tables m → MemberKnows tables (with_root m r)
  root_known tables K = record {
    space = K.space;
    roots = λ q has. ⊎_elim
        (λ old. K.roots q old)
        (λ new. ⊎_elim
        (λ one. subst (λ (z : Ref). Knows (below_ref z) tables) one
        (knows_either tables (joined m.space.below) (below_ref v) (below_ref r) A.known K.space (known_named tables m.roots op v K.roots A.named)))
        (λ none. absurd (none_in q none))
        (in_first r [] q new))
        (Contains-append_cases m.roots (r ∷ []) q has);
    hand = K.hand;
    plan = K.plan;
    published = K.published;
    keyed = K.keyed;
  }

  abbrev under : HasUnder op (label_of label) m
  under = (v, value_of r, A.named, contains_at (triples_at m.space v) A.first.0 (label_of label, value_of r) A.first.1)

  read_as : (names : Naming) (bound : ℕ) (g : Objects) → IsRead w names bound g → IsReadAs k (actor_in names k m) op (label_of label) (state_in w names g) (state_in w2 names g)
  read_as names bound g R =
      let s = under_seen w names bound g R k m at A.fit op v (label_of label, value_of r) A.named under.3 in
      record {
        name = s.0;
        owned = s.1;
        value = root_in names (Space k) r;
        named = s.2;
        here = s.3;
        first = (
          A.first.0,
          ap (λ ts. slice_get ts A.first.0) s.4 ∙ map_at (renamed_triple (name_in names (Space k))) (triples_at m.space v) A.first.0 (label_of label, value_of r) A.first.1,
          λ j y lt e.
              let b = mapped_at (renamed_triple (name_in names (Space k))) (triples_at m.space v) j (label_of label, y) (ap (λ ts. slice_get ts j) (sym s.4) ∙ e) in
              let l_is : b.0.0 ≡ label_of label = ap (λ (t : Label × Value). t.0) b.2 in
              A.first.2 j b.0.1 lt (b.1 ∙ ap (λ l. Some (l, b.0.1)) l_is),
        );
        objects = λ n. refl;
        ractors = ap (each_from (actor_in names) 0) set
            ∙ each_set (actor_in names) (actor_in names) 0 w.ractors k k (with_root m r) (omega arith) (λ j n x d z a. refl)
            ∙ ap (λ vs. slice_set (each_from (actor_in names) 0 w.ractors) k (let a : Actor = record (actor_in names k m) { roots = vs } in a)) (map-append (root_in names (Space k)) m.roots (r ∷ []));
        post = ap (post_in names) is;
      }

  read_done : HasOutcome (record { who = who; action = Read op label }) Done w w2
  read_done names bound g R = (
    names,
    bound,
    g,
    read_set w w2 k m (with_root m r) at set is refl (waits_same m (with_root m r) refl refl) (roots_and_more (length m.space.slots) (length m.space.slots) m.roots r (omega arith) A.within A.root) (root_known (layout w) (R.knows.ractors k m at)) R (reading_same (layout w) (layout w2) names bound g same_tables R.tables),
    (k, actor_in names k m, stands, actor_at w names g k m at, under_on w names bound g R k m at A.fit who op (label_of label) under, read_as names bound g R),
    record { others = λ h off. refl; slots = λ j x i there lt off. refl },
  )

-- whatever a read answers
pub read_of : (w w2 : Assembly) (who : RactorNo) (k : ℕ) (m m2 : Member) (op : Operand) (label : CodeLabel) (r : Outcome) → slice_get w.ractors k ≡ Some m → w2.ractors ≡ slice_set w.ractors k m2
    → w2.channels ≡ w.channels → StandsAt who k → Reads op (label_of label) r m m2 → HasOutcome (record { who = who; action = Read op label }) (reply_of r) w w2
read_of w w2 who k m m2 op label outcome.Done at rs is stands (v, r, A) = read_done w w2 who k m m2 op label v r at rs is stands A
read_of w w2 who k m m2 op label outcome.NotEnabled at rs is stands a =
    unmade w w2 who k m m2 (Read op label) at rs is a.4 (λ names bound g R e.
    a.3 (under_back w names bound g R k m at a.2 who op (label_of label) a.0 a.1 (allowed w names g (record { who = who; action = Read op label }) k m stands at e)))
read_of w w2 who k m m2 op label (outcome.Refused f) at rs is stands a =
    unmade_for w w2 who k m m2 (Read op label) f at rs is a.3 (λ names bound g R.
    (k, actor_in names k m, stands, actor_at w names g k m at, under_on w names bound g R k m at a.1 who op (label_of label) a.2, (a.0, same_state (state_in w names g))))
