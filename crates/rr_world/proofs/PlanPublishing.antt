-- The plan in a hand is published.
use Rattle.std.proofs.Common.{◌≡◌, ℕ, ◌+◌, ◌<◌, ◌⊎◌, ⊎_elim, inl, inr, List, [], ◌∷◌, ◌++◌, length, map, Option, Some, None, slice_get, Contains, sym, ap, ◌∙◌, subst, refl, arith, length-set}
use Rattle.std.specs.Prelude.{slice_index, slice_set}
use Rattle.std.specs.Option.{option_map, option_and_then}
use Rattle.std.proofs.lemmas.List.{length-append, length-map}
use Rattle.std.proofs.lemmas.Option.{none-some, same_Some, slice_get_within}
use Rattle.rr_base.specs.declared.name.RactorNo.{RactorNo}
use Rattle.rr_base.specs.declared.fault.Fault.{Fault}
use Rattle.rr_base.specs.declared.fault.Fault.TheVariants as fault
use Rattle.rr_base.specs.declared.event.StoreEvent.TheVariants as event
use Rattle.rr_space.specs.Graph.{Own, Published, Value, Plain, At, Label, Object, IsAt, IsSolid, Matches, SameTriple, SameValue}
use Rattle.rr_space.specs.Tables.{Slot, Here, Led, Whole, below_hold, outer_objects, renamed_triple, resolve, resolve_slot, resolve_triple, resolve_object}
use Rattle.rr_space.specs.Parts.{below_ref}
use Rattle.rr_space.specs.Readings.{Owner, Space, Hand, Mail, Shown, Shared, Owned, Objects, Naming, IsShared, Knows, AreClustersInOrder, named, name_in}
use Rattle.rr_space.specs.Steps.{IsNamed, MayBePublished, Publishes}
use Rattle.rr_space.proofs.Renaming.{at_contains, contains_at, contains_map, contains_map_back, map_at, mapped_at}
use Rattle.rr_space.proofs.Shares.{publishing_is_turning}
use Rattle.rr_space.proofs.Sounds.{in_first}
use Rattle.rr_space.proofs.Zips.{zip_at}
use Rattle.rr_share.specs.declared.planned.Plan.{Plan}
use Rattle.rr_store.specs.Stores.{Store, HasEvent, constant_of}
use Rattle.rr_base.specs.declared.event.StoreEvent.{StoreEvent}
use Rattle.rr_base.specs.declared.name.Sym.{Sym}
use Rattle.rr_store.specs.declared.constant.ConstValue.{ConstValue}
use Rattle.rr_store.specs.Answers.{PublishRefusal, numbered_next}
use Rattle.rr_world.specs.Views.{PublishedPlan, Member, Assembly, seen_slots}
use Rattle.rr_world.specs.Layouts.{cluster_slots, layout, space_slots, hand_slots, inbox_slots, port_slots, MemberKnows, IsKnowing, IsRead}
use Rattle.rr_world.specs.States.{Actor, Archive}
use Rattle.rr_world.specs.Readings.{each_from, actor_in, planned_in, mailbox_in, showcase_in, constant_in, state_in}
use Rattle.rr_world.specs.Enabling.{StandsAt, HoldsPlan}
use Rattle.rr_world.specs.ConstantCases.{IsSetRefused}
use Rattle.rr_world.specs.Planning.{IsPlanTaken}
use Rattle.rr_world.specs.Runs.{HasOutcome}
use Rattle.rr_world.specs.declared.step.Action.TheVariants as action
use Rattle.rr_world.specs.declared.step.Reply.TheVariants.{NotEnabled, Refused}
use Rattle.rr_world.specs.declared.step.Reply.TheVariants as reply
use Rattle.rr_world.proofs.Enabled.{actor_at}
use Rattle.rr_world.proofs.Fitting.{fits_set, waits_same}
use Rattle.rr_world.proofs.Forwarding.{seen_forwards, seen_length, seen_plain}
use Rattle.rr_world.proofs.Grown.{actor_kept, cluster_now, constants_kept, inboxes_kept, knows_grown, member_grown, message_grown, others_same, place_grown, ports_kept, vacant}
use Rattle.rr_world.proofs.Knowing.{owned_set}
use Rattle.rr_world.proofs.Lists.{each_set, eq_cases, seen_same, set_at, set_off, set_cases}
use Rattle.rr_world.proofs.Namings.{same_post}
use Rattle.rr_world.proofs.Published.{at_place, place_known}
use Rattle.rr_world.proofs.Seeing.{space_table}
use Rattle.rr_world.proofs.Staying.{one_renamed, same_state, stays}
use Rattle.rr_world.proofs.Holding.{rooted_set, inboxes_same, ports_same}

-- the store has the cluster behind the others, and the history tells of it
pub record IsPublishedInto (who : RactorNo) (x : Whole) (s t : Store) : Type 0 where
  pub room : HasEvent s
  pub clusters : t.clusters ≡ s.clusters ++ x ∷ []
  pub constants : t.constants ≡ s.constants
  pub limit : t.limit ≡ s.limit
  pub history : t.history ≡ s.history ++ event.Published (length s.clusters) (length x.own) who ∷ []

-- the plan that the hand has then
abbrev pub published_plan : Store → Plan → PublishedPlan
published_plan s p = record { places = p.places; cluster = numbered_next s p.cluster }

abbrev pub with_published : Member → PublishedPlan → Member
with_published m p = record m { plan = None; published = Some p }

module _ (w w2 : Assembly) (who : RactorNo) (k : ℕ) (m m1 : Member) (p : Plan) (at : slice_get w.ractors k ≡ Some m) (T : IsPlanTaken p m m1)
    (rs : w2.ractors ≡ slice_set w.ractors k (with_published m (published_plan w.channels.store p)))
    (boxes : w2.channels.inboxes ≡ w.channels.inboxes) (ports : w2.channels.ports ≡ w.channels.ports) (S : IsPublishedInto who (numbered_next w.channels.store p.cluster) w.channels.store w2.channels.store) where
  abbrev m2 : Member
  m2 = with_published m (published_plan w.channels.store p)

  abbrev c : ℕ
  c = length w.channels.store.clusters

  plain : m.published ≡ None
  plain = ap (λ (y : Member). y.published) (sym T.now_is) ∙ T.empty.published

  space_was : layout w (Space k) ≡ Some m.space.slots
  space_was = space_table w k m at ∙ ap (λ (ss : List Slot). Some ss) (seen_plain m plain)

  space_now : layout w2 (Space k) ≡ Some (seen_slots m2)
  unfolding layout
  space_now = ap (λ xs. option_map space_slots (slice_get xs k)) rs ∙ ap (option_map space_slots) (set_at w.ractors k m2 (slice_get_within w.ractors k m at))

  rest : (h : Owner) → (h ≡ Space k → ⊥) → (h ≡ Shared c → ⊥) → layout w2 h ≡ layout w h
  unfolding layout
  rest (Space j) q r = ap (λ xs. option_map space_slots (slice_get xs j)) rs ∙ ap (option_map space_slots) (set_off w.ractors k j m2 (λ e. q (ap Space e)))
  rest (Hand j) q r = ap (λ xs. option_and_then hand_slots (slice_get xs j)) rs ∙ seen_same (option_and_then hand_slots) w.ractors k j m m2 at refl
  rest (Mail d u) q r = ap (λ xs. option_and_then (inbox_slots u) (slice_get xs d)) boxes
  rest (Shown d u) q r = ap (λ xs. option_and_then (port_slots u) (slice_get xs d)) ports
  rest (Shared d) q r = others_same w w2 (numbered_next w.channels.store p.cluster) S.clusters d (λ e. r (ap Shared e))

  known : (names : Naming) (bound : ℕ) (g : Objects) → IsRead w names bound g → Knows p.cluster.below (layout w)
  known names bound g R = (R.knows.ractors k m at).plan p T.held

  publishes : (names : Naming) (bound : ℕ) (g : Objects) → IsRead w names bound g → Publishes k c p.places m.space.slots (seen_slots m2) p.cluster.own (layout w) (layout w2)
  publishes names bound g R =
      let F = seen_forwards m.space (published_plan w.channels.store p) (record { distinct = T.planned.distinct; count = T.planned.count; same = T.planned.same }) in
      record {
        space = space_was;
        vacant = vacant w w2 (numbered_next w.channels.store p.cluster) S.clusters;
        space2 = space_now;
        cluster = cluster_now w w2 (numbered_next w.channels.store p.cluster) S.clusters;
        rest = rest;
        size = seen_length m2.published m.space.slots;
        led = F.named;
        others = F.others;
        distinct = T.planned.distinct;
        count = sym T.planned.count;
        same = λ n i q there here.
            let s = T.planned.same n i there in
            (s.0, s.2, subst (λ (y : Object). Matches (IsAt p.places) (resolve_object m.space.slots s.0) y) (same_Some s.1 q (sym s.3 ∙ here)) s.5);
        shut = λ i q l j here has. T.sound.within i q here l (At (Own j)) has;
        outward = λ i q l d r here has.
            place_grown w w2 (numbered_next w.channels.store p.cluster) S.clusters d r
            (place_known (layout w) p.cluster.below d r (known names bound g R) (T.sound.within i q here l (At (Published d r)) has));
      }

  -- what the World knows of clusters then
  knowing : IsKnowing w → IsKnowing w2
  knowing K = record {
    ractors = λ j y there. ⊎_elim
        (λ same. subst (MemberKnows (layout w2)) same one)
        (λ old. member_grown w w2 (numbered_next w.channels.store p.cluster) S.clusters y (K.ractors j y old))
        (set_cases w.ractors k j m2 y (ap (λ xs. slice_get xs j) (sym rs) ∙ there));
    store = λ n v here. knows_grown w w2 (numbered_next w.channels.store p.cluster) S.clusters (below_ref v) (K.store n v (constant_same n ∙ here));
    inboxes = λ d i e there has. message_grown w w2 (numbered_next w.channels.store p.cluster) S.clusters e.message (K.inboxes d i e (ap (λ xs. slice_get xs d) (sym boxes) ∙ there) has);
    ports = λ d q e there has. message_grown w w2 (numbered_next w.channels.store p.cluster) S.clusters e.message (K.ports d q e (ap (λ xs. slice_get xs d) (sym ports) ∙ there) has);
  }
    where
      constant_same : (n : Sym) → constant_of w.channels.store n ≡ constant_of w2.channels.store n
      constant_same n = ap (λ cs. option_and_then (λ z. z) (slice_get cs n.0)) (sym S.constants)

      hold : Knows (below_hold (numbered_next w.channels.store p.cluster)) (layout w2)
      hold = record {
        known = λ d os has. ⊎_elim
            (λ first.
            let number_is : c ≡ d = ap (λ (e : ℕ × List Object). e.0) first in
            let objects_are : outer_objects (numbered_next w.channels.store p.cluster) ≡ os = ap (λ (e : ℕ × List Object). e.1) first in (
              p.cluster.own,
              ap (λ n. layout w2 (Shared n)) (sym number_is) ∙ cluster_now w w2 (numbered_next w.channels.store p.cluster) S.clusters,
              ap (λ n. outer_objects (let x : Whole = record p.cluster { number = n } in x)) (sym number_is) ∙ objects_are,
            ))
            (λ later. (knows_grown w w2 (numbered_next w.channels.store p.cluster) S.clusters p.cluster.below ((K.ractors k m at).plan p T.held)).known d os later)
            (in_first (c, outer_objects (numbered_next w.channels.store p.cluster)) p.cluster.below (d, os) has);
      }

      one : MemberKnows (layout w2) m2
      one =
          let M = member_grown w w2 (numbered_next w.channels.store p.cluster) S.clusters m (K.ractors k m at) in
          record {
            space = M.space;
            roots = M.roots;
            hand = M.hand;
            plan = λ q is. absurd (none-some q is);
            published = λ q is. subst (λ (y : PublishedPlan). Knows (below_hold y.cluster) (layout w2)) (same_Some (published_plan w.channels.store p) q is) hold;
            keyed = M.keyed;
          }

  -- a cluster that there was is an earlier one
  earlier_number : (d : ℕ) (u : List Slot) → layout w (Shared d) ≡ Some u → d < c
  unfolding layout
  earlier_number d u is = by (slice_get w.channels.store.clusters d) refl is
    where
      by : (y : Option Whole) → slice_get w.channels.store.clusters d ≡ y → option_map cluster_slots y ≡ Some u → d < c
      by None e none = absurd (none-some u none)
      by (Some y) e some = slice_get_within w.channels.store.clusters d y e

  ordered : Knows p.cluster.below (layout w) → AreClustersInOrder (layout w) → AreClustersInOrder (layout w2)
  ordered K O = record {
    solid = λ d i u o is here. ⊎_elim
        (λ same. T.sound.solid i o (own_at i u o (same_Some u _ (sym is ∙ ap (λ n. layout w2 (Shared n)) same ∙ cluster_now w w2 (numbered_next w.channels.store p.cluster) S.clusters)) here))
        (λ other. O.solid d i u o (sym (others_same w w2 (numbered_next w.channels.store p.cluster) S.clusters d other) ∙ is) here)
        (eq_cases d c);
    earlier = λ d i f r u o l is here has. ⊎_elim
        (λ same.
        let own = own_at i u o (same_Some u _ (sym is ∙ ap (λ n. layout w2 (Shared n)) same ∙ cluster_now w w2 (numbered_next w.channels.store p.cluster) S.clusters)) here in
        let place = place_known (layout w) p.cluster.below f r K (T.sound.within i o own l (At (Published f r)) has) in
        let lt = earlier_number f place.0 place.2 in
        omega (arith, lt, same))
        (λ other. O.earlier d i f r u o l (sym (others_same w w2 (numbered_next w.channels.store p.cluster) S.clusters d other) ∙ is) here has)
        (eq_cases d c);
  }
    where
      own_at : (i : ℕ) (u : List Slot) (o : Object) → u ≡ map Here p.cluster.own → slice_get u i ≡ Some (Here o) → slice_get p.cluster.own i ≡ Some o
      own_at i u o is here =
          let b = mapped_at Here p.cluster.own i (Here o) (ap (λ t. slice_get t i) (sym is) ∙ here) in
          let z : b.0 ≡ o = let y : Here b.0 ≡ Here o = b.2 in cc in
          b.1 ∙ ap (λ y. Some y) z

  module _ (names : Naming) (bound : ℕ) (g : Objects) (R : IsRead w names bound g) where
    object_at : (n i : ℕ) → IsAt p.places n i → (o q : Object) × (slice_get m.space.slots n ≡ Some (Here o)) × (slice_get p.cluster.own i ≡ Some q) × IsSolid o × Matches (IsAt p.places) (resolve_object m.space.slots o) q
    object_at n i there =
        let s = T.planned.same n i there in
        (s.0, s.1, s.2, s.3, record { frozen = s.4; no_shell = λ e. (T.sound.solid i s.1 s.3).no_shell (sym s.5.kind ∙ e) }, s.5)

    -- where a value of a planned object leads
    leads : (o q : Object) (i : ℕ) → slice_get m.space.slots i ≡ Some (Here o) → Matches (IsAt p.places) (resolve_object m.space.slots o) q → (l : Label) (v : Value) (j : ℕ) → Contains o.triples (l, v)
        → renamed_triple (name_in names (Space k)) (l, v) ≡ (l, At (Own j)) → Contains (planned_in names k p) j ⊎ ((y : Owned) × (g j ≡ Some y) × IsShared y.owner)
    leads o q i here match l (Plain n) j has is = absurd (let z : Plain n ≡ At (Own j) = ap (λ (t : Label × Value). t.1) is in let y : ⊥ = cc in y)
    leads o q i here match l (At (Published d r)) j has is =
        let name : slice_index (names (Shared d)) r ≡ j = let z : At (Own (slice_index (names (Shared d)) r)) ≡ At (Own j) = ap (λ (t : Label × Value). t.1) is in cc in
        let x = at_place (layout w) names bound g R.tables d r ((R.tables.sound (Space k) m.space.slots space_was).within i o l (At (Published d r)) here has) in
        inr (x.0, ap g (sym name) ∙ x.1, (d, x.2))
    leads o q i here match l (At (Own n)) j has is = by (slice_get m.space.slots n) refl
      where
        name : slice_index (names (Space k)) n ≡ j
        name = let z : At (Own (slice_index (names (Space k)) n)) ≡ At (Own j) = ap (λ (t : Label × Value). t.1) is in cc

        matched : resolve m.space.slots (At (Own n)) ≡ At (Own n) → Contains (planned_in names k p) j
        matched same =
            let a = at_contains o.triples (l, At (Own n)) has in
            let b = zip_at (SameTriple (IsAt p.places)) (map (resolve_triple m.space.slots) o.triples) q.triples a.0 (l, resolve m.space.slots (At (Own n))) match.triples (map_at (resolve_triple m.space.slots) o.triples a.0 (l, At (Own n)) a.1) in
            ends b.0.1 (subst (λ x. SameValue (IsAt p.places) x b.0.1) same b.2.1)
          where
            ends : (y : Value) → SameValue (IsAt p.places) (At (Own n)) y → Contains (planned_in names k p) j
            ends (Plain z) e = absurd e
            ends (At (Own i2)) e = subst (Contains (planned_in names k p)) name (contains_map (slice_index (names (Space k))) p.places n (contains_at p.places i2 n e))
            ends (At (Published d r)) e = absurd e

        by : (x : Option Slot) → slice_get m.space.slots n ≡ x → Contains (planned_in names k p) j ⊎ ((y : Owned) × (g j ≡ Some y) × IsShared y.owner)
        by None e = inl (matched (ap (λ z. At (resolve_slot z n)) e))
        by (Some (Here raw)) e = inl (matched (ap (λ z. At (resolve_slot z n)) e))
        by (Some (Led d r)) e =
            let x = at_place (layout w) names bound g R.tables d r ((R.tables.sound (Space k) m.space.slots space_was).led n d r e) in
            inr (x.0, ap g (sym name ∙ (R.tables.reads (Space k) m.space.slots space_was).led n d r e) ∙ x.1, (d, x.2))

    may : MayBePublished k (planned_in names k p) g
    may = record {
      own = λ n has.
          let z = contains_map_back (slice_index (names (Space k))) p.places n has in
          let i = at_contains p.places z.0 z.1 in
          let s = object_at z.0 i.0 i.1 in (
            record { owner = Space k; object = named names (Space k) s.0 },
            ap g (sym z.2) ∙ (R.tables.reads (Space k) m.space.slots space_was).here z.0 s.0 s.2,
            refl,
            record { frozen = s.4.frozen; no_shell = s.4.no_shell },
          );
      shut = λ n x l j has here triple.
          let z = contains_map_back (slice_index (names (Space k))) p.places n has in
          let i = at_contains p.places z.0 z.1 in
          let s = object_at z.0 i.0 i.1 in
          let it : record { owner = Space k; object = named names (Space k) s.0 } ≡ x = same_Some _ x (sym ((R.tables.reads (Space k) m.space.slots space_was).here z.0 s.0 s.2) ∙ ap g z.2 ∙ here) in
          let b = contains_map_back (renamed_triple (name_in names (Space k))) s.0.triples (l, At (Own j)) (subst (λ (y : Owned). Contains y.object.triples (l, At (Own j))) (sym it) triple) in
          let label : b.0.0 ≡ l = ap (λ (t : Label × Value). t.0) b.2 in
          leads s.0 s.1 z.0 s.2 s.5 l b.0.1 j (subst (λ y. Contains s.0.triples (y, b.0.1)) label b.1) (ap (λ y. (y, (renamed_triple (name_in names (Space k)) b.0).1)) (sym label) ∙ b.2);
    }

  pub published : StandsAt who k → HasOutcome (record { who = who; action = action.Publish }) (reply.Published c) w w2
  published stands names bound g R =
      let q = publishing_is_turning k c p.places m.space.slots (seen_slots m2) p.cluster.own (layout w) (layout w2) names bound g (publishes names bound g R) R.tables in
      let names2 = q.0 in
      let x = numbered_next w.channels.store p.cluster in
      let plan : (actor_in names k m).plan ≡ Some (planned_in names k p) = ap (option_map (planned_in names k)) T.held in (
        names2,
        bound,
        q.1,
        record {
          tables = q.2;
          knows = knowing R.knows;
          owned = owned_set w w2 k m m2 at rs refl R.owned;
          held = record {
            roots = rooted_set w.ractors w2.ractors k m2 rs (R.held.roots k m at) R.held.roots;
            inboxes = inboxes_same w.channels w2.channels boxes R.held.inboxes;
            ports = ports_same w.channels w2.channels ports R.held.ports;
          };
          inboxes = ap length boxes ∙ R.inboxes ∙ sym (length-set w.ractors k m2) ∙ sym (ap length rs);
          ports = ap length ports ∙ R.ports ∙ sym (length-set w.ractors k m2) ∙ sym (ap length rs);
          fits = fits_set w w2 k m m2 at rs ports (waits_same m m2 refl refl) R.fits;
          clusters = ordered (known names bound g R) R.clusters;
        },
        (
          k,
          actor_in names k m,
          stands,
          actor_at w names g k m at,
          (planned_in names k p, plan),
          (
            planned_in names k p,
            plan,
            record {
              number = refl;
              room = S.room;
              may = may names bound g R;
              objects = q.4;
              ractors = ap (each_from (actor_in names2) 0) rs
                  ∙ each_set (actor_in names) (actor_in names2) 0 w.ractors k k m2 (omega arith) (λ j n y d e a. actor_kept w w2 x S.clusters names names2 q.3 n y (R.knows.ractors n y (ap (slice_get w.ractors) (let z : n ≡ j = omega (arith, e) in z) ∙ a)))
                  ∙ ap (λ (b : Actor). slice_set (each_from (actor_in names) 0 w.ractors) k (let z : Actor = record b { plan = None; published = Some (map (slice_index (names2 (Space k))) p.places) } in z)) (actor_kept w w2 x S.clusters names names2 q.3 k m (R.knows.ractors k m at))
                  ∙ ap (λ ns. slice_set (each_from (actor_in names) 0 w.ractors) k (let z : Actor = record (actor_in names k m) { plan = None; published = Some (map (slice_index ns) p.places) } in z)) (q.3.rest (Space k) (λ e. let z : ⊥ = cc in z));
              post = same_post
                  (ap (each_from (mailbox_in names2) 0) boxes ∙ inboxes_kept w w2 x S.clusters names names2 q.3 R.knows)
                  (ap (each_from (showcase_in names2) 0) ports ∙ ports_kept w w2 x S.clusters names names2 q.3 R.knows)
                  (archive_is names names2 q.3 R.knows);
            },
          ),
        ),
        one_renamed w (Shared c) (record { who = who; action = action.Publish }) q.3 refl (λ j e. let z : ⊥ = cc in z),
      )
    where
      archive_is : (names names2 : Naming) (N : IsNamed (Shared c) names names2) → IsKnowing w
          → (let a : Archive = record { clusters = length w2.channels.store.clusters; constants = map (option_map (constant_in names2)) w2.channels.store.constants; history = w2.channels.store.history; limit = w2.channels.store.limit } in a)
          ≡ record { clusters = c + 1; constants = map (option_map (constant_in names)) w.channels.store.constants; history = w.channels.store.history ++ event.Published c (length (planned_in names k p)) who ∷ []; limit = w.channels.store.limit }
      archive_is names names2 N K =
          ap (λ n. let a : Archive = record { clusters = n; constants = map (option_map (constant_in names2)) w2.channels.store.constants; history = w2.channels.store.history; limit = w2.channels.store.limit } in a)
          (ap length S.clusters ∙ length-append w.channels.store.clusters (numbered_next w.channels.store p.cluster ∷ []))
          ∙ ap (λ cs. let a : Archive = record { clusters = c + 1; constants = cs; history = w2.channels.store.history; limit = w2.channels.store.limit } in a)
          (ap (map (option_map (constant_in names2))) S.constants ∙ constants_kept w w2 (numbered_next w.channels.store p.cluster) S.clusters names names2 N K)
          ∙ ap (λ es. let a : Archive = record { clusters = c + 1; constants = map (option_map (constant_in names)) w.channels.store.constants; history = es; limit = w2.channels.store.limit } in a)
          (S.history ∙ ap (λ n. w.channels.store.history ++ event.Published c n who ∷ []) (T.planned.count ∙ sym (length-map p.places (slice_index (names (Space k))))))
          ∙ ap (λ l. let a : Archive = record { clusters = c + 1; constants = map (option_map (constant_in names)) w.channels.store.constants; history = w.channels.store.history ++ event.Published c (length (planned_in names k p)) who ∷ []; limit = l } in a) S.limit

-- a publish that is refused
pub publish_refused : (w w2 : Assembly) (who : RactorNo) (k : ℕ) (m : Member) (p : Plan) (f : Fault) → slice_get w.ractors k ≡ Some m → m.plan ≡ Some p → StandsAt who k → w2 ≡ w → PublishRefusal f w.channels.store
    → HasOutcome (record { who = who; action = action.Publish }) (Refused f) w w2
publish_refused w w2 who k m p f at held stands same why =
    stays (record { who = who; action = action.Publish }) (Refused f) w w2 same
    (λ names g. (k, actor_in names k m, stands, actor_at w names g k m at, (planned_in names k p, ap (option_map (planned_in names k)) held), refusal f why names g))
  where
    refusal : (f : Fault) → PublishRefusal f w.channels.store → (names : Naming) (g : Objects) → IsSetRefused f (state_in w names g) (state_in w names g)
    refusal fault.HistoryFull y names g = (y, same_state (state_in w names g))
    refusal fault.Memory y names g = (y, same_state (state_in w names g))
    refusal fault.NotShareable y names g = absurd y
    refusal fault.Closed y names g = absurd y
    refusal (fault.Syntax line column kind) y names g = absurd y
    refusal (fault.Limit kind) y names g = absurd y
    refusal fault.HoldsShell y names g = absurd y
    refusal fault.NotMain y names g = absurd y
    refusal (fault.Unknown n) y names g = absurd y
    refusal fault.NotShown y names g = absurd y
    refusal (fault.UsesOuter ns) y names g = absurd y
    refusal fault.UsesYield y names g = absurd y
    refusal fault.StepLimit y names g = absurd y
    refusal (fault.BadTrace line) y names g = absurd y
    refusal fault.NotMine y names g = absurd y

-- without a plan there is none to publish
pub no_plan_held : (names : Naming) (k : ℕ) (m : Member) → m.plan ≡ None → HoldsPlan (actor_in names k m) → ⊥
no_plan_held names k m none holds = none-some holds.0 (sym (ap (option_map (planned_in names k)) none) ∙ holds.1)

-- the same, under a number that the store's next one is
pub published_under : (w w2 : Assembly) (who : RactorNo) (k : ℕ) (m m1 : Member) (p : Plan) → slice_get w.ractors k ≡ Some m → IsPlanTaken p m m1 → w2.ractors ≡ slice_set w.ractors k (with_published m (published_plan w.channels.store p))
    → w2.channels.inboxes ≡ w.channels.inboxes → w2.channels.ports ≡ w.channels.ports → IsPublishedInto who (numbered_next w.channels.store p.cluster) w.channels.store w2.channels.store
    → (number : ℕ) → number ≡ length w.channels.store.clusters → StandsAt who k → HasOutcome (record { who = who; action = action.Publish }) (reply.Published number) w w2
published_under w w2 who k m m1 p at T rs boxes ports S n is stands =
    subst (λ x. HasOutcome (record { who = who; action = action.Publish }) (reply.Published x) w w2) (sym is) (published w w2 who k m m1 p at T rs boxes ports S stands)

-- what a hand has of a plan that was taken out of it and is published, and of one that comes back
pub kept_published : (m m1 new : Member) (p : Plan) (s : Store) (x : Whole) → IsPlanTaken p m m1 → x ≡ numbered_next s p.cluster
    → new ≡ record m1 { hand = None; home = None; ticket = None; plan = None; published = Some (record { places = p.places; cluster = x }) } → new ≡ with_published m (published_plan s p)
kept_published m m1 new p s x T same is =
    is ∙ ap (λ (y : Member). let z : Member = record y { hand = None; home = None; ticket = None; plan = None; published = Some (record { places = p.places; cluster = x }) } in z) T.now_is
    ∙ ap (λ h. let z : Member = record m { hand = h; home = None; ticket = None; plan = None; published = Some (record { places = p.places; cluster = x }) } in z) (sym (ap (λ (y : Member). y.hand) (sym T.now_is) ∙ T.empty.hand))
    ∙ ap (λ h. let z : Member = record m { home = h; ticket = None; plan = None; published = Some (record { places = p.places; cluster = x }) } in z) (sym (ap (λ (y : Member). y.home) (sym T.now_is) ∙ T.empty.home))
    ∙ ap (λ h. let z : Member = record m { ticket = h; plan = None; published = Some (record { places = p.places; cluster = x }) } in z) (sym (ap (λ (y : Member). y.ticket) (sym T.now_is) ∙ T.empty.ticket))
    ∙ ap (λ h. let z : Member = record m { plan = None; published = Some (record { places = p.places; cluster = h }) } in z) same

pub kept_plan : (m m1 new : Member) (p q : Plan) → IsPlanTaken p m m1 → q ≡ p → new ≡ record m1 { hand = None; home = None; ticket = None; plan = Some q; published = None } → new ≡ m
kept_plan m m1 new p q T same is =
    is ∙ ap (λ (y : Member). let z : Member = record y { hand = None; home = None; ticket = None; plan = Some q; published = None } in z) T.now_is
    ∙ ap (λ h. let z : Member = record m { hand = h; home = None; ticket = None; plan = Some q; published = None } in z) (sym (ap (λ (y : Member). y.hand) (sym T.now_is) ∙ T.empty.hand))
    ∙ ap (λ h. let z : Member = record m { home = h; ticket = None; plan = Some q; published = None } in z) (sym (ap (λ (y : Member). y.home) (sym T.now_is) ∙ T.empty.home))
    ∙ ap (λ h. let z : Member = record m { ticket = h; plan = Some q; published = None } in z) (sym (ap (λ (y : Member). y.ticket) (sym T.now_is) ∙ T.empty.ticket))
    ∙ ap (λ h. let z : Member = record m { plan = h; published = None } in z) (ap (λ (y : Plan). Some y) same ∙ sym T.held)
    ∙ ap (λ h. let z : Member = record m { published = h } in z) (sym (ap (λ (y : Member). y.published) (sym T.now_is) ∙ T.empty.published))

abbrev stored : List Whole → List (Option ConstValue) → List (StoreEvent Sym) → ℕ → Store
stored ws cs es l = record { clusters = ws; constants = cs; history = es; limit = l }

pub same_store : (s t : Store) → t.clusters ≡ s.clusters → t.constants ≡ s.constants → t.history ≡ s.history → t.limit ≡ s.limit → t ≡ s
same_store s t a b c d =
    ap (λ ws. stored ws t.constants t.history t.limit) a ∙ ap (λ cs. stored s.clusters cs t.history t.limit) b ∙ ap (λ es. stored s.clusters s.constants es t.limit) c ∙ ap (stored s.clusters s.constants s.history) d
