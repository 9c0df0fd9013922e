-- Messages go from a hand into a port, and from a port into a hand.
use Rattle.std.proofs.Common.{◌≡◌, ℕ, ⊎_elim, inr, [], length, length-set, Option, Some, None, slice_get, Contains, sym, ap, ◌∙◌, subst, refl, arith}
use Rattle.std.specs.Prelude.{slice_set}
use Rattle.std.specs.Option.{option_map, option_and_then}
use Rattle.std.proofs.lemmas.Option.{slice_get_within}
use Rattle.rr_space.specs.Readings.{Owner, Space, Hand, Mail, Shown, Shared, Naming, Objects, IsReading}
use Rattle.rr_space.specs.Steps.{Goes, IsHandedOn, IsNamed}
use Rattle.rr_space.proofs.Hands.{hands_on}
use Rattle.rr_inbox.specs.declared.entry.Entry.{Entry}
use Rattle.rr_port.specs.Ports.{Port}
use Rattle.rr_store.specs.Stores.{constant_of}
use Rattle.rr_move.specs.declared.home.Home.{Home}
use Rattle.rr_world.specs.Views.{Member, Channels, Assembly, with_port, AreRootsWithin}
use Rattle.rr_world.specs.Layouts.{cluster_slots, layout, space_slots, hand_slots, inbox_slots, port_slots, port_inside, message_slots, MemberKnows, IsKnowing, DoHomesFit, IsRead, IsMessageKnown, AreFound}
use Rattle.rr_world.specs.States.{Actor, Parcel, with_case}
use Rattle.rr_world.specs.Readings.{each_from, actor_in, parcel_in, shells_in, showcase_in, post_in, state_in}
use Rattle.rr_world.proofs.Knowing.{order_on, knows_on, member_on, owned_set, emptied_knows, holding_knows, message_on}
use Rattle.rr_world.proofs.Lists.{eq_cases, set_at, set_off, seen_same, each_set, set_cases}
use Rattle.rr_world.proofs.Namings.{KeepsShared, actor_same, handed, post_shown, names_moved, parcel_moved, shared_kept, showcase_same}
use Rattle.rr_world.proofs.Offering.{objects_stay}
use Rattle.rr_world.proofs.PortInsides.{IsComing, IsLeaving}
use Rattle.rr_world.proofs.Holding.{rooted_set, inboxes_same, ports_set, coming_found, leaving_found}

knows_ported : (w w2 : Assembly) (k c : ℕ) (m2 : Member) (p2 : Port) → w2.ractors ≡ slice_set w.ractors k m2 → w2.channels ≡ with_port w.channels c p2 → MemberKnows (layout w) m2
    → ((e : Entry) → Contains (port_inside p2) e → IsMessageKnown (layout w) e.message) → IsKnowing w → IsKnowing w2
knows_ported w w2 k c m2 p2 rs is M I K = record {
  ractors = λ j m at. member_on w w2 (ap (λ (x : Channels). x.store.clusters) is) m (⊎_elim (λ same. subst (MemberKnows (layout w)) same M) (λ there. K.ractors j m there) (set_cases w.ractors k j m2 m (ap (λ xs. slice_get xs j) (sym rs) ∙ at)));
  store = λ n v here. knows_on w w2 (ap (λ (x : Channels). x.store.clusters) is) _ (K.store n v (ap (λ (x : Channels). constant_of x.store n) (sym is) ∙ here));
  inboxes = λ d i e at has. message_on w w2 (ap (λ (x : Channels). x.store.clusters) is) e.message (K.inboxes d i e (ap (λ (x : Channels). slice_get x.inboxes d) (sym is) ∙ at) has);
  ports = λ d p e at has. message_on w w2 (ap (λ (x : Channels). x.store.clusters) is) e.message (⊎_elim
      (λ same. I e (subst (λ (x : Port). Contains (port_inside x) e) (sym same) has))
      (λ there. K.ports d p e there has)
      (set_cases w.channels.ports c d p2 p (ap (λ (x : Channels). slice_get x.ports d) (sym is) ∙ at)));
}

-- a reading of the World with one ractor and one port in others' places
read_ported : {names names2 : Naming} {bound bound2 : ℕ} {g g2 : Objects} (w w2 : Assembly) (k c : ℕ) (m m2 : Member) (p2 : Port) → slice_get w.ractors k ≡ Some m → w2.ractors ≡ slice_set w.ractors k m2
    → w2.channels ≡ with_port w.channels c p2 → m2.space.owner ≡ m.space.owner → AreRootsWithin (length m2.space.slots) m2.roots → AreFound (port_inside p2) → MemberKnows (layout w) m2 → ((e : Entry) → Contains (port_inside p2) e → IsMessageKnown (layout w) e.message)
    → (DoHomesFit w → DoHomesFit w2) → IsRead w names bound g → IsReading (layout w2) names2 bound2 g2 → IsRead w2 names2 bound2 g2
read_ported w w2 k c m m2 p2 at rs is same within found M I fits R tables = record {
  tables = tables;
  knows = knows_ported w w2 k c m2 p2 rs is M I R.knows;
  owned = owned_set w w2 k m m2 at rs same R.owned;
  held = record {
    roots = rooted_set w.ractors w2.ractors k m2 rs within R.held.roots;
    inboxes = inboxes_same w.channels w2.channels (ap (λ (x : Channels). x.inboxes) is) R.held.inboxes;
    ports = ports_set w.channels w2.channels c p2 (ap (λ (x : Channels). x.ports) is) found R.held.ports;
  };
  inboxes = ap (λ (x : Channels). length x.inboxes) is ∙ R.inboxes ∙ sym (length-set w.ractors k m2) ∙ sym (ap length rs);
  ports = ap (λ (x : Channels). length x.ports) is ∙ length-set w.channels.ports c p2 ∙ R.ports ∙ sym (length-set w.ractors k m2) ∙ sym (ap length rs);
  fits = fits R.fits;
  clusters = order_on w w2 (ap (λ (x : Channels). x.store.clusters) is) R.clusters;
}

-- ---- Into a port.

-- what a message in a hand that comes into a port leaves
pub record HasCome (w w2 : Assembly) (k c : ℕ) (m : Member) (home : Option Home) (ticket : Option ℕ) (p2 : Port) (e : Entry) (names names2 : Naming) (g g2 : Objects) : Type 0 where
  pub objects : IsHandedOn (Hand k) (Shown c e.ticket) g g2
  pub ractors : (state_in w2 names2 g2).ractors ≡ slice_set (state_in w names g).ractors k (record (actor_in names k m) { hand = None; home = option_map (shells_in names k) home; ticket = ticket })
  pub post : post_in names2 w2.channels ≡ with_case (post_in names w.channels) c (showcase_in names2 c p2)
  pub rest : (u : ℕ) → (u ≡ e.ticket → ⊥) → names2 (Shown c u) ≡ names (Shown c u)
  pub parcel : parcel_in names2 (Shown c e.ticket) e.message ≡ parcel_in names (Hand k) e.message
  pub kept : KeepsShared names names2
  pub named : IsNamed (Shown c e.ticket) names names2

module _ (w w2 : Assembly) (k c : ℕ) (m : Member) (home : Option Home) (ticket : Option ℕ) (p p2 : Port) (e : Entry) (at : slice_get w.ractors k ≡ Some m) (port : slice_get w.channels.ports c ≡ Some p)
    (fits : DoHomesFit w → DoHomesFit w2) (held : m.hand ≡ Some e.message) (C : IsComing p p2 e) (rs : w2.ractors ≡ slice_set w.ractors k (record m { hand = None; home = home; ticket = ticket })) (is : w2.channels ≡ with_port w.channels c p2) where
  rest : (h : Owner) → (h ≡ Hand k → ⊥) → (h ≡ Shown c e.ticket → ⊥) → layout w2 h ≡ layout w h
  unfolding layout
  rest (Space j) q r = ap (λ xs. option_map space_slots (slice_get xs j)) rs ∙ seen_same (option_map space_slots) w.ractors k j m (record m { hand = None; home = home; ticket = ticket }) at refl
  rest (Hand j) q r = ap (λ xs. option_and_then hand_slots (slice_get xs j)) rs ∙ ap (option_and_then hand_slots) (set_off w.ractors k j (record m { hand = None; home = home; ticket = ticket }) (λ z. q (ap Hand z)))
  rest (Mail d u) q r = ap (λ (x : Channels). option_and_then (inbox_slots u) (slice_get x.inboxes d)) is
  rest (Shown d u) q r = ap (λ (x : Channels). option_and_then (port_slots u) (slice_get x.ports d)) is ∙ ⊎_elim here other (eq_cases d c)
    where
      here : d ≡ c → option_and_then (port_slots u) (slice_get (slice_set w.channels.ports c p2) d) ≡ option_and_then (port_slots u) (slice_get w.channels.ports d)
      here z = seen_same (option_and_then (port_slots u)) w.channels.ports c d p p2 port (C.others u (λ y. r (ap (λ x. Shown x u) z ∙ ap (Shown c) y)))

      other : (d ≡ c → ⊥) → option_and_then (port_slots u) (slice_get (slice_set w.channels.ports c p2) d) ≡ option_and_then (port_slots u) (slice_get w.channels.ports d)
      other z = ap (option_and_then (port_slots u)) (set_off w.channels.ports c d p2 z)
  rest (Shared d) q r = ap (λ (x : Channels). option_map cluster_slots (slice_get x.store.clusters d)) is

  goes : Goes (Hand k) (Shown c e.ticket) e.message.objects [] (layout w) (layout w2)
  unfolding layout
  goes = record {
    from = ap (option_and_then hand_slots) at ∙ ap (option_map message_slots) held;
    to = inr (ap (option_and_then (port_slots e.ticket)) port ∙ C.fresh, refl);
    gone = ap (λ xs. option_and_then hand_slots (slice_get xs k)) rs ∙ ap (option_and_then hand_slots) (set_at w.ractors k (record m { hand = None; home = home; ticket = ticket }) (slice_get_within w.ractors k m at));
    come = ap (λ (x : Channels). option_and_then (port_slots e.ticket) (slice_get x.ports c)) is
        ∙ ap (option_and_then (port_slots e.ticket)) (set_at w.channels.ports c p2 (slice_get_within w.channels.ports c p port))
        ∙ C.come ∙ ap (λ x. Some x) (objects_stay e.message.objects);
    rest = rest;
    apart = λ z. let n : ⊥ = cc in n;
    unshared_a = λ d z. let n : ⊥ = cc in n;
    unshared_b = λ d z. let n : ⊥ = cc in n;
  }

  pub came_in : (names : Naming) (bound : ℕ) (g : Objects) → IsRead w names bound g → (names2 : Naming) × (g2 : Objects) × IsRead w2 names2 bound g2 × HasCome w w2 k c m home ticket p2 e names names2 g g2
  came_in names bound g R =
      let q = hands_on (Hand k) (Shown c e.ticket) e.message.objects [] (layout w) (layout w2) names bound g goes R.tables in
      let names2 = q.0 in
      let N = q.3 in
      let J = q.5 in
      let apart : (d : ℕ) → Shown c e.ticket ≡ Shared d → ⊥ = λ d z. let n : ⊥ = cc in n in
      let kept : (d : ℕ) → names2 (Shared d) ≡ names (Shared d) = shared_kept (layout w) (Hand k) (Shown c e.ticket) e.message.objects [] names names2 N J apart in
      let spaces : (n : ℕ) → names2 (Space n) ≡ names (Space n) = λ n. N.rest (Space n) (λ z. let y : ⊥ = cc in y) in
      let hands : (n : ℕ) → names2 (Hand n) ≡ names (Hand n) = λ n. N.rest (Hand n) (λ z. let y : ⊥ = cc in y) in
      let mails : (n u : ℕ) → names2 (Mail n u) ≡ names (Mail n u) = λ n u. N.rest (Mail n u) (λ z. let y : ⊥ = cc in y) in (
        names2,
        q.1,
        read_ported w w2 k c m (record m { hand = None; home = home; ticket = ticket }) p2 at rs is refl (R.held.roots k m at) (coming_found p p2 e C (R.held.ports c p port)) (emptied_knows (layout w) m home ticket (R.knows.ractors k m at))
            (λ x has. ⊎_elim
            (λ old. R.knows.ports c p x port old)
            (λ (same : e ≡ x). subst (λ (y : Entry). IsMessageKnown (layout w) y.message) same ((R.knows.ractors k m at).hand e.message held))
            (C.inside x has))
            fits R q.2,
        record {
          objects = q.4;
          ractors = ap (each_from (actor_in names2) 0) rs
              ∙ each_set (actor_in names) (actor_in names2) 0 w.ractors k k (record m { hand = None; home = home; ticket = ticket }) (omega arith) (λ j n x d z a. actor_same names names2 n x (spaces n) (hands n) kept)
              ∙ ap (slice_set (each_from (actor_in names) 0 w.ractors) k) (actor_same names names2 k (record m { hand = None; home = home; ticket = ticket }) (spaces k) (hands k) kept);
          post = ap (post_in names2) is ∙ post_shown names names2 w.channels c p2 mails (λ d u z. N.rest (Shown d u) (λ y. z (let f : d ≡ c = cc in f))) kept;
          rest = λ u differ. N.rest (Shown c u) (λ z. differ (let f : u ≡ e.ticket = cc in f));
          parcel = parcel_moved (layout w) (Hand k) (Shown c e.ticket) e.message.objects names names2 e.message N J apart (names_moved goes R.tables q.2 J);
          kept = kept;
          named = N;
        },
      )

-- ---- Out of a port.

pub record HasLeft (w w2 : Assembly) (k c : ℕ) (m : Member) (ticket : Option ℕ) (p2 : Port) (e : Entry) (names names2 : Naming) (g g2 : Objects) : Type 0 where
  pub objects : IsHandedOn (Shown c e.ticket) (Hand k) g g2
  pub ractors : (state_in w2 names2 g2).ractors ≡ slice_set (state_in w names g).ractors k (record (actor_in names k m) { hand = Some (parcel_in names (Shown c e.ticket) e.message); ticket = ticket })
  pub post : post_in names2 w2.channels ≡ with_case (post_in names w.channels) c (showcase_in names c p2)
  pub named : IsNamed (Hand k) names names2

module _ (w w2 : Assembly) (k c : ℕ) (m : Member) (ticket : Option ℕ) (p p2 : Port) (e : Entry) (at : slice_get w.ractors k ≡ Some m) (port : slice_get w.channels.ports c ≡ Some p)
    (fits : DoHomesFit w → DoHomesFit w2) (empty : m.hand ≡ None) (L : IsLeaving p p2 e) (rs : w2.ractors ≡ slice_set w.ractors k (record m { hand = Some e.message; ticket = ticket })) (is : w2.channels ≡ with_port w.channels c p2) where
  rest_out : (h : Owner) → (h ≡ Shown c e.ticket → ⊥) → (h ≡ Hand k → ⊥) → layout w2 h ≡ layout w h
  unfolding layout
  rest_out (Space j) q r = ap (λ xs. option_map space_slots (slice_get xs j)) rs ∙ seen_same (option_map space_slots) w.ractors k j m (record m { hand = Some e.message; ticket = ticket }) at refl
  rest_out (Hand j) q r = ap (λ xs. option_and_then hand_slots (slice_get xs j)) rs ∙ ap (option_and_then hand_slots) (set_off w.ractors k j (record m { hand = Some e.message; ticket = ticket }) (λ z. r (ap Hand z)))
  rest_out (Mail d u) q r = ap (λ (x : Channels). option_and_then (inbox_slots u) (slice_get x.inboxes d)) is
  rest_out (Shown d u) q r = ap (λ (x : Channels). option_and_then (port_slots u) (slice_get x.ports d)) is ∙ ⊎_elim here other (eq_cases d c)
    where
      here : d ≡ c → option_and_then (port_slots u) (slice_get (slice_set w.channels.ports c p2) d) ≡ option_and_then (port_slots u) (slice_get w.channels.ports d)
      here z = seen_same (option_and_then (port_slots u)) w.channels.ports c d p p2 port (L.others u (λ y. q (ap (λ x. Shown x u) z ∙ ap (Shown c) y)))

      other : (d ≡ c → ⊥) → option_and_then (port_slots u) (slice_get (slice_set w.channels.ports c p2) d) ≡ option_and_then (port_slots u) (slice_get w.channels.ports d)
      other z = ap (option_and_then (port_slots u)) (set_off w.channels.ports c d p2 z)
  rest_out (Shared d) q r = ap (λ (x : Channels). option_map cluster_slots (slice_get x.store.clusters d)) is

  goes_out : Goes (Shown c e.ticket) (Hand k) e.message.objects [] (layout w) (layout w2)
  unfolding layout
  goes_out = record {
    from = ap (option_and_then (port_slots e.ticket)) port ∙ L.was;
    to = inr (ap (option_and_then hand_slots) at ∙ ap (option_map message_slots) empty, refl);
    gone = ap (λ (x : Channels). option_and_then (port_slots e.ticket) (slice_get x.ports c)) is
        ∙ ap (option_and_then (port_slots e.ticket)) (set_at w.channels.ports c p2 (slice_get_within w.channels.ports c p port)) ∙ L.gone;
    come = ap (λ xs. option_and_then hand_slots (slice_get xs k)) rs
        ∙ ap (option_and_then hand_slots) (set_at w.ractors k (record m { hand = Some e.message; ticket = ticket }) (slice_get_within w.ractors k m at)) ∙ ap (λ x. Some x) (objects_stay e.message.objects);
    rest = rest_out;
    apart = λ z. let n : ⊥ = cc in n;
    unshared_a = λ d z. let n : ⊥ = cc in n;
    unshared_b = λ d z. let n : ⊥ = cc in n;
  }

  pub went_out : (names : Naming) (bound : ℕ) (g : Objects) → IsRead w names bound g → (names2 : Naming) × (g2 : Objects) × IsRead w2 names2 bound g2 × HasLeft w w2 k c m ticket p2 e names names2 g g2
  went_out names bound g R =
      let q = hands_on (Shown c e.ticket) (Hand k) e.message.objects [] (layout w) (layout w2) names bound g goes_out R.tables in
      let names2 = q.0 in
      let N = q.3 in
      let J = q.5 in
      let apart : (d : ℕ) → Hand k ≡ Shared d → ⊥ = λ d z. let n : ⊥ = cc in n in
      let kept : (d : ℕ) → names2 (Shared d) ≡ names (Shared d) = shared_kept (layout w) (Shown c e.ticket) (Hand k) e.message.objects [] names names2 N J apart in
      let spaces : (n : ℕ) → names2 (Space n) ≡ names (Space n) = λ n. N.rest (Space n) (λ z. let y : ⊥ = cc in y) in
      let mails : (n u : ℕ) → names2 (Mail n u) ≡ names (Mail n u) = λ n u. N.rest (Mail n u) (λ z. let y : ⊥ = cc in y) in
      let shows : (n u : ℕ) → names2 (Shown n u) ≡ names (Shown n u) = λ n u. N.rest (Shown n u) (λ z. let y : ⊥ = cc in y) in
      let moved : parcel_in names2 (Hand k) e.message ≡ parcel_in names (Shown c e.ticket) e.message =
      parcel_moved (layout w) (Shown c e.ticket) (Hand k) e.message.objects names names2 e.message N J apart (names_moved goes_out R.tables q.2 J) in
      let actor : actor_in names2 k (record m { hand = Some e.message; ticket = ticket }) ≡ record (actor_in names k m) { hand = Some (parcel_in names (Shown c e.ticket) e.message); ticket = ticket } =
      handed names names2 k m e.message ticket (spaces k) kept ∙ ap (λ (x : Parcel). let a : Actor = record (actor_in names k m) { hand = Some x; ticket = ticket } in a) moved in (
        names2,
        q.1,
        read_ported w w2 k c m (record m { hand = Some e.message; ticket = ticket }) p2 at rs is refl (R.held.roots k m at) (leaving_found p p2 e L (R.held.ports c p port))
            (holding_knows (layout w) m e.message ticket (R.knows.ractors k m at) (R.knows.ports c p e port L.has))
            (λ x has. R.knows.ports c p x port (L.inside x has))
            fits R q.2,
        record {
          objects = q.4;
          ractors = ap (each_from (actor_in names2) 0) rs
              ∙ each_set (actor_in names) (actor_in names2) 0 w.ractors k k (record m { hand = Some e.message; ticket = ticket }) (omega arith)
              (λ j n x d z a. actor_same names names2 n x (spaces n) (N.rest (Hand n) (λ y. d (let f : n ≡ k = cc in omega arith))) kept)
              ∙ ap (slice_set (each_from (actor_in names) 0 w.ractors) k) actor;
          post = ap (post_in names2) is ∙ post_shown names names2 w.channels c p2 mails (λ d u z. shows d u) kept
              ∙ ap (with_case (post_in names w.channels) c) (showcase_same names names2 c p2 (shows c) kept);
          named = N;
        },
      )
