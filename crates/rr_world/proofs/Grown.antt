-- What a new cluster leaves of what is known of clusters, and of names.
use Rattle.std.proofs.Common.{◌≡◌, ℕ, List, [], ◌∷◌, ◌++◌, length, map, Option, Some, None, slice_get, Contains, sym, ap, ◌∙◌, refl, arith}
use Rattle.std.specs.Prelude.{slice_index}
use Rattle.std.specs.Option.{option_map, option_and_then}
use Rattle.std.proofs.lemmas.List.Elements.{Contains-append_left, Contains-append_right}
use Rattle.std.proofs.lemmas.Option.{none-some}
use Rattle.rr_base.specs.declared.name.Sym.{Sym}
use Rattle.rr_space.specs.Graph.{Own, Published, Value, Plain, At}
use Rattle.rr_space.specs.Tables.{Packed, Slot, Here, Below, Whole, below_hold, outer_objects}
use Rattle.rr_space.specs.Parts.{value_of, below_ref}
use Rattle.rr_space.specs.Readings.{Owner, Space, Hand, Mail, Shown, Shared, Naming, HasPlace, Knows}
use Rattle.rr_space.specs.Steps.{IsNamed}
use Rattle.rr_space.specs.declared.refer.Ref.{Ref}
use Rattle.rr_space.specs.declared.refer.Ref.TheVariants as ref
use Rattle.rr_space.proofs.Frames.{map_same}
use Rattle.rr_space.proofs.Renaming.{at_contains}
use Rattle.rr_inbox.specs.Inboxes.{Inbox}
use Rattle.rr_inbox.specs.declared.entry.Entry.{Entry}
use Rattle.rr_port.specs.Lasts.{message_of, is_fault}
use Rattle.rr_port.specs.Ports.{Port}
use Rattle.rr_port.specs.declared.last.LastGiven.{LastGiven}
use Rattle.rr_port.specs.declared.last.Shown.{Shown as ShownMessage}
use Rattle.rr_store.specs.declared.constant.ConstValue.{ConstValue}
use Rattle.rr_store.specs.declared.constant.ConstValue.TheVariants.{Shareable}
use Rattle.rr_store.specs.declared.constant.ConstValue.TheVariants as store
use Rattle.rr_world.specs.Views.{Member, Assembly}
use Rattle.rr_world.specs.States.{Letter, Farewell, Held}
use Rattle.rr_world.specs.Layouts.{cluster_slots, layout, message_slots, message_below, shown_inside, last_inside, port_inside, IsMessageKnown, MemberKnows, IsKnowing}
use Rattle.rr_world.specs.Readings.{each_from, value_in, root_in, parcel_in, letter_in, mailbox_in, shown_in, farewell_in, showcase_in, actor_in, public_value, constant_in}
use Rattle.rr_world.proofs.Lists.{each_same}
use Rattle.rr_world.proofs.Namings.{box_with, case_with, parcel_with, same_actor, home_same, plan_same, published_same}
use Rattle.rr_world.proofs.Starting.{at_last, before_last, none_behind}
use Rattle.rr_world.proofs.KeyTables.{keys_on}

module _ (w w2 : Assembly) (x : Whole) (more : w2.channels.store.clusters ≡ w.channels.store.clusters ++ x ∷ []) where
  abbrev pub number : ℕ
  number = length w.channels.store.clusters

  pub vacant : layout w (Shared number) ≡ None
  unfolding layout
  vacant = ap (option_map cluster_slots) (none_behind w.channels.store.clusters)

  pub cluster_now : layout w2 (Shared number) ≡ Some (map Here x.own)
  unfolding layout
  cluster_now = ap (λ xs. option_map cluster_slots (slice_get xs number)) more ∙ ap (option_map cluster_slots) (at_last w.channels.store.clusters x)

  pub others_same : (d : ℕ) → (d ≡ number → ⊥) → layout w2 (Shared d) ≡ layout w (Shared d)
  unfolding layout
  others_same d differ = ap (λ xs. option_map cluster_slots (slice_get xs d)) more ∙ ap (option_map cluster_slots) (before_last w.channels.store.clusters x d differ)

  pub apart : (d : ℕ) (u : List Slot) → layout w (Shared d) ≡ Some u → d ≡ number → ⊥
  apart d u is same = none-some u (sym vacant ∙ ap (λ n. layout w (Shared n)) (sym same) ∙ is)

  pub grown : (d : ℕ) (u : List Slot) → layout w (Shared d) ≡ Some u → layout w2 (Shared d) ≡ Some u
  grown d u is = others_same d (apart d u is) ∙ is

  pub knows_grown : (b : Below) → Knows b (layout w) → Knows b (layout w2)
  knows_grown b K = record { known = λ d os has. let q = K.known d os has in (q.0, grown d (map Here q.0) q.1, q.2) }

  pub place_grown : (d q : ℕ) → HasPlace (layout w) d q → HasPlace (layout w2) d q
  place_grown d q (u, o, is, at) = (u, o, grown d u is, at)

  pub message_grown : (m : Packed) → IsMessageKnown (layout w) m → IsMessageKnown (layout w2) m
  message_grown m K = record { below = knows_grown (message_below m) K.below; own = K.own; root = λ d q is. place_grown d q (K.root d q is); keyed = keys_on (layout w) (layout w2) (message_slots m) m.keys grown K.keyed }

  pub member_grown : (m : Member) → MemberKnows (layout w) m → MemberKnows (layout w2) m
  member_grown m K = record {
    space = knows_grown _ K.space;
    roots = λ r has. knows_grown (below_ref r) (K.roots r has);
    hand = λ p is. message_grown p (K.hand p is);
    plan = λ p is. knows_grown p.cluster.below (K.plan p is);
    published = λ p is. knows_grown (below_hold p.cluster) (K.published p is);
    keyed = keys_on (layout w) (layout w2) m.space.slots m.space.keys grown K.keyed;
  }

  module _ (names names2 : Naming) (N : IsNamed (Shared number) names names2) where
    kept : (d : ℕ) → (d ≡ number → ⊥) → names2 (Shared d) ≡ names (Shared d)
    kept d differ = N.rest (Shared d) (λ e. differ (let z : d ≡ number = cc in z))

    pub spaces : (k : ℕ) → names2 (Space k) ≡ names (Space k)
    spaces k = N.rest (Space k) (λ e. let z : ⊥ = cc in z)

    hands : (k : ℕ) → names2 (Hand k) ≡ names (Hand k)
    hands k = N.rest (Hand k) (λ e. let z : ⊥ = cc in z)

    mails : (c t : ℕ) → names2 (Mail c t) ≡ names (Mail c t)
    mails c t = N.rest (Mail c t) (λ e. let z : ⊥ = cc in z)

    shows : (c t : ℕ) → names2 (Shown c t) ≡ names (Shown c t)
    shows c t = N.rest (Shown c t) (λ e. let z : ⊥ = cc in z)

    root_kept : (h : Owner) (r : Ref) → names2 h ≡ names h → Knows (below_ref r) (layout w) → root_in names2 h r ≡ root_in names h r
    root_kept h ref.Nil own K = refl
    root_kept h ref.False own K = refl
    root_kept h ref.True own K = refl
    root_kept h (ref.Int b) own K = refl
    root_kept h (ref.Symbol b) own K = refl
    root_kept h (ref.Class b) own K = refl
    root_kept h (ref.Ractor b) own K = refl
    root_kept h (ref.Local n) own K = ap (λ ns. At (Own (slice_index ns n))) own
    root_kept h (ref.Shared p c) own K =
        let a = K.known c.now.number (outer_objects c.now) (0, omega arith, refl) in
        ap (λ ns. At (Own (slice_index ns p))) (kept c.now.number (apart c.now.number (map Here a.0) a.1))

    public_kept : (r : Ref) → Knows (below_ref r) (layout w) → public_value names2 (value_of r) ≡ public_value names (value_of r)
    public_kept ref.Nil K = refl
    public_kept ref.False K = refl
    public_kept ref.True K = refl
    public_kept (ref.Int b) K = refl
    public_kept (ref.Symbol b) K = refl
    public_kept (ref.Class b) K = refl
    public_kept (ref.Ractor b) K = refl
    public_kept (ref.Local n) K = refl
    public_kept (ref.Shared p c) K =
        let a = K.known c.now.number (outer_objects c.now) (0, omega arith, refl) in
        ap (λ ns. At (Own (slice_index ns p))) (kept c.now.number (apart c.now.number (map Here a.0) a.1))

    message_kept : (h : Owner) (v : Value) → names2 h ≡ names h → ((c p : ℕ) → v ≡ At (Published c p) → HasPlace (layout w) c p) → value_in names2 h v ≡ value_in names h v
    message_kept h (Plain n) own K = refl
    message_kept h (At (Own n)) own K = ap (λ ns. At (Own (slice_index ns n))) own
    message_kept h (At (Published c p)) own K = let q = K c p refl in ap (λ ns. At (Own (slice_index ns p))) (kept c (apart c q.0 q.2))

    pub parcel_kept : (h : Owner) (m : Packed) → names2 h ≡ names h → IsMessageKnown (layout w) m → parcel_in names2 h m ≡ parcel_in names h m
    parcel_kept h m own K = ap (λ v. parcel_with m v (names2 h)) (message_kept h m.root own K.root) ∙ ap (parcel_with m (value_in names h m.root)) own

    hand_kept : (k : ℕ) (y : Option Packed) → ((p : Packed) → y ≡ Some p → IsMessageKnown (layout w) p) → option_map (parcel_in names2 (Hand k)) y ≡ option_map (parcel_in names (Hand k)) y
    hand_kept k None K = refl
    hand_kept k (Some p) K = ap (λ z. Some z) (parcel_kept (Hand k) p (hands k) (K p refl))

    pub actor_kept : (k : ℕ) (r : Member) → MemberKnows (layout w) r → actor_in names2 k r ≡ actor_in names k r
    actor_kept k r K =
        same_actor (map_same (root_in names2 (Space k)) (root_in names (Space k)) r.roots (λ y has. root_kept (Space k) y (spaces k) (K.roots y has))) (hand_kept k r.hand K.hand) (home_same names names2 k r.home (spaces k)) refl
        (plan_same names names2 k r.plan (spaces k)) (published_same names names2 k r.published (spaces k)) refl refl refl refl refl

    inbox_kept : (c : ℕ) (i : Inbox) → ((e : Entry) → Contains i.inside e → IsMessageKnown (layout w) e.message) → mailbox_in names2 c i ≡ mailbox_in names c i
    inbox_kept c i K =
        ap (λ ls. box_with ls i.closed i.next i.history i.limit)
        (map_same (letter_in names2 c) (letter_in names c) i.inside (λ (e : Entry) has. ap (λ p. let l : Letter = record { ticket = e.ticket; parcel = p } in l) (parcel_kept (Mail c e.ticket) e.message (mails c e.ticket) (K e has))))

    shown_kept : (c : ℕ) (y : Option ShownMessage) → ((e : Entry) → Contains (shown_inside y) e → IsMessageKnown (layout w) e.message) → option_map (shown_in names2 c) y ≡ option_map (shown_in names c) y
    shown_kept c None K = refl
    shown_kept c (Some e) K =
        ap (λ p. Some (let l : Letter = record { ticket = e.ticket; parcel = p } in l)) (parcel_kept (Shown c e.ticket) e.message (shows c e.ticket) (K (record { ticket = e.ticket; message = e.message }) (0, omega arith, refl)))

    last_kept : (c : ℕ) (y : Option LastGiven) → ((e : Entry) → Contains (last_inside y) e → IsMessageKnown (layout w) e.message) → option_map (farewell_in names2 c) y ≡ option_map (farewell_in names c) y
    last_kept c None K = refl
    last_kept c (Some l) K =
        ap (λ p. Some (let f : Farewell = record { letter = record { ticket = l.ticket; parcel = p }; is_fault = is_fault l.last } in f))
        (parcel_kept (Shown c l.ticket) (message_of l.last) (shows c l.ticket) (K (record { ticket = l.ticket; message = message_of l.last }) (0, omega arith, refl)))

    port_kept : (c : ℕ) (p : Port) → ((e : Entry) → Contains (port_inside p) e → IsMessageKnown (layout w) e.message) → showcase_in names2 c p ≡ showcase_in names c p
    port_kept c p K =
        ap (λ s. case_with s (option_map (farewell_in names2 c) p.last) p) (shown_kept c p.shown (λ e has. K e (Contains-append_left (shown_inside p.shown) (last_inside p.last) e has)))
        ∙ ap (λ l. case_with (option_map (shown_in names c) p.shown) l p) (last_kept c p.last (λ e has. K e (Contains-append_right (shown_inside p.shown) (last_inside p.last) e has)))

    pub inboxes_kept : IsKnowing w → each_from (mailbox_in names2) 0 w.channels.inboxes ≡ each_from (mailbox_in names) 0 w.channels.inboxes
    inboxes_kept K = each_same (mailbox_in names) (mailbox_in names2) 0 w.channels.inboxes (λ j n i e at. inbox_kept n i (λ y has. K.inboxes n i y (ap (slice_get w.channels.inboxes) (let z : n ≡ j = omega (arith, e) in z) ∙ at) has))

    pub ports_kept : IsKnowing w → each_from (showcase_in names2) 0 w.channels.ports ≡ each_from (showcase_in names) 0 w.channels.ports
    ports_kept K = each_same (showcase_in names) (showcase_in names2) 0 w.channels.ports (λ j n p e at. port_kept n p (λ y has. K.ports n p y (ap (slice_get w.channels.ports) (let z : n ≡ j = omega (arith, e) in z) ∙ at) has))

    constant_kept : (y : Option ConstValue) → ((v : Ref) → y ≡ Some (Shareable v) → Knows (below_ref v) (layout w)) → option_map (constant_in names2) y ≡ option_map (constant_in names) y
    constant_kept None K = refl
    constant_kept (Some (Shareable v)) K = ap (λ z. Some (Held z)) (public_kept v (K v refl))
    constant_kept (Some store.Own) K = refl

    pub constants_kept : IsKnowing w → map (option_map (constant_in names2)) w.channels.store.constants ≡ map (option_map (constant_in names)) w.channels.store.constants
    constants_kept K =
        map_same (option_map (constant_in names2)) (option_map (constant_in names)) w.channels.store.constants
        (λ (y : Option ConstValue) has. constant_kept y (λ v is.
        let i = at_contains w.channels.store.constants y has in
        K.store (let s : Sym = record { 0 = i.0 } in s) v (ap (option_and_then (λ (z : Option ConstValue). z)) i.1 ∙ is)))
