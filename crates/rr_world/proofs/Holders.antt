-- In a World that is read, each value that a holder has is its own or shared, so that no two holders reach what is not shared.
use Rattle.std.proofs.Common.{◌≡◌, ℕ, ⊎_elim, length, Some, slice_get, Contains, sym, ap, ◌∙◌, subst, refl, arith}
use Rattle.std.specs.Option.{option_map, option_and_then}
use Rattle.std.proofs.lemmas.List.{length-map}
use Rattle.std.proofs.lemmas.List.Elements.{Contains-append_left, Contains-append_right}
use Rattle.rr_space.specs.Graph.{Own, Published, Value, Plain, At}
use Rattle.rr_space.specs.Tables.{Packed, Here}
use Rattle.rr_space.specs.Parts.{value_of, below_ref, IsWithin}
use Rattle.rr_space.specs.Readings.{Owner, Space, Hand, Mail, Shown, Shared, Objects, Naming, IsInLayout, IsLocal, Knows}
use Rattle.rr_space.specs.declared.refer.Ref.{Ref}
use Rattle.rr_space.specs.declared.refer.Ref.TheVariants as ref
use Rattle.rr_space.proofs.Apart.{readings_are_apart, roots_are_local}
use Rattle.rr_space.proofs.Hands.{some_back}
use Rattle.rr_space.proofs.Renaming.{at_contains, contains_map_back}
use Rattle.rr_inbox.specs.declared.entry.Entry.{Entry}
use Rattle.rr_port.specs.Ports.{Port}
use Rattle.rr_world.specs.Views.{Member, Assembly, seen_slots}
use Rattle.rr_world.specs.Layouts.{layout, message_slots, hand_slots, inbox_slots, port_slots, port_inside, shown_inside, last_inside, IsMessageKnown, IsRead}
use Rattle.rr_world.specs.States.{Parcel, Letter, Farewell, Mailbox, Showcase, Actor}
use Rattle.rr_world.specs.Readings.{actor_in, farewell_in, letter_in, mailbox_in, parcel_in, root_in, showcase_in, shown_in, state_in, value_in}
use Rattle.rr_world.specs.Holding.{IsHeld, AreHoldersApart}
use Rattle.rr_world.proofs.Forwarding.{seen_length}
use Rattle.rr_world.proofs.Lists.{each_back}
use Rattle.rr_world.proofs.Operands.{root_within}
use Rattle.rr_world.proofs.PortInsides.{last_entry, shown_entry_of}
use Rattle.rr_world.proofs.Published.{in_place}
use Rattle.rr_world.proofs.Seeing.{space_table}
use Rattle.rr_inbox.specs.Inboxes.{Inbox}

hand_table : (w : Assembly) (k : ℕ) (m : Member) (p : Packed) → slice_get w.ractors k ≡ Some m → m.hand ≡ Some p → layout w (Hand k) ≡ Some (message_slots p)
unfolding layout
hand_table w k m p at held = ap (option_and_then hand_slots) at ∙ ap (option_map message_slots) held

module _ (w : Assembly) (names : Naming) (bound : ℕ) (g : Objects) (R : IsRead w names bound g) where
  mail_table : (c : ℕ) (i : Inbox) (e : Entry) → slice_get w.channels.inboxes c ≡ Some i → Contains i.inside e → layout w (Mail c e.ticket) ≡ Some (message_slots e.message)
  unfolding layout
  mail_table c i e at has = ap (option_and_then (inbox_slots e.ticket)) at ∙ R.held.inboxes c i at e has

  port_table : (c : ℕ) (p : Port) (e : Entry) → slice_get w.channels.ports c ≡ Some p → Contains (port_inside p) e → layout w (Shown c e.ticket) ≡ Some (message_slots e.message)
  unfolding layout
  port_table c p e at has = ap (option_and_then (port_slots e.ticket)) at ∙ R.held.ports c p at e has

  root_placed : (k : ℕ) (m : Member) (r : Ref) → slice_get w.ractors k ≡ Some m → Contains m.roots r → IsInLayout (layout w) (seen_slots m) (value_of r)
  root_placed k m r at has =
      let j = at_contains m.roots r has in
      by r (root_within (length m.space.slots) m.roots j.0 r (R.held.roots k m at) j.1) ((R.knows.ractors k m at).roots r has)
    where
      many : length (seen_slots m) ≡ length m.space.slots
      many = seen_length m.published m.space.slots

      by : (x : Ref) → IsWithin (length m.space.slots) x → Knows (below_ref x) (layout w) → IsInLayout (layout w) (seen_slots m) (value_of x)
      by ref.Nil h K = tt
      by ref.False h K = tt
      by ref.True h K = tt
      by (ref.Int b) h K = tt
      by (ref.Symbol b) h K = tt
      by (ref.Class b) h K = tt
      by (ref.Ractor b) h K = tt
      by (ref.Local s) h K = omega (arith, many, h)
      by (ref.Shared q c) h K = in_place (layout w) (length m.space.slots) (ref.Shared q c) h K

  message_placed : (p : Packed) → IsMessageKnown (layout w) p → IsInLayout (layout w) (message_slots p) p.root
  message_placed p K = by p.root refl
    where
      by : (v : Value) → p.root ≡ v → IsInLayout (layout w) (message_slots p) v
      by (Plain n) is = tt
      by (At (Own i)) is = let lt = K.own i is in omega (arith, length-map p.objects Here, lt)
      by (At (Published c q)) is = K.root c q is

  message_local : (h : Owner) (p : Packed) → layout w h ≡ Some (message_slots p) → IsMessageKnown (layout w) p → IsLocal h g (value_in names h p.root)
  message_local h p is K = roots_are_local (layout w) names bound g h (message_slots p) p.root R.tables is (message_placed p K)

  port_local : (c : ℕ) (p : Port) (e : Entry) → slice_get w.channels.ports c ≡ Some p → Contains (port_inside p) e → IsLocal (Shown c e.ticket) g (value_in names (Shown c e.ticket) e.message.root)
  port_local c p e at has = message_local (Shown c e.ticket) e.message (port_table c p e at has) (R.knows.ports c p e at has)

  -- each value of a holder is an immediate, its own or shared
  held_local : (h : Owner) (v : Value) → IsHeld (state_in w names g) h v → IsLocal h g v
  held_local (Space k) v (a, at, has) =
      let b = each_back (actor_in names) 0 w.ractors k k a (omega arith) at in
      let z = contains_map_back (root_in names (Space k)) b.0.roots v (subst (λ (x : Actor). Contains x.roots v) (sym b.2) has) in
      subst (λ x. IsLocal (Space k) g x) z.2 (roots_are_local (layout w) names bound g (Space k) (seen_slots b.0) (value_of z.0) R.tables (space_table w k b.0 b.1) (root_placed k b.0 z.0 b.1 z.1))
  held_local (Hand k) v (a, p, at, hand, is) =
      let b = each_back (actor_in names) 0 w.ractors k k a (omega arith) at in
      let q = some_back (parcel_in names (Hand k)) b.0.hand p (ap (λ (x : Actor). x.hand) b.2 ∙ hand) in
      subst (λ x. IsLocal (Hand k) g x) (ap (λ (x : Parcel). x.root) q.2 ∙ is) (message_local (Hand k) q.0 (hand_table w k b.0 q.0 b.1 q.1) ((R.knows.ractors k b.0 b.1).hand q.0 q.1))
  held_local (Mail c t) v (b, e, at, has, ticket, is) =
      let i = each_back (mailbox_in names) 0 w.channels.inboxes c c b (omega arith) at in
      let x = contains_map_back (letter_in names c) i.0.inside e (subst (λ (y : Mailbox). Contains y.inside e) (sym i.2) has) in
      let there = message_local (Mail c x.0.ticket) x.0.message (mail_table c i.0 x.0 i.1 x.1) (R.knows.inboxes c i.0 x.0 i.1 x.1) in
      subst (λ u. IsLocal (Mail c u) g v) (ap (λ (l : Letter). l.ticket) x.2 ∙ ticket) (subst (λ y. IsLocal (Mail c x.0.ticket) g y) (ap (λ (l : Letter). l.parcel.root) x.2 ∙ is) there)
  held_local (Shown c t) v (b, e, at, inside, ticket, is) =
      let p = each_back (showcase_in names) 0 w.channels.ports c c b (omega arith) at in
      ⊎_elim
      (λ shown.
      let f = some_back (shown_in names c) p.0.shown e (ap (λ (y : Showcase). y.shown) p.2 ∙ shown) in
      let has : Contains (port_inside p.0) (shown_entry_of f.0) =
      Contains-append_left (shown_inside p.0.shown) (last_inside p.0.last) (shown_entry_of f.0) (subst (λ s. Contains (shown_inside s) (shown_entry_of f.0)) (sym f.1) (0, omega arith, refl)) in
      subst (λ u. IsLocal (Shown c u) g v) (ap (λ (l : Letter). l.ticket) f.2 ∙ ticket)
      (subst (λ y. IsLocal (Shown c f.0.ticket) g y) (ap (λ (l : Letter). l.parcel.root) f.2 ∙ is) (port_local c p.0 (shown_entry_of f.0) p.1 has)))
      (λ last.
      let f = some_back (farewell_in names c) p.0.last last.0 (ap (λ (y : Showcase). y.last) p.2 ∙ last.1) in
      let has : Contains (port_inside p.0) (last_entry f.0) =
      Contains-append_right (shown_inside p.0.shown) (last_inside p.0.last) (last_entry f.0) (subst (λ s. Contains (last_inside s) (last_entry f.0)) (sym f.1) (0, omega arith, refl)) in
      let letter = ap (λ (l : Farewell). l.letter) f.2 ∙ last.2 in
      subst (λ u. IsLocal (Shown c u) g v) (ap (λ (l : Letter). l.ticket) letter ∙ ticket)
      (subst (λ y. IsLocal (Shown c f.0.ticket) g y) (ap (λ (l : Letter). l.parcel.root) letter ∙ is) (port_local c p.0 (last_entry f.0) p.1 has)))
      inside
  held_local (Shared c) v none = absurd none

  pub holders_apart : AreHoldersApart (state_in w names g)
  holders_apart =
      let A = readings_are_apart (layout w) names bound g R.tables R.clusters in
      record {
        apart = λ h k v u n x differ lv lu rv ru here. A.apart h k v u n x differ (held_local h v lv) (held_local k u lu) rv ru here;
        own = held_local;
        objects = A;
      }
