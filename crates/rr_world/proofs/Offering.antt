-- The message in a hand goes to the end of an inbox.
use Rattle.std.proofs.Common.{◌≡◌, Contains, ℕ, ◌+◌, ⊎_elim, inr, List, [], ◌∷◌, ◌++◌, map, Some, None, slice_get, sym, ap, ◌∙◌, subst, refl, arith, false}
use Rattle.std.specs.Prelude.{slice_set}
use Rattle.std.specs.Option.{option_map, option_and_then}
use Rattle.std.proofs.lemmas.List.{map-append, length-map}
use Rattle.std.proofs.lemmas.Option.{slice_get_within}
use Rattle.rr_base.specs.declared.name.RactorNo.{RactorNo}
use Rattle.rr_base.specs.declared.event.InboxEvent.TheVariants as event
use Rattle.rr_space.specs.Graph.{Object, Label, Value}
use Rattle.rr_space.specs.Tables.{Packed, Here, here_behind, renamed_triple, behind}
use Rattle.rr_space.specs.Readings.{Owner, Space, Hand, Mail, Shown, Shared, Naming}
use Rattle.rr_space.specs.Steps.{Goes}
use Rattle.rr_space.proofs.Hands.{hands_on}
use Rattle.rr_copy.specs.Messages.{size_of}
use Rattle.rr_inbox.specs.Inboxes.{Inbox, IsTicketed, HasEvents}
use Rattle.rr_inbox.specs.declared.entry.Entry.{Entry}
use Rattle.rr_world.specs.Views.{Member, Channels, Assembly, with_inbox}
use Rattle.rr_world.specs.Layouts.{cluster_slots, layout, space_slots, hand_slots, inbox_slots, port_slots, message_slots, mail_slots, IsMessageKnown, AreFound}
use Rattle.rr_world.specs.States.{Mailbox, with_box}
use Rattle.rr_world.specs.Readings.{each_from, actor_in, mailbox_in, parcel_in, letter_in, post_in}
use Rattle.rr_world.specs.Enabling.{StandsAt}
use Rattle.rr_world.specs.Runs.{HasOutcome}
use Rattle.rr_world.specs.declared.step.Action.TheVariants.{Offer}
use Rattle.rr_world.specs.declared.step.Reply.TheVariants.{Offered}
use Rattle.rr_world.proofs.Lists.{eq_cases, set_at, set_off, seen_same, each_set}
use Rattle.rr_world.proofs.Namings.{actor_same, post_set, same_box, letters_same, names_moved, parcel_moved, shared_kept, value_stays}
use Rattle.rr_world.proofs.Tickets.{mail_none, mail_last, mail_others, next_is_new}
use Rattle.std.proofs.lemmas.List.Elements.{Contains-append_cases}
use Rattle.rr_space.proofs.Sounds.{none_in, in_first}
use Rattle.rr_world.proofs.Knowing.{read_both, emptied_knows}
use Rattle.rr_world.proofs.Enabled.{actor_at, mailbox_at, holds}
use Rattle.rr_world.proofs.Fitting.{waits_homeless}
use Rattle.rr_world.proofs.Staying.{one_renamed}
use Rattle.rr_world.proofs.Holding.{found_more}
use Rattle.rr_world.specs.MessageCases.{HasRoom}

triples_stay : (ts : List (Label × Value)) → map (renamed_triple (behind 0)) ts ≡ ts
triples_stay [] = refl
triples_stay (t ∷ ts) = ap (λ v. (t.0, v) ∷ map (renamed_triple (behind 0)) ts) (value_stays t.1) ∙ ap (λ us. t ∷ us) (triples_stay ts)

-- objects behind no slots are what they are
pub objects_stay : (os : List Object) → map Here os ≡ map (here_behind 0) os
objects_stay [] = refl
objects_stay (o ∷ os) = ap (λ ts. Here (record o { triples = ts }) ∷ map Here os) (sym (triples_stay o.triples)) ∙ ap (λ us. here_behind 0 o ∷ us) (objects_stay os)

-- an inbox has room in its history, where the machine's has
pub room_seen : (names : Naming) (c : ℕ) (i : Inbox) → HasEvents i → HasRoom (mailbox_in names c i)
room_seen names c i h = omega (arith, length-map i.inside (letter_in names c), h)

-- an inbox with a message more
pub record IsLonger (who : RactorNo) (p : Packed) (i i2 : Inbox) : Type 0 where
  pub room : HasEvents i
  pub unshut : i.closed ≡ false
  pub tickets : IsTicketed i
  pub inside : i2.inside ≡ i.inside ++ record { ticket = i.next; message = p } ∷ []
  pub closed : i2.closed ≡ i.closed
  pub next : i2.next ≡ i.next + 1
  pub history : i2.history ≡ i.history ++ event.Offered i.next (size_of p) who ∷ []
  pub limit : i2.limit ≡ i.limit

module _ (w w2 : Assembly) (who : RactorNo) (k c : ℕ) (m : Member) (i i2 : Inbox) (p : Packed) (at : slice_get w.ractors k ≡ Some m) (box : slice_get w.channels.inboxes c ≡ Some i)
    (held : m.hand ≡ Some p) (L : IsLonger who p i i2) (rs : w2.ractors ≡ slice_set w.ractors k (record m { hand = None; home = None })) (is : w2.channels ≡ with_inbox w.channels c i2) where
  fresh : mail_slots i.next i.inside ≡ None
  fresh = mail_none i.inside i.next (next_is_new i L.tickets)

  rest : (h : Owner) → (h ≡ Hand k → ⊥) → (h ≡ Mail c i.next → ⊥) → layout w2 h ≡ layout w h
  unfolding layout
  rest (Space j) q r = ap (λ xs. option_map space_slots (slice_get xs j)) rs ∙ seen_same (option_map space_slots) w.ractors k j m (record m { hand = None; home = None }) at refl
  rest (Hand j) q r = ap (λ xs. option_and_then hand_slots (slice_get xs j)) rs ∙ ap (option_and_then hand_slots) (set_off w.ractors k j (record m { hand = None; home = None }) (λ e. q (ap Hand e)))
  rest (Mail d u) q r = ap (λ (x : Channels). option_and_then (inbox_slots u) (slice_get x.inboxes d)) is ∙ ⊎_elim here other (eq_cases d c)
    where
      here : d ≡ c → option_and_then (inbox_slots u) (slice_get (slice_set w.channels.inboxes c i2) d) ≡ option_and_then (inbox_slots u) (slice_get w.channels.inboxes d)
      here e = seen_same (option_and_then (inbox_slots u)) w.channels.inboxes c d i i2 box
          (ap (mail_slots u) L.inside ∙ mail_others i.inside (record { ticket = i.next; message = p }) u (λ z. r (ap (λ x. Mail x u) e ∙ ap (Mail c) z)))

      other : (d ≡ c → ⊥) → option_and_then (inbox_slots u) (slice_get (slice_set w.channels.inboxes c i2) d) ≡ option_and_then (inbox_slots u) (slice_get w.channels.inboxes d)
      other e = ap (option_and_then (inbox_slots u)) (set_off w.channels.inboxes c d i2 e)
  rest (Shown d u) q r = ap (λ (x : Channels). option_and_then (port_slots u) (slice_get x.ports d)) is
  rest (Shared d) q r = ap (λ (x : Channels). option_map cluster_slots (slice_get x.store.clusters d)) is

  goes : Goes (Hand k) (Mail c i.next) p.objects [] (layout w) (layout w2)
  unfolding layout
  goes = record {
    from = ap (option_and_then hand_slots) at ∙ ap (option_map message_slots) held;
    to = inr (ap (option_and_then (inbox_slots i.next)) box ∙ fresh, refl);
    gone = ap (λ xs. option_and_then hand_slots (slice_get xs k)) rs ∙ ap (option_and_then hand_slots) (set_at w.ractors k (record m { hand = None; home = None }) (slice_get_within w.ractors k m at));
    come = ap (λ (x : Channels). option_and_then (inbox_slots i.next) (slice_get x.inboxes c)) is
        ∙ ap (option_and_then (inbox_slots i.next)) (set_at w.channels.inboxes c i2 (slice_get_within w.channels.inboxes c i box))
        ∙ ap (mail_slots i.next) L.inside ∙ mail_last i.inside (record { ticket = i.next; message = p }) fresh ∙ ap (λ x. Some x) (objects_stay p.objects);
    rest = rest;
    apart = λ e. let n : ⊥ = cc in n;
    unshared_a = λ d e. let n : ⊥ = cc in n;
    unshared_b = λ d e. let n : ⊥ = cc in n;
  }

  pub offered : (to : RactorNo) → StandsAt who k → StandsAt to c → HasOutcome (record { who = who; action = Offer to }) (Offered i.next) w w2
  offered to stands there names bound g R =
      let q = hands_on (Hand k) (Mail c i.next) p.objects [] (layout w) (layout w2) names bound g goes R.tables in
      let names2 = q.0 in
      let N = q.3 in
      let J = q.5 in
      let apart : (d : ℕ) → Mail c i.next ≡ Shared d → ⊥ = λ d e. let n : ⊥ = cc in n in
      let kept : (d : ℕ) → names2 (Shared d) ≡ names (Shared d) = shared_kept (layout w) (Hand k) (Mail c i.next) p.objects [] names names2 N J apart in
      let spaces : (n : ℕ) → names2 (Space n) ≡ names (Space n) = λ n. N.rest (Space n) (λ z. let y : ⊥ = cc in y) in
      let hands : (n : ℕ) → names2 (Hand n) ≡ names (Hand n) = λ n. N.rest (Hand n) (λ z. let y : ⊥ = cc in y) in
      let e : Entry = record { ticket = i.next; message = p } in
      let inside : map (letter_in names2 c) i2.inside ≡ map (letter_in names c) i.inside ++ record { ticket = i.next; parcel = parcel_in names (Hand k) p } ∷ [] =
      ap (map (letter_in names2 c)) L.inside ∙ map-append (letter_in names2 c) i.inside (e ∷ [])
      ∙ ap (λ ls. ls ++ letter_in names2 c e ∷ []) (letters_same names names2 c i.inside (λ x has. N.rest (Mail c x.ticket) (λ z. next_is_new i L.tickets x has (let y : x.ticket ≡ i.next = cc in y))) kept)
      ∙ ap (λ r. map (letter_in names c) i.inside ++ record { ticket = i.next; parcel = r } ∷ []) (parcel_moved (layout w) (Hand k) (Mail c i.next) p.objects names names2 p N J apart (names_moved goes R.tables q.2 J)) in
      let mailbox : mailbox_in names2 c i2 ≡ record (mailbox_in names c i) {
        inside = (mailbox_in names c i).inside ++ record { ticket = i.next; parcel = parcel_in names (Hand k) p } ∷ [];
        next = i.next + 1;
        history = i.history ++ event.Offered i.next (size_of p) who ∷ [];
      } =
      ap (λ ls. let b : Mailbox = record { inside = ls; closed = i2.closed; next = i2.next; history = i2.history; limit = i2.limit } in b) inside
      ∙ same_box _ _ _ _ _ _ _ _ _ L.closed L.next L.history L.limit in (
        names2,
        bound,
        q.1,
        read_both w w2 k c m (record m { hand = None; home = None }) i2 at rs is refl (waits_homeless m (record m { hand = None; home = None }) refl) (R.held.roots k m at)
            (subst AreFound (sym L.inside) (found_more i.inside e fresh (R.held.inboxes c i box))) (emptied_knows (layout w) m None m.ticket (R.knows.ractors k m at))
            (λ x has. ⊎_elim
            (λ old. R.knows.inboxes c i x box old)
            (λ new. ⊎_elim
            (λ (same : e ≡ x). subst (λ (y : Entry). IsMessageKnown (layout w) y.message) same ((R.knows.ractors k m at).hand p held))
            (λ none. absurd (none_in x none))
            (in_first e [] x new))
            (Contains-append_cases i.inside (e ∷ []) x (subst (λ xs. Contains xs x) L.inside has)))
            R q.2,
        (
          k,
          actor_in names k m,
          stands,
          actor_at w names g k m at,
          ((parcel_in names (Hand k) p, holds names k m p held), (c, mailbox_in names c i, there, mailbox_at w names g c i box)),
          (
            c,
            mailbox_in names c i,
            parcel_in names (Hand k) p,
            (there, mailbox_at w names g c i box),
            holds names k m p held,
            record {
              room = room_seen names c i L.room;
              unshut = L.unshut;
              ticket = refl;
              objects = q.4;
              ractors = ap (each_from (actor_in names2) 0) rs
                  ∙ each_set (actor_in names) (actor_in names2) 0 w.ractors k k (record m { hand = None; home = None }) (omega arith) (λ j n x d e a. actor_same names names2 n x (spaces n) (hands n) kept)
                  ∙ ap (slice_set (each_from (actor_in names) 0 w.ractors) k) (actor_same names names2 k (record m { hand = None; home = None }) (spaces k) (hands k) kept);
              post = ap (post_in names2) is
                  ∙ post_set names names2 w.channels c i2 (λ d u z. N.rest (Mail d u) (λ y. z (let f : d ≡ c = cc in f))) (λ d u. N.rest (Shown d u) (λ z. let y : ⊥ = cc in y)) kept
                  ∙ ap (with_box (post_in names w.channels) c) mailbox;
            },
          ),
        ),
        one_renamed w (Mail c i.next) (record { who = who; action = Offer to }) N there (λ j e. let z : ⊥ = cc in z),
      )

  pub offered_under : (to : RactorNo) (t : ℕ) → t ≡ i.next → StandsAt who k → StandsAt to c → HasOutcome (record { who = who; action = Offer to }) (Offered t) w w2
  offered_under to t same stands there = subst (λ u. HasOutcome (record { who = who; action = Offer to }) (Offered u) w w2) (sym same) (offered to stands there)
