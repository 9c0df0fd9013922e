-- The first message of an inbox comes into a hand.
use Rattle.std.proofs.Common.{◌≡◌, ℕ, suc, ⊎_elim, inr, List, [], ◌∷◌, ◌++◌, map, Some, slice_get, sym, ap, ◌∙◌, refl, arith, true, false, Contains, subst}
use Rattle.std.specs.Prelude.{slice_set}
use Rattle.std.specs.Option.{option_map, option_and_then}
use Rattle.std.proofs.lemmas.Option.{slice_get_within}
use Rattle.rr_base.specs.declared.name.RactorNo.{RactorNo}
use Rattle.rr_base.specs.declared.event.InboxEvent.TheVariants as event
use Rattle.rr_space.specs.Readings.{Owner, Space, Hand, Mail, Shown, Shared, Naming, Objects}
use Rattle.rr_space.specs.Steps.{Goes}
use Rattle.rr_space.proofs.Hands.{hands_on}
use Rattle.rr_copy.specs.Messages.{size_of}
use Rattle.rr_inbox.specs.Inboxes.{Inbox, IsTicketed}
use Rattle.rr_inbox.specs.declared.entry.Entry.{Entry}
use Rattle.rr_world.specs.Views.{Member, Channels, Assembly, IsFree, with_inbox}
use Rattle.rr_world.specs.Layouts.{cluster_slots, layout, space_slots, hand_slots, inbox_slots, port_slots, message_slots, mail_slots, AreFound}
use Rattle.rr_world.specs.States.{Actor, Parcel, with_box}
use Rattle.rr_world.specs.Readings.{each_from, actor_in, mailbox_in, parcel_in, letter_in, post_in, state_in}
use Rattle.rr_world.specs.Enabling.{StandsAt}
use Rattle.rr_world.specs.Cases.{IsOutcome}
use Rattle.rr_world.specs.Runs.{HasOutcome}
use Rattle.rr_world.specs.declared.step.Action.TheVariants.{Accept}
use Rattle.rr_world.specs.declared.step.Reply.TheVariants.{Done, Empty, EmptyAndClosed}
use Rattle.rr_world.proofs.Lists.{eq_cases, set_at, set_off, seen_same, each_set}
use Rattle.rr_world.proofs.Namings.{actor_same, handed, mailbox_same, post_set, names_moved, parcel_moved, shared_kept}
use Rattle.rr_world.proofs.Tickets.{mail_none, mail_here, mail_past, first_differs}
use Rattle.rr_world.proofs.Knowing.{read_both, holding_knows}
use Rattle.rr_world.proofs.Enabled.{actor_at, mailbox_at, free}
use Rattle.rr_world.proofs.Offering.{objects_stay}
use Rattle.rr_world.proofs.Staying.{same_state, one_renamed}
use Rattle.rr_world.proofs.Fitting.{waits_same}
use Rattle.rr_world.proofs.Holding.{found_fewer}

in_later : (e : Entry) (es : List Entry) (x : Entry) → Contains es x → Contains (e ∷ es) x
in_later e es x (j, lt, is) = (suc j, omega arith, is)

-- an inbox with a message less
abbrev pub less_first : Inbox → RactorNo → Entry → List Entry → Inbox
less_first i who e es = record i { inside = es; history = i.history ++ event.Accepted e.ticket (size_of e.message) who ∷ [] }

module _ (w w2 : Assembly) (who : RactorNo) (k : ℕ) (m : Member) (i : Inbox) (e : Entry) (es : List Entry) (at : slice_get w.ractors k ≡ Some m) (box : slice_get w.channels.inboxes k ≡ Some i)
    (free_hand : IsFree m) (tickets : IsTicketed i) (first : i.inside ≡ e ∷ es) (rs : w2.ractors ≡ slice_set w.ractors k (record m { hand = Some e.message }))
    (is : w2.channels ≡ with_inbox w.channels k (less_first i who e es)) where
  rest : (h : Owner) → (h ≡ Mail k e.ticket → ⊥) → (h ≡ Hand k → ⊥) → layout w2 h ≡ layout w h
  unfolding layout
  rest (Space j) q r = ap (λ xs. option_map space_slots (slice_get xs j)) rs ∙ seen_same (option_map space_slots) w.ractors k j m (record m { hand = Some e.message }) at refl
  rest (Hand j) q r = ap (λ xs. option_and_then hand_slots (slice_get xs j)) rs ∙ ap (option_and_then hand_slots) (set_off w.ractors k j (record m { hand = Some e.message }) (λ z. r (ap Hand z)))
  rest (Mail d u) q r = ap (λ (x : Channels). option_and_then (inbox_slots u) (slice_get x.inboxes d)) is ∙ ⊎_elim here other (eq_cases d k)
    where
      here : d ≡ k → option_and_then (inbox_slots u) (slice_get (slice_set w.channels.inboxes k (less_first i who e es)) d) ≡ option_and_then (inbox_slots u) (slice_get w.channels.inboxes d)
      here z = seen_same (option_and_then (inbox_slots u)) w.channels.inboxes k d i (less_first i who e es) box
          (sym (mail_past e es u (λ y. q (ap (λ x. Mail x u) z ∙ ap (Mail k) y))) ∙ ap (mail_slots u) (sym first))

      other : (d ≡ k → ⊥) → option_and_then (inbox_slots u) (slice_get (slice_set w.channels.inboxes k (less_first i who e es)) d) ≡ option_and_then (inbox_slots u) (slice_get w.channels.inboxes d)
      other z = ap (option_and_then (inbox_slots u)) (set_off w.channels.inboxes k d (less_first i who e es) z)
  rest (Shown d u) q r = ap (λ (x : Channels). option_and_then (port_slots u) (slice_get x.ports d)) is
  rest (Shared d) q r = ap (λ (x : Channels). option_map cluster_slots (slice_get x.store.clusters d)) is

  goes : Goes (Mail k e.ticket) (Hand k) e.message.objects [] (layout w) (layout w2)
  unfolding layout
  goes = record {
    from = ap (option_and_then (inbox_slots e.ticket)) box ∙ ap (mail_slots e.ticket) first ∙ mail_here e es;
    to = inr (ap (option_and_then hand_slots) at ∙ ap (option_map message_slots) free_hand.hand, refl);
    gone = ap (λ (x : Channels). option_and_then (inbox_slots e.ticket) (slice_get x.inboxes k)) is
        ∙ ap (option_and_then (inbox_slots e.ticket)) (set_at w.channels.inboxes k (less_first i who e es) (slice_get_within w.channels.inboxes k i box))
        ∙ mail_none es e.ticket (first_differs i e es tickets first);
    come = ap (λ xs. option_and_then hand_slots (slice_get xs k)) rs ∙ ap (option_and_then hand_slots) (set_at w.ractors k (record m { hand = Some e.message }) (slice_get_within w.ractors k m at))
        ∙ ap (λ x. Some x) (objects_stay e.message.objects);
    rest = rest;
    apart = λ z. let n : ⊥ = cc in n;
    unshared_a = λ d z. let n : ⊥ = cc in n;
    unshared_b = λ d z. let n : ⊥ = cc in n;
  }

  pub accepted : StandsAt who k → HasOutcome (record { who = who; action = Accept }) Done w w2
  accepted stands names bound g R =
      let q = hands_on (Mail k e.ticket) (Hand k) e.message.objects [] (layout w) (layout w2) names bound g goes R.tables in
      let names2 = q.0 in
      let N = q.3 in
      let J = q.5 in
      let apart : (d : ℕ) → Hand k ≡ Shared d → ⊥ = λ d z. let n : ⊥ = cc in n in
      let kept : (d : ℕ) → names2 (Shared d) ≡ names (Shared d) = shared_kept (layout w) (Mail k e.ticket) (Hand k) e.message.objects [] names names2 N J apart in
      let spaces : (n : ℕ) → names2 (Space n) ≡ names (Space n) = λ n. N.rest (Space n) (λ z. let y : ⊥ = cc in y) in
      let mails : (n u : ℕ) → names2 (Mail n u) ≡ names (Mail n u) = λ n u. N.rest (Mail n u) (λ z. let y : ⊥ = cc in y) in
      let moved : parcel_in names2 (Hand k) e.message ≡ parcel_in names (Mail k e.ticket) e.message =
      parcel_moved (layout w) (Mail k e.ticket) (Hand k) e.message.objects names names2 e.message N J apart (names_moved goes R.tables q.2 J) in
      let actor : actor_in names2 k (record m { hand = Some e.message }) ≡ record (actor_in names k m) { hand = Some (parcel_in names (Mail k e.ticket) e.message) } =
      handed names names2 k m e.message m.ticket (spaces k) kept ∙ ap (λ (p : Parcel). let a : Actor = record (actor_in names k m) { hand = Some p } in a) moved in (
        names2,
        bound,
        q.1,
        read_both w w2 k k m (record m { hand = Some e.message }) (less_first i who e es) at rs is refl (waits_same m (record m { hand = Some e.message }) refl refl) (R.held.roots k m at)
            (found_fewer e es (first_differs i e es tickets first) (in_later e es) (subst AreFound first (R.held.inboxes k i box)))
            (holding_knows (layout w) m e.message m.ticket (R.knows.ractors k m at) (R.knows.inboxes k i e box (subst (λ xs. Contains xs e) (sym first) (0, omega arith, refl))))
            (λ x has. R.knows.inboxes k i x box (subst (λ xs. Contains xs x) (sym first) (in_later e es x has)))
            R q.2,
        (
          k,
          actor_in names k m,
          stands,
          actor_at w names g k m at,
          (free names k m free_hand, (k, mailbox_in names k i, stands, mailbox_at w names g k i box)),
          (
            mailbox_in names k i,
            letter_in names k e,
            map (letter_in names k) es,
            (stands, mailbox_at w names g k i box),
            record {
              first = ap (map (letter_in names k)) first;
              objects = q.4;
              ractors = ap (each_from (actor_in names2) 0) rs
                  ∙ each_set (actor_in names) (actor_in names2) 0 w.ractors k k (record m { hand = Some e.message }) (omega arith)
                  (λ j n x d z a. actor_same names names2 n x (spaces n) (N.rest (Hand n) (λ y. d (let f : n ≡ k = cc in omega arith))) kept)
                  ∙ ap (slice_set (each_from (actor_in names) 0 w.ractors) k) actor;
              post = ap (post_in names2) is
                  ∙ post_set names names2 w.channels k (less_first i who e es) (λ d u z. mails d u) (λ d u. N.rest (Shown d u) (λ z. let y : ⊥ = cc in y)) kept
                  ∙ ap (with_box (post_in names w.channels) k) (mailbox_same names names2 k (less_first i who e es) (λ y has. mails k y.ticket) kept);
            },
          ),
        ),
        one_renamed w (Hand k) (record { who = who; action = Accept }) N stands (λ j e. let z : ⊥ = cc in z),
      )

-- nothing is inside
pub nothing_open : (w : Assembly) (names : Naming) (g : Objects) (who : RactorNo) (k : ℕ) (m : Member) (i : Inbox) → slice_get w.ractors k ≡ Some m → slice_get w.channels.inboxes k ≡ Some i
    → IsFree m → StandsAt who k → i.inside ≡ [] → i.closed ≡ false → IsOutcome (record { who = who; action = Accept }) Empty (state_in w names g) (state_in w names g)
nothing_open w names g who k m i at box free_hand stands none unshut = (
  k,
  actor_in names k m,
  stands,
  actor_at w names g k m at,
  (free names k m free_hand, (k, mailbox_in names k i, stands, mailbox_at w names g k i box)),
  (mailbox_in names k i, (stands, mailbox_at w names g k i box), ap (map (letter_in names k)) none, unshut, same_state (state_in w names g)),
)

pub nothing_closed : (w : Assembly) (names : Naming) (g : Objects) (who : RactorNo) (k : ℕ) (m : Member) (i : Inbox) → slice_get w.ractors k ≡ Some m → slice_get w.channels.inboxes k ≡ Some i
    → IsFree m → StandsAt who k → i.inside ≡ [] → i.closed ≡ true → IsOutcome (record { who = who; action = Accept }) EmptyAndClosed (state_in w names g) (state_in w names g)
nothing_closed w names g who k m i at box free_hand stands none shut = (
  k,
  actor_in names k m,
  stands,
  actor_at w names g k m at,
  (free names k m free_hand, (k, mailbox_in names k i, stands, mailbox_at w names g k i box)),
  (mailbox_in names k i, (stands, mailbox_at w names g k i box), ap (map (letter_in names k)) none, shut, same_state (state_in w names g)),
)
