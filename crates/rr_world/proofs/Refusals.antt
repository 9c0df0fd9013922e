-- An offer that is refused, and an inbox that is closed.
use Rattle.std.proofs.Common.{◌≡◌, ℕ, ◌++◌, ◌∷◌, List, [], map, Some, slice_get, ap, ◌∙◌, arith, cond, Bool, true, Err}
use Rattle.std.proofs.lemmas.List.{length-map, append-nil}
use Rattle.rr_base.specs.declared.name.RactorNo.{RactorNo}
use Rattle.rr_base.specs.declared.fault.Fault.{Fault}
use Rattle.rr_base.specs.declared.fault.Fault.TheVariants as fault
use Rattle.rr_base.specs.declared.event.InboxEvent.{InboxEvent}
use Rattle.rr_base.specs.declared.event.InboxEvent.TheVariants as event
use Rattle.rr_space.specs.Tables.{Packed}
use Rattle.rr_space.specs.Readings.{Naming, Objects, Hand}
use Rattle.rr_copy.specs.Messages.{size_of}
use Rattle.rr_inbox.specs.Inboxes.{Inbox, HasEvents, told_of_offer}
use Rattle.rr_inbox.specs.Answers.{Refusal}
use Rattle.rr_world.specs.Views.{Member, Assembly, with_inbox}
use Rattle.rr_world.specs.States.{Post, IsSame, with_box}
use Rattle.rr_world.specs.Readings.{each_from, actor_in, mailbox_in, letter_in, parcel_in, post_in, state_in}
use Rattle.rr_world.specs.Enabling.{StandsAt}
use Rattle.rr_world.specs.MessageCases.{HasRoom}
use Rattle.rr_world.specs.Runs.{HasOutcome}
use Rattle.rr_world.specs.declared.step.Action.TheVariants.{Offer, Close}
use Rattle.rr_world.specs.declared.step.Reply.TheVariants.{Refused, WasClosed}
use Rattle.rr_world.proofs.Lists.{set_back}
use Rattle.rr_world.proofs.Namings.{box_with, same_box}
use Rattle.rr_world.proofs.Enabled.{actor_at, mailbox_at, holds}
use Rattle.rr_world.proofs.Telling.{told}
use Rattle.rr_world.proofs.Offering.{room_seen}

-- an inbox whose messages stay, with other events
pub record IsTold (i i2 : Inbox) (es : List InboxEvent) : Type 0 where
  pub inside : i2.inside ≡ i.inside
  pub closed : i2.closed ≡ i.closed
  pub next : i2.next ≡ i.next
  pub history : i2.history ≡ i.history ++ es
  pub limit : i2.limit ≡ i.limit

told_box : (names : Naming) (c : ℕ) (i i2 : Inbox) (es : List InboxEvent) → IsTold i i2 es → mailbox_in names c i2 ≡ record (mailbox_in names c i) { history = i.history ++ es }
told_box names c i i2 es t =
    ap (λ xs. box_with (map (letter_in names c) xs) i2.closed i2.next i2.history i2.limit) t.inside
    ∙ same_box _ _ _ _ _ _ _ _ _ t.closed t.next t.history t.limit

no_room_seen : (names : Naming) (c : ℕ) (i : Inbox) → (HasEvents i → ⊥) → HasRoom (mailbox_in names c i) → ⊥
no_room_seen names c i none h = none (omega (arith, length-map i.inside (letter_in names c), h))

module _ (w w2 : Assembly) (who to : RactorNo) (k c : ℕ) (m : Member) (i i2 : Inbox) (p : Packed) (at : slice_get w.ractors k ≡ Some m) (box : slice_get w.channels.inboxes c ≡ Some i)
    (held : m.hand ≡ Some p) (rs : w2.ractors ≡ w.ractors) (is : w2.channels ≡ with_inbox w.channels c i2) (stands : StandsAt who k) (there : StandsAt to c) where
  -- the inbox is as it was
  back : (names : Naming) (g : Objects) → IsTold i i2 [] → IsSame (record (state_in w names g) { post = with_box (post_in names w.channels) c (mailbox_in names c i2) }) (state_in w2 names g)
      → IsSame (state_in w names g) (state_in w2 names g)
  back names g t same = record {
    objects = same.objects;
    ractors = same.ractors;
    post = same.post
        ∙ ap (with_box (post_in names w.channels) c) (told_box names c i i2 [] t ∙ ap (λ es. box_with (map (letter_in names c) i.inside) i.closed i.next es i.limit) (append-nil i.history))
        ∙ ap (λ bs. let q : Post = record (post_in names w.channels) { inboxes = bs } in q) (set_back (each_from (mailbox_in names) 0 w.channels.inboxes) c (mailbox_in names c i) (mailbox_at w names g c i box));
  }

  on_closed : (names : Naming) (g : Objects) → IsTold i i2 (event.Refused (size_of p) who ∷ [])
      → IsSame (record (state_in w names g) { post = with_box (post_in names w.channels) c (mailbox_in names c i2) }) (state_in w2 names g)
      → IsSame (record (state_in w names g) { post = with_box (post_in names w.channels) c (record (mailbox_in names c i) { history = i.history ++ event.Refused (size_of p) who ∷ [] }) }) (state_in w2 names g)
  on_closed names g t same = record {
    objects = same.objects;
    ractors = same.ractors;
    post = same.post ∙ ap (with_box (post_in names w.channels) c) (told_box names c i i2 (event.Refused (size_of p) who ∷ []) t);
  }

  pub offer_refused : (f : Fault) (b : Packed) → IsTold i i2 (told_of_offer (Err (f, b)) who p) → Refusal f i → HasOutcome (record { who = who; action = Offer to }) (Refused f) w w2
  offer_refused fault.HistoryFull b t why = told w w2 c i i2 box t.inside rs is (record { who = who; action = Offer to }) (Refused fault.HistoryFull)
      (λ names g same. (
        k,
        actor_in names k m,
        stands,
        actor_at w names g k m at,
        ((parcel_in names (Hand k) p, holds names k m p held), (c, mailbox_in names c i, there, mailbox_at w names g c i box)),
        (c, mailbox_in names c i, parcel_in names (Hand k) p, (there, mailbox_at w names g c i box), holds names k m p held, (no_room_seen names c i why, back names g t same)),
      ))
  offer_refused fault.Memory b t why = told w w2 c i i2 box t.inside rs is (record { who = who; action = Offer to }) (Refused fault.Memory)
      (λ names g same. (
        k,
        actor_in names k m,
        stands,
        actor_at w names g k m at,
        ((parcel_in names (Hand k) p, holds names k m p held), (c, mailbox_in names c i, there, mailbox_at w names g c i box)),
        (c, mailbox_in names c i, parcel_in names (Hand k) p, (there, mailbox_at w names g c i box), holds names k m p held, (room_seen names c i why, back names g t same)),
      ))
  offer_refused fault.Closed b t why = told w w2 c i i2 box t.inside rs is (record { who = who; action = Offer to }) (Refused fault.Closed)
      (λ names g same. (
        k,
        actor_in names k m,
        stands,
        actor_at w names g k m at,
        ((parcel_in names (Hand k) p, holds names k m p held), (c, mailbox_in names c i, there, mailbox_at w names g c i box)),
        (c, mailbox_in names c i, parcel_in names (Hand k) p, (there, mailbox_at w names g c i box), holds names k m p held, (room_seen names c i why.0, why.1, on_closed names g t same)),
      ))
  offer_refused (fault.Syntax line column kind) b t why = absurd why
  offer_refused (fault.Limit kind) b t why = absurd why
  offer_refused fault.HoldsShell b t why = absurd why
  offer_refused fault.NotMain b t why = absurd why
  offer_refused fault.NotShareable b t why = absurd why
  offer_refused (fault.Unknown name) b t why = absurd why
  offer_refused fault.NotShown b t why = absurd why
  offer_refused (fault.UsesOuter names) b t why = absurd why
  offer_refused fault.UsesYield b t why = absurd why
  offer_refused fault.StepLimit b t why = absurd why
  offer_refused (fault.BadTrace line) b t why = absurd why
  offer_refused fault.NotMine b t why = absurd why

-- an inbox that is closed now
abbrev pub shut_by : Inbox → RactorNo → Inbox
shut_by i who = record i { closed = true; history = i.history ++ cond i.closed [] (event.Closed who ∷ []) }

pub closed_by : (w w2 : Assembly) (who to : RactorNo) (k c : ℕ) (m : Member) (i i2 : Inbox) (already : Bool) → slice_get w.ractors k ≡ Some m → slice_get w.channels.inboxes c ≡ Some i
    → w2.ractors ≡ w.ractors → w2.channels ≡ with_inbox w.channels c i2 → i2 ≡ shut_by i who → already ≡ i.closed → StandsAt who k → StandsAt to c
    → HasOutcome (record { who = who; action = Close to }) (WasClosed already) w w2
closed_by w w2 who to k c m i i2 already at box rs is shut was stands there =
    told w w2 c i i2 box (ap (λ (x : Inbox). x.inside) shut) rs is (record { who = who; action = Close to }) (WasClosed already)
    (λ names g same. (
      k,
      actor_in names k m,
      stands,
      actor_at w names g k m at,
      (c, mailbox_in names c i, there, mailbox_at w names g c i box),
      (
        c,
        mailbox_in names c i,
        (there, mailbox_at w names g c i box),
        record {
          was = was;
          objects = same.objects;
          ractors = same.ractors;
          post = same.post ∙ ap (with_box (post_in names w.channels) c) (ap (mailbox_in names c) shut);
        },
      ),
    ))
