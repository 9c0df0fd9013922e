-- An inbox changes beside its messages: it is closed, or its history tells of a refusal.
use Rattle.std.proofs.Common.{◌≡◌, ℕ, length, length-set, Some, slice_get, sym, ap, ◌∙◌, refl, subst}
use Rattle.std.specs.Option.{option_map, option_and_then}
use Rattle.rr_space.specs.Readings.{Owner, Space, Hand, Mail, Shown, Shared, Naming, Objects}
use Rattle.rr_space.proofs.Frames.{reading_same}
use Rattle.rr_inbox.specs.Inboxes.{Inbox}
use Rattle.rr_world.specs.Views.{Channels, Assembly, with_inbox}
use Rattle.rr_world.specs.Layouts.{cluster_slots, layout, space_slots, hand_slots, inbox_slots, port_slots, mail_slots, AreFound}
use Rattle.rr_world.specs.States.{IsSame, with_box}
use Rattle.rr_world.specs.Readings.{each_from, actor_in, mailbox_in, post_in, state_in}
use Rattle.rr_world.specs.Cases.{IsOutcome}
use Rattle.rr_world.specs.Runs.{HasOutcome}
use Rattle.rr_world.specs.declared.step.Step.{Step}
use Rattle.rr_world.specs.declared.step.Reply.{Reply}
use Rattle.rr_world.proofs.Fitting.{fits_same}
use Rattle.rr_world.proofs.Knowing.{order_on, knows_told}
use Rattle.rr_world.proofs.Lists.{seen_same}
use Rattle.rr_world.proofs.Namings.{post_set}
use Rattle.rr_world.proofs.Holding.{rooted_same, inboxes_set, ports_same}

module _ (w w2 : Assembly) (c : ℕ) (i i2 : Inbox) (box : slice_get w.channels.inboxes c ≡ Some i) (inside : i2.inside ≡ i.inside) (rs : w2.ractors ≡ w.ractors) (is : w2.channels ≡ with_inbox w.channels c i2) where
  tables : (h : Owner) → layout w2 h ≡ layout w h
  unfolding layout
  tables (Space j) = ap (λ xs. option_map space_slots (slice_get xs j)) rs
  tables (Hand j) = ap (λ xs. option_and_then hand_slots (slice_get xs j)) rs
  tables (Mail d u) = ap (λ (x : Channels). option_and_then (inbox_slots u) (slice_get x.inboxes d)) is ∙ seen_same (option_and_then (inbox_slots u)) w.channels.inboxes c d i i2 box (ap (mail_slots u) inside)
  tables (Shown d u) = ap (λ (x : Channels). option_and_then (port_slots u) (slice_get x.ports d)) is
  tables (Shared d) = ap (λ (x : Channels). option_map cluster_slots (slice_get x.store.clusters d)) is

  -- the objects, the ractors and the messages are as they were
  pub told : (step : Step) (reply : Reply)
      → ((names : Naming) (g : Objects) → IsSame (record (state_in w names g) { post = with_box (post_in names w.channels) c (mailbox_in names c i2) }) (state_in w2 names g)
      → IsOutcome step reply (state_in w names g) (state_in w2 names g)) → HasOutcome step reply w w2
  told step reply case names bound g R = (
    names,
    bound,
    g,
    record { tables = reading_same (layout w) (layout w2) names bound g tables R.tables; knows = knows_told w w2 c i i2 box inside rs is R.knows; owned = λ j m at. R.owned j m (ap (λ xs. slice_get xs j) (sym rs) ∙ at); held = record { roots = rooted_same w.ractors w2.ractors rs R.held.roots; inboxes = inboxes_set w.channels w2.channels c i2 (ap (λ (x : Channels). x.inboxes) is) (subst AreFound (sym inside) (R.held.inboxes c i box)) R.held.inboxes; ports = ports_same w.channels w2.channels (ap (λ (x : Channels). x.ports) is) R.held.ports }; inboxes = ap (λ (x : Channels). length x.inboxes) is ∙ length-set w.channels.inboxes c i2 ∙ R.inboxes ∙ sym (ap length rs); ports = ap (λ (x : Channels). length x.ports) is ∙ R.ports ∙ sym (ap length rs); fits = fits_same w w2 rs (ap (λ (x : Channels). x.ports) is) R.fits; clusters = order_on w w2 (ap (λ (x : Channels). x.store.clusters) is) R.clusters },
    case names g (record {
      objects = λ n. refl;
      ractors = ap (each_from (actor_in names) 0) rs;
      post = ap (post_in names) is ∙ post_set names names w.channels c i2 (λ d u z. refl) (λ d u. refl) (λ d. refl);
    }),
    record { others = λ h off. refl; slots = λ j x i there lt off. refl },
  )
