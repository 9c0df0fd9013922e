-- The tables of a World in which one ractor is another.
use Rattle.std.proofs.Common.{◌≡◌, ℕ, Some, slice_get, ap, ◌∙◌}
use Rattle.std.specs.Prelude.{slice_set}
use Rattle.std.specs.Option.{option_map, option_and_then}
use Rattle.std.proofs.lemmas.Option.{slice_get_within}
use Rattle.rr_space.specs.Readings.{Owner, Space, Hand, Mail, Shown, Shared}
use Rattle.rr_world.specs.Views.{Member, Channels, Assembly, seen_slots}
use Rattle.rr_world.specs.Layouts.{cluster_slots, layout, space_slots, hand_slots, inbox_slots, port_slots, message_slots}
use Rattle.rr_world.proofs.Lists.{set_at, set_off}

module _ (w w2 : Assembly) (k : ℕ) (m m2 : Member) (at : slice_get w.ractors k ≡ Some m) (rs : w2.ractors ≡ slice_set w.ractors k m2) (is : w2.channels ≡ w.channels) where
  pub space_was : layout w (Space k) ≡ Some (seen_slots m)
  unfolding layout
  space_was = ap (option_map space_slots) at

  pub hand_was : layout w (Hand k) ≡ option_map message_slots m.hand
  unfolding layout
  hand_was = ap (option_and_then hand_slots) at

  pub space_now : layout w2 (Space k) ≡ Some (seen_slots m2)
  unfolding layout
  space_now = ap (λ xs. option_map space_slots (slice_get xs k)) rs ∙ ap (option_map space_slots) (set_at w.ractors k m2 (slice_get_within w.ractors k m at))

  pub hand_now : layout w2 (Hand k) ≡ option_map message_slots m2.hand
  unfolding layout
  hand_now = ap (λ xs. option_and_then hand_slots (slice_get xs k)) rs ∙ ap (option_and_then hand_slots) (set_at w.ractors k m2 (slice_get_within w.ractors k m at))

  pub rest_now : (h : Owner) → (h ≡ Space k → ⊥) → (h ≡ Hand k → ⊥) → layout w2 h ≡ layout w h
  unfolding layout
  rest_now (Space j) q r = ap (λ xs. option_map space_slots (slice_get xs j)) rs ∙ ap (option_map space_slots) (set_off w.ractors k j m2 (λ e. q (ap Space e)))
  rest_now (Hand j) q r = ap (λ xs. option_and_then hand_slots (slice_get xs j)) rs ∙ ap (option_and_then hand_slots) (set_off w.ractors k j m2 (λ e. r (ap Hand e)))
  rest_now (Mail d u) q r = ap (λ (x : Channels). option_and_then (inbox_slots u) (slice_get x.inboxes d)) is
  rest_now (Shown d u) q r = ap (λ (x : Channels). option_and_then (port_slots u) (slice_get x.ports d)) is
  rest_now (Shared d) q r = ap (λ (x : Channels). option_map cluster_slots (slice_get x.store.clusters d)) is
