-- The message or the plan in a hand goes.
use Rattle.std.proofs.Common.{◌≡◌, ℕ, Some, None, slice_get, ap, ◌∙◌, refl, arith}
use Rattle.std.specs.Prelude.{slice_set}
use Rattle.std.specs.Option.{option_map, option_and_then}
use Rattle.std.proofs.lemmas.Option.{none-some, slice_get_within}
use Rattle.rr_base.specs.declared.name.RactorNo.{RactorNo}
use Rattle.rr_space.specs.Readings.{Owner, Space, Hand, Mail, Shown, Shared}
use Rattle.rr_space.specs.Steps.{Goneby}
use Rattle.rr_space.proofs.Drops.{dropping_is_a_step}
use Rattle.rr_world.specs.Views.{Member, Channels, Assembly, HasToDrop}
use Rattle.rr_world.specs.Layouts.{cluster_slots, layout, space_slots, hand_slots, inbox_slots, port_slots}
use Rattle.rr_world.specs.Readings.{each_from, actor_in, post_in}
use Rattle.rr_world.specs.Enabling.{StandsAt}
use Rattle.rr_world.specs.Runs.{HasOutcome}
use Rattle.rr_world.specs.declared.step.Action.TheVariants.{Discard}
use Rattle.rr_world.specs.declared.step.Reply.TheVariants.{Done}
use Rattle.rr_world.proofs.Lists.{set_at, set_off, seen_same, each_set}
use Rattle.rr_world.proofs.Knowing.{read_set}
use Rattle.rr_world.proofs.Enabled.{actor_at, holds_one}
use Rattle.rr_world.proofs.Fitting.{waits_homeless}

module _ (w w2 : Assembly) (k : ℕ) (m : Member) (at : slice_get w.ractors k ≡ Some m)
    (rs : w2.ractors ≡ slice_set w.ractors k (record m { hand = None; home = None; plan = None })) (is : w2.channels ≡ w.channels) where
  rest : (h : Owner) → (h ≡ Hand k → ⊥) → layout w2 h ≡ layout w h
  unfolding layout
  rest (Space j) q = ap (λ xs. option_map space_slots (slice_get xs j)) rs ∙ seen_same (option_map space_slots) w.ractors k j m (record m { hand = None; home = None; plan = None }) at refl
  rest (Hand j) q = ap (λ xs. option_and_then hand_slots (slice_get xs j)) rs ∙ ap (option_and_then hand_slots) (set_off w.ractors k j (record m { hand = None; home = None; plan = None }) (λ e. q (ap Hand e)))
  rest (Mail d u) q = ap (λ (x : Channels). option_and_then (inbox_slots u) (slice_get x.inboxes d)) is
  rest (Shown d u) q = ap (λ (x : Channels). option_and_then (port_slots u) (slice_get x.ports d)) is
  rest (Shared d) q = ap (λ (x : Channels). option_map cluster_slots (slice_get x.store.clusters d)) is

  gone : Goneby (Hand k) (layout w) (layout w2)
  unfolding layout
  gone = record {
    gone = ap (λ xs. option_and_then hand_slots (slice_get xs k)) rs ∙ ap (option_and_then hand_slots) (set_at w.ractors k (record m { hand = None; home = None; plan = None }) (slice_get_within w.ractors k m at));
    rest = rest;
    unshared = λ c e. let n : ⊥ = cc in n;
  }

  pub discarded : (who : RactorNo) → StandsAt who k → HasToDrop m → HasOutcome (record { who = who; action = Discard }) Done w w2
  discarded who stands has names bound g R =
      let q = dropping_is_a_step (Hand k) (layout w) (layout w2) names bound g gone R.tables in
      let K = R.knows.ractors k m at in (
        names,
        bound,
        q.0,
        read_set w w2 k m (record m { hand = None; home = None; plan = None }) at rs is refl (waits_homeless m (record m { hand = None; home = None; plan = None }) refl) (R.held.roots k m at) (record { space = K.space; roots = K.roots; hand = λ p e. absurd (none-some p e); plan = λ p e. absurd (none-some p e); published = K.published; keyed = K.keyed }) R q.1,
        (
          k,
          actor_in names k m,
          stands,
          actor_at w names g k m at,
          holds_one names k m has,
          record {
            objects = q.2;
            ractors = ap (each_from (actor_in names) 0) rs ∙ each_set (actor_in names) (actor_in names) 0 w.ractors k k (record m { hand = None; home = None; plan = None }) (omega arith) (λ i n x d e a. refl);
            post = ap (post_in names) is;
          },
        ),
        record { others = λ h off. refl; slots = λ j x i there lt off. refl },
      )
