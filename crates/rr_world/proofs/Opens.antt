-- The message in a hand is opened in the ractor's space.
use Rattle.std.proofs.Common.{◌≡◌, ℕ, ◌+◌, [], ◌∷◌, ◌++◌, length, length-append, map, Some, None, slice_get, ap, ◌∙◌, refl, arith, inl, List, sym, subst}
use Rattle.std.specs.Prelude.{slice_set}
use Rattle.std.specs.Option.{option_map, option_and_then}
use Rattle.std.proofs.lemmas.List.{map-append, length-map}
use Rattle.std.proofs.lemmas.Option.{slice_get_within}
use Rattle.rr_base.specs.declared.name.RactorNo.{RactorNo}
use Rattle.rr_space.specs.Tables.{Packed, here_behind, Slot}
use Rattle.rr_space.specs.Readings.{Owner, Space, Hand, Mail, Shown, Shared}
use Rattle.rr_space.specs.Steps.{Goes}
use Rattle.rr_space.specs.declared.refer.Ref.{Ref}
use Rattle.rr_space.proofs.Hands.{hands_on}
use Rattle.rr_world.specs.Views.{Member, Channels, Assembly, AreRootsWithin}
use Rattle.rr_world.specs.Layouts.{cluster_slots, layout, space_slots, hand_slots, inbox_slots, port_slots, message_slots}
use Rattle.rr_world.specs.Readings.{each_from, actor_in, shells_in, parcel_in, value_in, root_in, post_in, state_in}
use Rattle.rr_world.specs.Enabling.{StandsAt}
use Rattle.rr_world.specs.Opening.{IsOpenedBy, Opened}
use Rattle.rr_world.specs.Runs.{HasOutcome}
use Rattle.rr_world.specs.declared.step.Action.TheVariants.{Open}
use Rattle.rr_world.specs.declared.step.Reply.TheVariants.{Done, Refused}
use Rattle.rr_world.specs.Outcomes.{reply_of}
use Rattle.rr_world.specs.declared.outcome.Outcome.{Outcome}
use Rattle.rr_world.specs.declared.outcome.Outcome.TheVariants as outcome
use Rattle.rr_world.proofs.Forwarding.{seen_plain}
use Rattle.rr_world.proofs.Lists.{set_at, set_off, each_set}
use Rattle.rr_world.proofs.Namings.{actor_same, same_actor, no_plan_same, no_published_same, post_same, value_moved, shared_kept, roots_stand}
use Rattle.rr_world.proofs.Knowing.{read_set, opened_knows}
use Rattle.rr_world.proofs.Enabled.{actor_at, holds, allowed, holds_not}
use Rattle.rr_world.proofs.Insides.{set_again, same_assembly}
use Rattle.rr_world.proofs.Staying.{refused, stays, same_state, space_renamed}
use Rattle.rr_world.proofs.Fitting.{waits_homeless}
use Rattle.rr_world.proofs.Rooting.{roots_and_more}

module _ (w w2 : Assembly) (k : ℕ) (m m2 : Member) (p : Packed) (root : Ref) (at : slice_get w.ractors k ≡ Some m) (O : IsOpenedBy p root m m2)
    (rs : w2.ractors ≡ slice_set w.ractors k m2) (is : w2.channels ≡ w.channels) where
  rest : (h : Owner) → (h ≡ Hand k → ⊥) → (h ≡ Space k → ⊥) → layout w2 h ≡ layout w h
  unfolding layout
  rest (Space j) q r = ap (λ xs. option_map space_slots (slice_get xs j)) rs ∙ ap (option_map space_slots) (set_off w.ractors k j m2 (λ e. r (ap Space e)))
  rest (Hand j) q r = ap (λ xs. option_and_then hand_slots (slice_get xs j)) rs ∙ ap (option_and_then hand_slots) (set_off w.ractors k j m2 (λ e. q (ap Hand e)))
  rest (Mail d u) q r = ap (λ (x : Channels). option_and_then (inbox_slots u) (slice_get x.inboxes d)) is
  rest (Shown d u) q r = ap (λ (x : Channels). option_and_then (port_slots u) (slice_get x.ports d)) is
  rest (Shared d) q r = ap (λ (x : Channels). option_map cluster_slots (slice_get x.store.clusters d)) is

  goes : Goes (Hand k) (Space k) p.objects m.space.slots (layout w) (layout w2)
  unfolding layout
  goes = record {
    from = ap (option_and_then hand_slots) at ∙ ap (option_map message_slots) O.held;
    to = inl (ap (option_map space_slots) at ∙ ap (λ (ss : List Slot). Some ss) (seen_plain m O.no_published));
    gone = ap (λ xs. option_and_then hand_slots (slice_get xs k)) rs ∙ ap (option_and_then hand_slots) (set_at w.ractors k m2 (slice_get_within w.ractors k m at)) ∙ ap (option_map message_slots) O.hand;
    come = ap (λ xs. option_map space_slots (slice_get xs k)) rs ∙ ap (option_map space_slots) (set_at w.ractors k m2 (slice_get_within w.ractors k m at)) ∙ ap (λ ss. Some ss) (seen_plain m2 O.published ∙ O.opened.slots);
    rest = rest;
    apart = λ e. let n : ⊥ = cc in n;
    unshared_a = λ d e. let n : ⊥ = cc in n;
    unshared_b = λ d e. let n : ⊥ = cc in n;
  }

  pub opened : (who : RactorNo) → StandsAt who k → HasOutcome (record { who = who; action = Open }) Done w w2
  opened who stands names bound g R =
      let q = hands_on (Hand k) (Space k) p.objects m.space.slots (layout w) (layout w2) names bound g goes R.tables in
      let names2 = q.0 in
      let N = q.3 in
      let J = q.5 in
      let apart : (c : ℕ) → Space k ≡ Shared c → ⊥ = λ c e. let n : ⊥ = cc in n in
      let kept : (c : ℕ) → names2 (Shared c) ≡ names (Shared c) = shared_kept (layout w) (Hand k) (Space k) p.objects m.space.slots names names2 N J apart in
      let roots : map (root_in names2 (Space k)) m2.roots ≡ map (root_in names (Space k)) m.roots ++ value_in names (Hand k) p.root ∷ [] =
      ap (map (root_in names2 (Space k))) O.roots ∙ map-append (root_in names2 (Space k)) m.roots (root ∷ [])
      ∙ ap (λ vs. vs ++ root_in names2 (Space k) root ∷ []) (roots_stand (layout w) (Hand k) (Space k) p.objects m.space.slots names names2 N J apart m.roots O.within)
      ∙ ap (λ v. map (root_in names (Space k)) m.roots ++ v ∷ []) (ap (value_in names2 (Space k)) O.opened.root ∙ value_moved (layout w) (Hand k) (Space k) p.objects m.space.slots names names2 N J apart p.root) in
      let count : length m2.space.slots ≡ length m.space.slots + length p.objects =
      ap length O.opened.slots ∙ length-append m.space.slots (map (here_behind (length m.space.slots)) p.objects)
      ∙ ap (λ n. length m.space.slots + n) (length-map p.objects (here_behind (length m.space.slots))) in
      let within : AreRootsWithin (length m2.space.slots) m2.roots =
      subst (λ (xs : List Ref). AreRootsWithin (length m2.space.slots) xs) (sym O.roots) (roots_and_more (length m.space.slots) (length m2.space.slots) m.roots root (omega (arith, count)) O.within O.rooted) in
      let actor : actor_in names2 k m2 ≡ record (actor_in names k m) { roots = (actor_in names k m).roots ++ (parcel_in names (Hand k) p).root ∷ []; hand = None; home = None; slots = (actor_in names k m).slots + (parcel_in names (Hand k) p).size } =
      same_actor roots (ap (option_map (parcel_in names2 (Hand k))) O.hand) (ap (option_map (shells_in names2 k)) O.home) O.ticket (no_plan_same names names2 k m2.plan m.plan O.plan O.no_plan) (no_published_same names names2 k m2.published m.published O.published O.no_published) count O.opened.rest.limit O.opened.rest.next_message O.limits O.runs in (
        names2,
        bound,
        q.1,
        read_set w w2 k m m2 at rs is O.opened.rest.owner (waits_homeless m m2 O.home) within (opened_knows (layout w) p root m m2 O (R.knows.ractors k m at)) R q.2,
        (
          k,
          actor_in names k m,
          stands,
          actor_at w names g k m at,
          (parcel_in names (Hand k) p, holds names k m p O.held),
          (
            parcel_in names (Hand k) p,
            holds names k m p O.held,
            record {
              room = let n = O.room in omega (arith, count, n, O.opened.rest.limit);
              objects = q.4;
              ractors = ap (each_from (actor_in names2) 0) rs
                  ∙ each_set (actor_in names) (actor_in names2) 0 w.ractors k k m2 (omega arith)
                  (λ i n x d e a. actor_same names names2 n x (N.rest (Space n) (λ z. d (let y : n ≡ k = cc in omega arith))) (N.rest (Hand n) (λ z. let y : ⊥ = cc in y)) kept)
                  ∙ ap (slice_set (each_from (actor_in names) 0 w.ractors) k) actor;
              post = ap (post_in names2) is ∙ post_same names names2 w.channels (λ c u. N.rest (Mail c u) (λ z. let f : ⊥ = cc in f)) (λ c u. N.rest (Shown c u) (λ z. let f : ⊥ = cc in f)) kept;
            },
          ),
        ),
        space_renamed w k m (record { who = who; action = Open }) at N stands J.stand,
      )

-- whatever opening answers
pub opened_by : (w w2 : Assembly) (who : RactorNo) (k : ℕ) (m m2 : Member) (r : Outcome) → slice_get w.ractors k ≡ Some m → w2.ractors ≡ slice_set w.ractors k m2 → w2.channels ≡ w.channels
    → StandsAt who k → Opened r m m2 → HasOutcome (record { who = who; action = Open }) (reply_of r) w w2
opened_by w w2 who k m m2 outcome.NotEnabled at rs is stands (none, same) =
    refused (record { who = who; action = Open }) w w2 (same_assembly w2.ractors w.ractors w2.channels w.channels (rs ∙ set_again w.ractors w.ractors k m2 m refl at same) is)
    (λ names g e. holds_not names k m none (allowed w names g (record { who = who; action = Open }) k m stands at e))
opened_by w w2 who k m m2 outcome.Done at rs is stands (p, root, O) = opened w w2 k m m2 p root at O rs is who stands
opened_by w w2 who k m m2 (outcome.Refused f) at rs is stands (p, held, why, same) =
    stays (record { who = who; action = Open }) (Refused f) w w2 (same_assembly w2.ractors w.ractors w2.channels w.channels (rs ∙ set_again w.ractors w.ractors k m2 m refl at same) is)
    (λ names g. (
      k,
      actor_in names k m,
      stands,
      actor_at w names g k m at,
      (parcel_in names (Hand k) p, holds names k m p held),
      (parcel_in names (Hand k) p, holds names k m p held, (why, same_state (state_in w names g))),
    ))
