-- A published plan is promoted: the slots are what they were seen as.
use Rattle.std.proofs.Common.{◌≡◌, ℕ, ⊎_elim, List, map, Some, None, slice_get, Contains, sym, ap, ◌∙◌, subst, refl, arith}
use Rattle.std.specs.Prelude.{slice_set}
use Rattle.std.specs.Option.{option_map, option_and_then}
use Rattle.std.proofs.lemmas.Option.{none-some, same_Some}
use Rattle.rr_base.specs.declared.name.RactorNo.{RactorNo}
use Rattle.rr_space.specs.Graph.{Object}
use Rattle.rr_space.specs.Tables.{Slot, Here, Below, below_hold, numbered_object}
use Rattle.rr_space.specs.Readings.{Owner, Space, Hand, Mail, Shown, Shared, Naming, Layout}
use Rattle.rr_space.specs.declared.refer.Ref.{Ref}
use Rattle.rr_space.proofs.Frames.{reading_same}
use Rattle.rr_space.proofs.Keeping.{list_has}
use Rattle.rr_space.proofs.Renaming.{at_contains}
use Rattle.rr_space.proofs.Sounds.{joined_back, joined_in}
use Rattle.rr_world.specs.Views.{PublishedPlan, Member, Channels, Assembly, seen_slots, seen_through}
use Rattle.rr_world.specs.Layouts.{layout, space_slots, hand_slots, inbox_slots, port_slots, cluster_slots, MemberKnows}
use Rattle.rr_world.specs.Readings.{each_from, actor_in, published_names, post_in, state_in}
use Rattle.rr_world.specs.Enabling.{StandsAt, HoldsPublished}
use Rattle.rr_world.specs.Planning.{IsPromotedIn, Promotes}
use Rattle.rr_world.specs.Runs.{HasOutcome}
use Rattle.rr_world.specs.Outcomes.{reply_of}
use Rattle.rr_world.specs.declared.outcome.Outcome.{Outcome}
use Rattle.rr_world.specs.declared.outcome.Outcome.TheVariants as outcome
use Rattle.rr_world.specs.declared.step.Action.TheVariants as action
use Rattle.rr_world.specs.declared.step.Reply.TheVariants.{NotEnabled, Done}
use Rattle.rr_world.proofs.Enabled.{actor_at, allowed}
use Rattle.rr_world.proofs.Fitting.{waits_same}
use Rattle.rr_world.proofs.Forwarding.{seen_forwards, seen_plain}
use Rattle.rr_world.proofs.Insides.{same_assembly, set_again}
use Rattle.rr_world.proofs.Knowing.{read_set}
use Rattle.rr_world.proofs.Lists.{each_set, seen_same}
use Rattle.rr_world.proofs.Namings.{same_actor}
use Rattle.rr_world.proofs.Sharing.{same_elements}
use Rattle.rr_world.proofs.Staying.{same_state, stays}
use Rattle.rr_world.proofs.Holding.{same_rooted}
use Rattle.rr_world.proofs.KeyMoves.{promoted_keys}

module _ (w w2 : Assembly) (k : ℕ) (m m2 : Member) (p : PublishedPlan) (at : slice_get w.ractors k ≡ Some m) (A : IsPromotedIn p m m2) (rs : w2.ractors ≡ slice_set w.ractors k m2) (is : w2.channels ≡ w.channels) where
  slots_are : m2.space.slots ≡ seen_through (Some p) m.space.slots
  slots_are = same_elements (seen_through (Some p) m.space.slots) m2.space.slots (λ n. ⊎_elim
      (λ has. let i = at_contains p.places n has in A.promoted.slots.named n i.0 i.1 ∙ sym ((seen_forwards m.space p A.planned).named n i.0 i.1))
      (λ out. A.promoted.slots.others n out ∙ sym ((seen_forwards m.space p A.planned).others n out))
      (list_has p.places n))

  seen_alike : seen_slots m2 ≡ seen_slots m
  seen_alike = seen_plain m2 A.empty.published ∙ slots_are ∙ ap (λ x. seen_through x m.space.slots) (sym A.held)

  tables : (h : Owner) → layout w2 h ≡ layout w h
  unfolding layout
  tables (Space j) = ap (λ xs. option_map space_slots (slice_get xs j)) rs ∙ seen_same (option_map space_slots) w.ractors k j m m2 at (ap (λ (ss : List Slot). Some ss) seen_alike)
  tables (Hand j) = ap (λ xs. option_and_then hand_slots (slice_get xs j)) rs ∙ seen_same (option_and_then hand_slots) w.ractors k j m m2 at (ap hand_slots A.now_is)
  tables (Mail d u) = ap (λ (x : Channels). option_and_then (inbox_slots u) (slice_get x.inboxes d)) is
  tables (Shown d u) = ap (λ (x : Channels). option_and_then (port_slots u) (slice_get x.ports d)) is
  tables (Shared d) = ap (λ (x : Channels). option_map cluster_slots (slice_get x.store.clusters d)) is

  promoted_knows : (t : Layout) → MemberKnows t m → MemberKnows t m2
  promoted_knows t K = record {
    space = record { known = λ c os has. known c os (joined_back m2.space.below (c, os) has) };
    roots = λ r has. K.roots r (subst (λ (xs : List Ref). Contains xs r) (ap (λ (x : Member). x.roots) A.now_is) has);
    hand = λ q e. absurd (none-some q (sym A.empty.hand ∙ e));
    plan = λ q e. absurd (none-some q (sym A.empty.plan ∙ e));
    published = λ q e. absurd (none-some q (sym A.empty.published ∙ e));
    keyed = promoted_keys t p.cluster p.places m.space m2.space A.planned A.promoted (K.published p A.held) K.keyed;
  }
    where
      known : (c : ℕ) (os : List Object) → (n : ℕ) × (b : Below) × (slice_get m2.space.below n ≡ Some b) × Contains b (c, os) → (raws : List Object) × (t (Shared c) ≡ Some (map Here raws)) × (map (numbered_object c) raws ≡ os)
      known c os (n, b, there, has) = ⊎_elim
          (λ inside. (K.published p A.held).known c os (subst (λ (x : Below). Contains x (c, os)) (same_Some b (below_hold p.cluster) (sym there ∙ A.promoted.below.named n inside)) has))
          (λ out. K.space.known c os (joined_in m.space.below n b (c, os) (sym (A.promoted.below.others n out) ∙ there) has))
          (list_has p.places n)

  actor_is : (names : Naming) → actor_in names k m2 ≡ record (actor_in names k m) { published = None }
  actor_is names = ap (actor_in names k) A.now_is ∙ same_actor refl refl refl refl refl refl A.promoted.slots.size A.promoted.rest.limit A.promoted.rest.next_message refl refl

  pub promoted : (who : RactorNo) → StandsAt who k → HasOutcome (record { who = who; action = action.Promote }) Done w w2
  promoted who stands names bound g R = (
    names,
    bound,
    g,
    read_set w w2 k m m2 at rs is A.promoted.rest.owner (waits_same m m2 (ap (λ (x : Member). x.home) A.now_is) (ap (λ (x : Member). x.ticket) A.now_is)) (same_rooted m m2 A.promoted.slots.size (ap (λ (x : Member). x.roots) A.now_is) (R.held.roots k m at)) (promoted_knows (layout w) (R.knows.ractors k m at)) R (reading_same (layout w) (layout w2) names bound g tables R.tables),
    (
      k,
      actor_in names k m,
      stands,
      actor_at w names g k m at,
      (published_names names k p, ap (option_map (published_names names k)) A.held),
      record {
        objects = λ n. refl;
        ractors = ap (each_from (actor_in names) 0) rs ∙ each_set (actor_in names) (actor_in names) 0 w.ractors k k m2 (omega arith) (λ j n x d e a. refl) ∙ ap (slice_set (each_from (actor_in names) 0 w.ractors) k) (actor_is names);
        post = ap (post_in names) is;
      },
    ),
    record { others = λ h off. refl; slots = λ j x i there lt off. refl },
  )

no_published_held : (names : Naming) (k : ℕ) (m : Member) → m.published ≡ None → HoldsPublished (actor_in names k m) → ⊥
no_published_held names k m none holds = none-some holds.0 (sym (ap (option_map (published_names names k)) none) ∙ holds.1)

-- whatever a promotion answers
pub promoted_by : (w w2 : Assembly) (who : RactorNo) (k : ℕ) (m m2 : Member) (r : Outcome) → slice_get w.ractors k ≡ Some m → w2.ractors ≡ slice_set w.ractors k m2 → w2.channels ≡ w.channels
    → StandsAt who k → Promotes r m m2 → HasOutcome (record { who = who; action = action.Promote }) (reply_of r) w w2
promoted_by w w2 who k m m2 outcome.Done at rs is stands (p, A) = promoted w w2 k m m2 p at A rs is who stands
promoted_by w w2 who k m m2 outcome.NotEnabled at rs is stands (none, same) =
    stays (record { who = who; action = action.Promote }) NotEnabled w w2 (same_assembly w2.ractors w.ractors w2.channels w.channels (rs ∙ set_again w.ractors w.ractors k m2 m refl at same) is)
    (λ names g. (
      λ e. no_published_held names k m none (allowed w names g (record { who = who; action = action.Promote }) k m stands at e),
      same_state (state_in w names g),
    ))
promoted_by w w2 who k m m2 (outcome.Refused f) at rs is stands o = absurd o
