-- A ractor ends.
use Rattle.std.proofs.Common.{◌≡◌, ℕ, ◌+◌, ⊎_elim, inl, inr, Bool, true, false, cond, [], length, map, Some, None, slice_get, sym, ap, ◌∙◌, refl, arith, subst, List}
use Rattle.std.specs.Prelude.{slice_set}
use Rattle.std.specs.Option.{option_map, option_and_then}
use Rattle.std.proofs.lemmas.Option.{none-some, slice_get_within}
use Rattle.rr_base.specs.declared.name.RactorNo.{RactorNo}
use Rattle.rr_space.specs.Tables.{Here, Led}
use Rattle.rr_space.specs.Readings.{Owner, Space, Hand, Mail, Shown, Shared, owner_eq, Layout}
use Rattle.rr_space.specs.Steps.{Goneby, Remakes}
use Rattle.rr_space.proofs.Drops.{dropping_is_a_step}
use Rattle.rr_space.proofs.Frames.{owner_same, owner_refl}
use Rattle.rr_space.proofs.Remaking.{remaking_is_a_step}
use Rattle.rr_world.specs.Views.{Member, Channels, Assembly, AreRootsWithin}
use Rattle.rr_world.specs.Layouts.{cluster_slots, layout, space_slots, hand_slots, inbox_slots, port_slots, message_slots}
use Rattle.rr_world.specs.Readings.{each_from, actor_in, parcel_in, root_in, shells_in, planned_in, published_names, post_in}
use Rattle.rr_world.specs.Enabling.{StandsAt}
use Rattle.rr_world.specs.ObjectCases.{ended_actor}
use Rattle.rr_world.specs.Starting.{IsOver}
use Rattle.rr_world.specs.Runs.{HasOutcome}
use Rattle.rr_world.specs.declared.step.Action.TheVariants.{End}
use Rattle.rr_world.specs.declared.step.Reply.TheVariants.{Done}
use Rattle.rr_world.proofs.Forwarding.{seen_plain}
use Rattle.rr_world.proofs.Enabled.{actor_at}
use Rattle.rr_world.proofs.Knowing.{read_set}
use Rattle.rr_world.proofs.Lists.{set_at, set_off, each_set}
use Rattle.rr_world.proofs.Namings.{actor_same, same_actor, post_same}
use Rattle.rr_world.proofs.Starting.{bare_knows, remade_empty}
use Rattle.rr_world.proofs.Fitting.{waits_homeless}
use Rattle.rr_world.specs.Naming.{IsRenamed}
use Rattle.rr_space.specs.declared.refer.Ref.{Ref}

-- the same tables, without that of one owner
abbrev without : Owner → Layout → Layout
without a tables h = cond (owner_eq h a) None (tables h)

differ_owner : (h a : Owner) → (h ≡ a → ⊥) → owner_eq h a ≡ false
differ_owner h a differ = by (owner_eq h a) refl
  where
    by : (v : Bool) → owner_eq h a ≡ v → owner_eq h a ≡ false
    by true e = absurd (differ (owner_same h a e))
    by false e = e

without_it : (a : Owner) (tables : Layout) → without a tables a ≡ None
without_it a tables = ap (λ b. cond b None (tables a)) (owner_refl a)

without_other : (a : Owner) (tables : Layout) (h : Owner) → (h ≡ a → ⊥) → without a tables h ≡ tables h
without_other a tables h differ = ap (λ b. cond b None (tables h)) (differ_owner h a differ)

goneby : (a : Owner) (tables : Layout) → ((c : ℕ) → a ≡ Shared c → ⊥) → Goneby a tables (without a tables)
goneby a tables unshared = record { gone = without_it a tables; rest = without_other a tables; unshared = unshared }

module _ (w w2 : Assembly) (k : ℕ) (m m2 : Member) (at : slice_get w.ractors k ≡ Some m) (A : IsOver m.limits (k + 1) m2)
    (rs : w2.ractors ≡ slice_set w.ractors k m2) (is : w2.channels ≡ w.channels) where
  apart_space : (c : ℕ) → Space k ≡ Shared c → ⊥
  apart_space c e = cc

  apart_hand : (c : ℕ) → Hand k ≡ Shared c → ⊥
  apart_hand c e = cc

  apart_both : Space k ≡ Hand k → ⊥
  apart_both e = cc

  abbrev spaceless : Layout
  spaceless = without (Space k) (layout w)

  abbrev bare : Layout
  bare = without (Hand k) spaceless

  there : slice_get w2.ractors k ≡ Some m2
  there = ap (λ xs. slice_get xs k) rs ∙ set_at w.ractors k m2 (slice_get_within w.ractors k m at)

  now : layout w2 (Space k) ≡ Some []
  unfolding layout
  now = ap (option_map space_slots) there ∙ ap (λ ss. Some ss) (seen_plain m2 A.published ∙ A.slots)

  was : bare (Space k) ≡ None
  was = without_other (Hand k) spaceless (Space k) apart_both ∙ without_it (Space k) (layout w)

  stay : (h : Owner) → (h ≡ Space k → ⊥) → (h ≡ Hand k → ⊥) → layout w2 h ≡ layout w h
  unfolding layout
  stay (Space j) q r = ap (λ xs. option_map space_slots (slice_get xs j)) rs ∙ ap (option_map space_slots) (set_off w.ractors k j m2 (λ e. q (ap Space e)))
  stay (Hand j) q r = ap (λ xs. option_and_then hand_slots (slice_get xs j)) rs ∙ ap (option_and_then hand_slots) (set_off w.ractors k j m2 (λ e. r (ap Hand e)))
  stay (Mail d u) q r = ap (λ (x : Channels). option_and_then (inbox_slots u) (slice_get x.inboxes d)) is
  stay (Shown d u) q r = ap (λ (x : Channels). option_and_then (port_slots u) (slice_get x.ports d)) is
  stay (Shared d) q r = ap (λ (x : Channels). option_map cluster_slots (slice_get x.store.clusters d)) is

  no_hand : layout w2 (Hand k) ≡ None
  unfolding layout
  no_hand = ap (option_and_then hand_slots) there ∙ ap (option_map message_slots) A.hand

  rest : (h : Owner) → (h ≡ Space k → ⊥) → layout w2 h ≡ bare h
  rest h q = by (owner_eq h (Hand k)) refl
    where
      by : (v : Bool) → owner_eq h (Hand k) ≡ v → layout w2 h ≡ bare h
      by true e = ap (layout w2) (owner_same h (Hand k) e) ∙ no_hand ∙ sym (without_it (Hand k) spaceless) ∙ ap bare (sym (owner_same h (Hand k) e))
      by false e =
          let other : h ≡ Hand k → ⊥ = λ f. let z : true ≡ false = sym (owner_refl (Hand k)) ∙ ap (λ x. owner_eq x (Hand k)) (sym f) ∙ e in cc in
          stay h q other ∙ sym (without_other (Space k) (layout w) h q) ∙ sym (without_other (Hand k) spaceless h other)

  remakes : Remakes (Space k) 0 [] [] bare (layout w2)
  remakes = record {
    was = inr (was, refl);
    now = now;
    rest = rest;
    unshared = apart_space;
    size = refl;
    kept_here = λ i o e. absurd (none-some (Here o) e);
    kept_led = λ i c q e. absurd (none-some (Led c q) e);
    fresh_here = λ i c q e. absurd (none-some (Led c q) e);
    sound = record { within = λ i o l x e has. absurd (none-some (Here o) e); led = λ i c q e. absurd (none-some (Led c q) e) };
  }

  pub ended : (who : RactorNo) → StandsAt who k → HasOutcome (record { who = who; action = End }) Done w w2
  ended who stands names bound g R =
      let a = dropping_is_a_step (Space k) (layout w) spaceless names bound g (goneby (Space k) (layout w) apart_space) R.tables in
      let b = dropping_is_a_step (Hand k) spaceless bare names bound a.0 (goneby (Hand k) spaceless apart_hand) a.1 in
      let q = remaking_is_a_step (Space k) 0 [] [] bare (layout w2) names bound b.0 remakes b.1 in
      let names2 = q.0 in
      let N = q.3 in
      let same : (j : ℕ) → q.1 j ≡ b.0 j = remade_empty (Space k) bare (layout w2) names names2 bound (bound + 0) b.0 q.1 remakes was b.1 q.2 N q.4 in
      let kept : (c : ℕ) → names2 (Shared c) ≡ names (Shared c) = λ c. N.rest (Shared c) (λ z. let y : ⊥ = cc in y) in
      let mails : (c u : ℕ) → names2 (Mail c u) ≡ names (Mail c u) = λ c u. N.rest (Mail c u) (λ z. let y : ⊥ = cc in y) in
      let shows : (c u : ℕ) → names2 (Shown c u) ≡ names (Shown c u) = λ c u. N.rest (Shown c u) (λ z. let y : ⊥ = cc in y) in
      let hands : (n : ℕ) → names2 (Hand n) ≡ names (Hand n) = λ n. N.rest (Hand n) (λ z. let y : ⊥ = cc in y) in
      let actor : actor_in names2 k m2 ≡ ended_actor (actor_in names k m).limits =
      same_actor (ap (map (root_in names2 (Space k))) A.roots) (ap (option_map (parcel_in names2 (Hand k))) A.hand) (ap (option_map (shells_in names2 k)) A.home) A.ticket (ap (option_map (planned_in names2 k)) A.plan) (ap (option_map (published_names names2 k)) A.published) (ap length A.slots) A.limit A.next A.run A.runs in (
        names2,
        bound + 0,
        q.1,
        read_set w w2 k m m2 at rs is (A.owner ∙ sym (R.owned k m at)) (waits_homeless m m2 A.home) (subst (λ (xs : List Ref). AreRootsWithin (length m2.space.slots) xs) (sym A.roots) tt) (bare_knows (layout w) m2 A.slots A.below A.roots A.hand A.plan A.published) R q.2,
        (
          k,
          actor_in names k m,
          stands,
          actor_at w names g k m at,
          tt,
          record {
            gone = λ n x e held. same n ∙ ⊎_elim
                (λ mine. b.2.none n (a.2.gone n x e mine))
                (λ its. b.2.gone n x (a.2.kept n x e (λ z. let y : ⊥ = apart_both (sym z ∙ its) in y)) its)
                held;
            kept = λ n x e none. same n ∙ b.2.kept n x (a.2.kept n x e (λ z. none (inl z))) (λ z. none (inr z));
            none = λ n e. same n ∙ b.2.none n (a.2.none n e);
            ractors = ap (each_from (actor_in names2) 0) rs
                ∙ each_set (actor_in names) (actor_in names2) 0 w.ractors k k m2 (omega arith)
                (λ j n x d z f. actor_same names names2 n x (N.rest (Space n) (λ y. d (let e : n ≡ k = cc in omega arith))) (hands n) kept)
                ∙ ap (slice_set (each_from (actor_in names) 0 w.ractors) k) actor;
            post = ap (post_in names2) is ∙ post_same names names2 w.channels mails shows kept;
          },
        ),
        record { others = λ h off. N.rest h (λ e. off (subst (IsRenamed w who End) (sym e) stands)); slots = λ j x i there lt off. absurd (off refl) },
      )
