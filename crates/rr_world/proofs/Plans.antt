-- A plan comes into a hand.
use Rattle.std.proofs.Common.{◌≡◌, ℕ, ⊎_elim, inl, inr, List, [], ◌∷◌, map, Some, slice_get, Contains, sym, ap, ◌∙◌, subst, refl, arith, length}
use Rattle.std.specs.Prelude.{◌↔◌, slice_index, slice_set}
use Rattle.std.specs.Option.{option_map, option_and_then}
use Rattle.std.proofs.lemmas.Option.{none-some, same_Some}
use Rattle.rr_base.specs.declared.name.RactorNo.{RactorNo}
use Rattle.rr_space.specs.Parts.{below_ref}
use Rattle.rr_space.specs.Readings.{Owner, Space, Hand, Mail, Shown, Shared, Objects, Naming, Knows}
use Rattle.rr_space.specs.declared.refer.Ref.{Ref}
use Rattle.rr_space.proofs.Frames.{reading_same}
use Rattle.rr_space.proofs.Renaming.{contains_map, contains_map_back, mapped_at}
use Rattle.rr_share.specs.declared.planned.Plan.{Plan}
use Rattle.rr_world.specs.Views.{Member, Channels, Assembly, IsFree, seen_slots}
use Rattle.rr_world.specs.Layouts.{layout, space_slots, hand_slots, inbox_slots, port_slots, cluster_slots, MemberKnows, IsRead}
use Rattle.rr_world.specs.Readings.{each_from, actor_in, planned_in, root_in, post_in, state_in}
use Rattle.rr_world.specs.States.{Actor}
use Rattle.rr_world.specs.Enabling.{StandsAt, IsFreeHand, IsValue}
use Rattle.rr_world.specs.Packing.{named_ref}
use Rattle.rr_world.specs.Planning.{IsPlanOf, MayNotPlan, Plans, kept_plan}
use Rattle.rr_world.specs.PlanCases.{IsToPublish, kept_names}
use Rattle.rr_world.specs.Runs.{HasOutcome}
use Rattle.rr_world.specs.declared.step.Operand.{Operand}
use Rattle.rr_world.specs.declared.step.Action.TheVariants as action
use Rattle.rr_world.specs.declared.step.Reply.TheVariants.{NotEnabled, Done, Refused}
use Rattle.rr_world.specs.Outcomes.{reply_of}
use Rattle.rr_world.specs.declared.outcome.Outcome.{Outcome}
use Rattle.rr_world.specs.declared.outcome.Outcome.TheVariants as outcome
use Rattle.rr_world.proofs.Lists.{seen_same, each_set}
use Rattle.rr_world.proofs.Knowing.{read_set}
use Rattle.rr_world.proofs.Enabled.{actor_at, free, free_back, allowed}
use Rattle.rr_world.proofs.Insides.{set_again, same_assembly}
use Rattle.rr_world.proofs.Staying.{stays, stays_read, same_state}
use Rattle.rr_world.proofs.Operands.{value_named, known_named}
use Rattle.rr_world.proofs.Seeing.{free_of, shell_of, planned_here, planned_back, space_table}
use Rattle.rr_world.proofs.Fitting.{waits_same}
use Rattle.rr_world.proofs.Holding.{same_rooted}
use Rattle.rr_space.specs.Graph.{IsAt}
use Rattle.rr_space.specs.Tables.{Slot}
use Rattle.rr_world.proofs.Forwarding.{seen_plain}

-- what is kept of a plan has the names of its places
kept_seen : (names : Naming) (k : ℕ) (p : Plan) (xs : List ℕ) → p.places ≡ xs → option_map (planned_in names k) (kept_plan xs p) ≡ kept_names (map (slice_index (names (Space k))) xs)
kept_seen names k p [] is = refl
kept_seen names k p (n ∷ ns) is = ap (λ xs. Some (map (slice_index (names (Space k))) xs)) is

kept_is : (p : Plan) (xs : List ℕ) (q : Plan) → kept_plan xs p ≡ Some q → p ≡ q
kept_is p [] q is = absurd (none-some q is)
kept_is p (n ∷ ns) q is = same_Some p q is

module _ (w w2 : Assembly) (k : ℕ) (m m2 : Member) (v : Ref) (p : Plan) (at : slice_get w.ractors k ≡ Some m) (empty : IsFree m) (P : IsPlanOf m.space v p) (bare : m2 ≡ record m { plan = kept_plan p.places p })
    (rs : w2.ractors ≡ slice_set w.ractors k m2) (is : w2.channels ≡ w.channels) where
  tables : (h : Owner) → layout w2 h ≡ layout w h
  unfolding layout
  tables (Space j) = ap (λ xs. option_map space_slots (slice_get xs j)) rs ∙ seen_same (option_map space_slots) w.ractors k j m m2 at (ap (λ (x : Member). Some (seen_slots x)) bare)
  tables (Hand j) = ap (λ xs. option_and_then hand_slots (slice_get xs j)) rs ∙ seen_same (option_and_then hand_slots) w.ractors k j m m2 at (ap hand_slots bare)
  tables (Mail d u) = ap (λ (x : Channels). option_and_then (inbox_slots u) (slice_get x.inboxes d)) is
  tables (Shown d u) = ap (λ (x : Channels). option_and_then (port_slots u) (slice_get x.ports d)) is
  tables (Shared d) = ap (λ (x : Channels). option_map cluster_slots (slice_get x.store.clusters d)) is

  planned_read : (names : Naming) (bound : ℕ) (g : Objects) → IsRead w names bound g → IsRead w2 names bound g
  planned_read names bound g R =
      let K = R.knows.ractors k m at in
      read_set w w2 k m m2 at rs is (ap (λ (x : Member). x.space.owner) bare) (waits_same m m2 (ap (λ (x : Member). x.home) bare) (ap (λ (x : Member). x.ticket) bare)) (same_rooted m m2 (ap (λ (x : Member). length x.space.slots) bare) (ap (λ (x : Member). x.roots) bare) (R.held.roots k m at))
      (subst (MemberKnows (layout w)) (sym bare) (record {
        space = K.space;
        roots = K.roots;
        hand = K.hand;
        plan = λ q is. let same : p ≡ q = kept_is p p.places q is in subst (λ (x : Plan). Knows x.cluster.below (layout w)) same (record { known = λ c os has. K.space.known c os (P.below (c, os) has) });
        published = K.published;
        keyed = K.keyed;
      })) R (reading_same (layout w) (layout w2) names bound g tables R.tables)

  exact : (names : Naming) (bound : ℕ) (g : Objects) → IsRead w names bound g → Knows (below_ref v) (layout w) → (n : ℕ)
      → Contains (planned_in names k p) n ↔ IsToPublish k (root_in names (Space k) v) (state_in w names g) n
  exact names bound g R knows n = (forth, back)
    where
      forth : Contains (planned_in names k p) n → IsToPublish k (root_in names (Space k) v) (state_in w names g) n
      forth has =
          let z = contains_map_back (slice_index (names (Space k))) p.places n has in
          let q = (P.exact z.0).0 z.1 in
          subst (IsToPublish k (root_in names (Space k) v) (state_in w names g)) z.2 (planned_here w names bound g R k m v at empty.published P.well P.within knows z.0 q.0 q.1)

      back : IsToPublish k (root_in names (Space k) v) (state_in w names g) n → Contains (planned_in names k p) n
      back T =
          let z = planned_back w names bound g R k m v at empty.published P.well P.within knows n T in
          subst (Contains (planned_in names k p)) z.1 (contains_map (slice_index (names (Space k))) p.places z.0 ((P.exact z.0).1 (z.2, z.3)))

  -- no two places of the plan have one name
  distinct : (names : Naming) (bound : ℕ) (g : Objects) → IsRead w names bound g → (n i j : ℕ) → IsAt (planned_in names k p) n i → IsAt (planned_in names k p) n j → i ≡ j
  distinct names bound g R n i j first second =
      let a = mapped_at (slice_index (names (Space k))) p.places i n first in
      let b = mapped_at (slice_index (names (Space k))) p.places j n second in
      let x = P.planned.same a.0 i a.1 in
      let y = P.planned.same b.0 j b.1 in
      let table = space_table w k m at ∙ ap (λ (ss : List Slot). Some ss) (seen_plain m empty.published) in
      let one : a.0 ≡ b.0 = (R.tables.reads (Space k) m.space.slots table).one a.0 b.0 x.0 y.0 x.2 y.2 (a.2 ∙ sym b.2) in
      P.planned.distinct a.0 i j a.1 (subst (λ z. IsAt p.places z j) (sym one) b.1)

  pub planned : (who : RactorNo) (op : Operand) → StandsAt who k → named_ref m.roots op ≡ Some v → HasOutcome (record { who = who; action = action.Plan op }) Done w w2
  planned who op stands named names bound g R =
      let knows = known_named (layout w) m.roots op v (R.knows.ractors k m at).roots named in
      let value = value_named names (Space k) m.roots op ∙ ap (option_map (root_in names (Space k))) named in (
        names,
        bound,
        g,
        planned_read names bound g R,
        (
          k,
          actor_in names k m,
          stands,
          actor_at w names g k m at,
          (free names k m empty, (root_in names (Space k) v, value)),
          (
            root_in names (Space k) v,
            planned_in names k p,
            value,
            record {
              free = free_of w names bound g R k m v at empty.published P.well P.within knows P.free;
              exact = exact names bound g R knows;
              distinct = distinct names bound g R;
              objects = λ n. refl;
              ractors = ap (each_from (actor_in names) 0) rs ∙ each_set (actor_in names) (actor_in names) 0 w.ractors k k m2 (omega arith) (λ j n x d e f. refl)
                  ∙ ap (λ (x : Member). slice_set (each_from (actor_in names) 0 w.ractors) k (actor_in names k x)) bare
                  ∙ ap (λ q. slice_set (each_from (actor_in names) 0 w.ractors) k (let a : Actor = record (actor_in names k m) { plan = q } in a)) (kept_seen names k p p.places refl);
              post = ap (post_in names) is;
            },
          ),
        ),
        record { others = λ h off. refl; slots = λ j x i there lt off. refl },
      )

not_planned : (names : Naming) (k : ℕ) (m : Member) (op : Operand) → MayNotPlan op m → IsFreeHand (actor_in names k m) → IsValue (actor_in names k m) op → ⊥
not_planned names k m op (inl busy) empty value = busy (free_back names k m empty)
not_planned names k m op (inr none) empty value = none-some value.0 (sym (value_named names (Space k) m.roots op ∙ ap (option_map (root_in names (Space k))) none) ∙ value.1)

-- whatever a plan answers
pub planned_by : (w w2 : Assembly) (who : RactorNo) (k : ℕ) (m m2 : Member) (op : Operand) (r : Outcome) → slice_get w.ractors k ≡ Some m → w2.ractors ≡ slice_set w.ractors k m2 → w2.channels ≡ w.channels
    → StandsAt who k → Plans op r m m2 → HasOutcome (record { who = who; action = action.Plan op }) (reply_of r) w w2
planned_by w w2 who k m m2 op outcome.Done at rs is stands (v, p, empty, named, P, same) = planned w w2 k m m2 v p at empty P same rs is who op stands named
planned_by w w2 who k m m2 op outcome.NotEnabled at rs is stands (why, same) =
    stays (record { who = who; action = action.Plan op }) NotEnabled w w2 (same_assembly w2.ractors w.ractors w2.channels w.channels (rs ∙ set_again w.ractors w.ractors k m2 m refl at same) is)
    (λ names g. (
      λ e. let z = allowed w names g (record { who = who; action = action.Plan op }) k m stands at e in not_planned names k m op why z.0 z.1,
      same_state (state_in w names g),
    ))
planned_by w w2 who k m m2 op (outcome.Refused f) at rs is stands (v, empty, named, F, same) =
    stays_read (record { who = who; action = action.Plan op }) (Refused f) w w2 (same_assembly w2.ractors w.ractors w2.channels w.channels (rs ∙ set_again w.ractors w.ractors k m2 m refl at same) is)
    (λ names bound g R.
    let value = value_named names (Space k) m.roots op ∙ ap (option_map (root_in names (Space k))) named in (
      k,
      actor_in names k m,
      stands,
      actor_at w names g k m at,
      (free names k m empty, (root_in names (Space k) v, value)),
      (
        root_in names (Space k) v,
        value,
        (⊎_elim (λ e. inl e) (λ e. inr (e.0, shell_of w names bound g R k m v at empty.published F.well F.within (known_named (layout w) m.roots op v (R.knows.ractors k m at).roots named) e.1)) F.why, same_state (state_in w names g)),
      ),
    ))
