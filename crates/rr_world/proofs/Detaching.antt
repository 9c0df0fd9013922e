-- A value is moved into a hand.
use Rattle.std.proofs.Common.{◌≡◌, ℕ, ◌+◌, ◌<◌, ⊎_elim, inl, inr, List, [], ◌∷◌, length, map, Some, None, slice_get, Contains, sym, ap, ◌∙◌, subst, refl, arith}
use Rattle.std.specs.Prelude.{slice_index, slice_set}
use Rattle.std.specs.Option.{option_map}
use Rattle.std.proofs.lemmas.List.{length-map}
use Rattle.std.proofs.lemmas.List.Elements.{Contains-append_cases}
use Rattle.std.proofs.lemmas.Option.{none-some, same_Some, slice_get_within}
use Rattle.rr_base.specs.declared.name.RactorNo.{RactorNo}
use Rattle.rr_space.specs.Graph.{Name, Own, Value, Object}
use Rattle.rr_space.specs.Moves.{IsSetAt}
use Rattle.rr_space.specs.Tables.{Packed, Slot, Here, Led, Below, IsPublished, joined, message_graph, resolve, space_graph}
use Rattle.rr_space.specs.Parts.{value_of, below_ref}
use Rattle.rr_space.specs.Readings.{Owner, Space, Hand, Mail, Shown, Shared, Objects, Naming, IsReading, IsApart, IsSharedValue, Knows, name_in}
use Rattle.rr_space.specs.Steps.{IsMoved, Remakes}
use Rattle.rr_space.specs.Views.{emptied}
use Rattle.rr_space.specs.declared.refer.Ref.{Ref}
use Rattle.rr_space.proofs.Frames.{map_same, owner_cases}
use Rattle.rr_space.proofs.Keeping.{list_has}
use Rattle.rr_space.proofs.Sounds.{gets, joined_back, joined_in, none_in}
use Rattle.rr_move.specs.Laws.{NamesStay, TakesOut, TakingOutIsAMove}
use Rattle.rr_move.specs.declared.home.Detached.{Detached}
use Rattle.rr_world.specs.Views.{Member, Channels, Assembly}
use Rattle.rr_world.specs.Layouts.{layout, message_slots, message_below, IsMessageKnown, MemberKnows, IsRead}
use Rattle.rr_world.specs.Readings.{each_from, actor_in, shells_in, parcel_in, value_in, root_in, post_in, state_in}
use Rattle.rr_world.specs.Enabling.{StandsAt}
use Rattle.rr_world.specs.Moving.{IsMovedBy, Detaches}
use Rattle.rr_world.specs.Runs.{HasOutcome}
use Rattle.rr_world.specs.declared.step.Operand.{Operand}
use Rattle.rr_world.specs.declared.step.Action.TheVariants.{Detach}
use Rattle.rr_world.specs.declared.step.Reply.TheVariants.{NotEnabled, Done, Refused}
use Rattle.rr_world.specs.Outcomes.{reply_of}
use Rattle.rr_world.specs.declared.outcome.Outcome.{Outcome}
use Rattle.rr_world.specs.declared.outcome.Outcome.TheVariants as outcome
use Rattle.rr_world.proofs.Enabled.{actor_at, free, allowed, tested_at}
use Rattle.rr_world.proofs.Insides.{set_again, same_assembly}
use Rattle.rr_world.proofs.Knowing.{knows_either, order_on, read_set}
use Rattle.rr_world.proofs.Lists.{each_set, eq_cases}
use Rattle.rr_world.proofs.Namings.{actor_same, same_actor, no_plan_same, no_published_same, post_same}
use Rattle.rr_world.proofs.Operands.{value_named, known_named}
use Rattle.rr_world.proofs.Packs.{not_packed}
use Rattle.rr_world.proofs.Rooting.{roots_keep}
use Rattle.rr_world.proofs.Seeing.{IsOfSpace, all_apart, held, is_sealed, there, resolved, shared_of, free_of, shell_of}
use Rattle.rr_world.proofs.Sharing.{empty_list, same_elements, shared_moved, shared_names, shared_root, shared_stays}
use Rattle.rr_world.proofs.Starting.{remade_empty}
use Rattle.rr_space.proofs.Apart.{readings_are_apart}
use Rattle.rr_space.proofs.Remaking.{remaking_is_a_step}
use Rattle.rr_world.proofs.Staying.{stays_read, same_state}
use Rattle.rr_world.proofs.Forwarding.{seen_plain}
use Rattle.rr_world.proofs.Messages.{known_message}
use Rattle.rr_world.proofs.Tables.{space_was, hand_was, space_now, hand_now, rest_now}
use Rattle.rr_world.proofs.Fitting.{waits_no_more}
use Rattle.rr_world.specs.Naming.{IsRenamed}
use Rattle.rr_world.proofs.Holding.{same_rooted}
use Rattle.rr_world.proofs.KeyMoves.{copied_keys, emptied_keys}

-- names of slots, one after another
named_slots : (names : Naming) (h : Owner) (ns : List ℕ) → map (λ n. name_in names h (Own n)) ns ≡ map Own (map (slice_index (names h)) ns)
named_slots names h [] = refl
named_slots names h (n ∷ ns) = ap (λ (xs : List Name). Own (slice_index (names h) n) ∷ xs) (named_slots names h ns)

-- where lists of clusters were emptied, no cluster is one more
less_below : (names : List ℕ) (bs cs : List Below) → IsSetAt names [] bs cs → (e : ℕ × List Object) → Contains (joined cs) e → Contains (joined bs) e
less_below names bs cs set e has =
    let b = joined_back cs e has in
    ⊎_elim
    (λ named. absurd (none_in e (subst (λ (y : Below). Contains y e) (sym (same_Some [] b.1 (sym (set.named b.0 named) ∙ b.2))) b.3)))
    (λ out. joined_in bs b.0 b.1 e (sym (set.others b.0 out) ∙ b.2) b.3)
    (list_has names b.0)

module _ (w w2 : Assembly) (who : RactorNo) (k : ℕ) (m m2 : Member) (op : Operand) (v : Ref) (d : Detached) (at : slice_get w.ractors k ≡ Some m) (A : IsMovedBy op v d m m2)
    (rs : w2.ractors ≡ slice_set w.ractors k m2) (is : w2.channels ≡ w.channels) where
  held_message : m2.hand ≡ Some d.message
  held_message = ap (λ (x : Member). x.hand) A.now_is

  roots_are : m2.roots ≡ m.roots
  roots_are = ap (λ (x : Member). x.roots) A.now_is

  known : (names : Naming) (bound : ℕ) (g : Objects) → IsRead w names bound g → Knows (below_ref v) (layout w) → Knows (message_below d.message) (layout w)
  known names bound g R knows =
      knows_either (layout w) (joined m.space.below) (below_ref v) (message_below d.message) (λ e has. Contains-append_cases (joined m.space.below) (below_ref v) e (A.moved.below e has))
      (R.knows.ractors k m at).space knows

  no_published : m2.published ≡ None
  no_published = ap (λ (x : Member). x.published) A.now_is ∙ A.empty.published

  was_space : layout w (Space k) ≡ Some m.space.slots
  was_space = space_was w w2 k m m2 at rs is ∙ ap (λ (ss : List Slot). Some ss) (seen_plain m A.empty.published)

  now_space : layout w2 (Space k) ≡ Some m2.space.slots
  now_space = space_now w w2 k m m2 at rs is ∙ ap (λ (ss : List Slot). Some ss) (seen_plain m2 no_published)

  takes : IsOfSpace v → (names : Naming) (bound : ℕ) (g : Objects) → IsRead w names bound g → Knows (below_ref v) (layout w) → TakesOut k (value_of v) d m.space m2.space (layout w) (layout w2)
  takes own names bound g R knows = record {
    space = was_space;
    hand = hand_was w w2 k m m2 at rs is ∙ ap (option_map message_slots) A.empty.hand;
    space_after = now_space;
    hand_after = hand_now w w2 k m m2 at rs is ∙ ap (option_map message_slots) held_message;
    rest = rest_now w w2 k m m2 at rs is;
    copy = A.moved.copy;
    emptied = A.moved.emptied;
    sound = A.moved.well.sound;
    message_sound = A.moved.sound;
    message_sealed = A.moved.sealed;
    knows = (R.knows.ractors k m at).space;
    message_knows = known names bound g R knows;
    there = there w names bound g R k m v at A.empty.published A.moved.well A.moved.within knows own;
  }

  -- what a move of the value does
  abbrev IsTaken : (names : Naming) (g : Objects) → Type 0
  IsTaken names g = (names2 : Naming) × (bound2 : ℕ) × (g2 : Objects) × IsReading (layout w2) names2 bound2 g2 × NamesStay k m.space names names2
      × IsMoved k (value_in names (Space k) (resolve m.space.slots (value_of v))) (value_in names2 (Hand k) d.message.root) (map (λ n. name_in names (Space k) (Own n)) d.home.slots) (map Own (names2 (Hand k))) g g2

  module _ (names : Naming) (bound : ℕ) (g : Objects) (R : IsRead w names bound g) (knows : Knows (below_ref v) (layout w))
      (public : IsPublished (resolve m.space.slots (value_of v))) (shared : IsSharedValue g (root_in names (Space k) v)) where
    no_home : d.home.slots ≡ []
    no_home = shared_names (space_graph m.space) (message_graph d.message) (resolve m.space.slots (value_of v)) d.message.root d.home.slots (is_sealed w names bound g R k m v at A.empty.published A.moved.well A.moved.within knows) public A.moved.copy.alike

    no_objects : d.message.objects ≡ []
    no_objects = empty_list d.message.objects (A.moved.copy.size ∙ ap length no_home)

    slots_stay : m2.space.slots ≡ m.space.slots
    slots_stay = same_elements m.space.slots m2.space.slots (λ n. A.moved.emptied.slots.others n (λ has. none_in n (subst (λ ns. Contains ns n) no_home has)))

    hand_empty : layout w2 (Hand k) ≡ Some []
    hand_empty = hand_now w w2 k m m2 at rs is ∙ ap (option_map message_slots) held_message ∙ ap (λ (os : List Object). Some (map Here os)) no_objects

    hand_none : layout w (Hand k) ≡ None
    hand_none = hand_was w w2 k m m2 at rs is ∙ ap (option_map message_slots) A.empty.hand

    tables_stay : (h : Owner) → (h ≡ Hand k → ⊥) → layout w2 h ≡ layout w h
    tables_stay h off = ⊎_elim
        (λ mine. ap (layout w2) mine ∙ now_space ∙ ap (λ (ss : List Slot). Some ss) slots_stay ∙ sym (was_space) ∙ ap (layout w) (sym mine))
        (λ other. rest_now w w2 k m m2 at rs is h other off)
        (owner_cases h (Space k))

    hand_apart : (c : ℕ) → Hand k ≡ Shared c → ⊥
    hand_apart c e = cc

    remakes : Remakes (Hand k) 0 [] [] (layout w) (layout w2)
    remakes = record {
      was = inr (hand_none, refl);
      now = hand_empty;
      rest = tables_stay;
      unshared = hand_apart;
      size = refl;
      kept_here = λ i o e. absurd (none-some (Here o) e);
      kept_led = λ i c q e. absurd (none-some (Led c q) e);
      fresh_here = λ i c q e. absurd (none-some (Led c q) e);
      sound = record { within = λ i o l x e has. absurd (none-some (Here o) e); led = λ i c q e. absurd (none-some (Led c q) e) };
    }

    -- a published value is moved without its objects
    published_taken : IsTaken names g
    published_taken =
        let q = remaking_is_a_step (Hand k) 0 [] [] (layout w) (layout w2) names bound g remakes R.tables in
        let names2 = q.0 in
        let g2 = q.1 in
        let N = q.3 in
        let x : Value = root_in names (Space k) v in
        let kept : (c : ℕ) → names2 (Shared c) ≡ names (Shared c) = λ c. N.rest (Shared c) (λ z. hand_apart c (sym z)) in
        let spaces : names2 (Space k) ≡ names (Space k) = N.rest (Space k) (λ z. let y : ⊥ = cc in y) in
        let same : (j : ℕ) → g2 j ≡ g j = remade_empty (Hand k) (layout w) (layout w2) names names2 bound (bound + 0) g g2 remakes hand_none R.tables q.2 N q.4 in
        let before : IsApart g = all_apart w names bound g R k m v at A.empty.published A.moved.well A.moved.within knows in
        let after : IsApart g2 = readings_are_apart (layout w2) names2 (bound + 0) g2 q.2 (order_on w w2 (ap (λ (y : Channels). y.store.clusters) is) R.clusters) in
        let stays : IsSharedValue g2 x = shared_stays g g2 (Hand k) hand_apart q.4.others x shared in
        let name : value_in names (Space k) (resolve m.space.slots (value_of v)) ≡ x = resolved w names bound g R k m v at A.empty.published A.moved.well A.moved.within knows in
        let root : value_in names2 (Hand k) d.message.root ≡ x =
        shared_root names names2 (Space k) (Hand k) kept (resolve m.space.slots (value_of v)) d.message.root d.home.slots public A.moved.copy.alike.roots ∙ name in
        let none : names2 (Hand k) ≡ [] = empty_list (names2 (Hand k)) ((q.2.reads (Hand k) [] hand_empty).size) in
        let moved : IsMoved k x x [] [] g g2 = shared_moved k g g2 before after x shared stays same in (
          names2,
          bound + 0,
          g2,
          q.2,
          record {
            space = λ i y e. ap (λ ns. slice_index ns i) spaces;
            rest = λ h off other. N.rest h other;
          },
          subst (λ y. IsMoved k y (value_in names2 (Hand k) d.message.root) (map (λ n. name_in names (Space k) (Own n)) d.home.slots) (map Own (names2 (Hand k))) g g2) (sym name)
              (subst (λ y. IsMoved k x y (map (λ n. name_in names (Space k) (Own n)) d.home.slots) (map Own (names2 (Hand k))) g g2) (sym root)
              (subst (λ ns. IsMoved k x x (map (λ n. name_in names (Space k) (Own n)) ns) (map Own (names2 (Hand k))) g g2) (sym no_home)
              (subst (λ ns. IsMoved k x x [] (map Own ns) g g2) (sym none) moved))),
        )

  taken : TakingOutIsAMove → (names : Naming) (bound : ℕ) (g : Objects) → IsRead w names bound g → Knows (below_ref v) (layout w) → IsTaken names g
  taken law names bound g R knows = ⊎_elim
      (λ own. law k (value_of v) d m.space m2.space (layout w) (layout w2) names bound g (takes own names bound g R knows) R.tables)
      (λ h. published_taken names bound g R knows h.0 h.1)
      (held w names bound g R k m v at A.empty.published A.moved.well A.moved.within knows)

  moved_knows : (names : Naming) (bound : ℕ) (g : Objects) → IsRead w names bound g → Knows (below_ref v) (layout w) → MemberKnows (layout w) m2
  moved_knows names bound g R knows =
      let K = R.knows.ractors k m at in
      record {
        space = record { known = λ c os has. K.space.known c os (less_below d.home.slots m.space.below m2.space.below A.moved.emptied.below (c, os) has) };
        roots = λ r has. K.roots r (subst (λ (xs : List Ref). Contains xs r) roots_are has);
        hand = λ p e. subst (λ (x : Packed). IsMessageKnown (layout w) x) (same_Some d.message p (sym held_message ∙ e))
            (known_message (layout w) d.message A.moved.sound (known names bound g R knows) (copied_keys (layout w) m.space (value_of v) d.home.slots d.message A.moved.copy K.keyed));
        plan = λ p e. absurd (none-some p (sym (ap (λ (x : Member). x.plan) A.now_is ∙ A.empty.plan) ∙ e));
        published = λ p e. absurd (none-some p (sym no_published ∙ e));
        keyed = emptied_keys (layout w) m.space (value_of v) d.home.slots d.message A.moved.copy K.keyed m2.space A.moved.emptied;
      }

  -- the slots of the home were slots of the space
  home_within : (n : ℕ) → Contains d.home.slots n → n < length m.space.slots
  home_within n has = let lt = slice_get_within m2.space.slots n (Here emptied) (A.moved.emptied.slots.named n has) in omega (arith, lt, A.moved.emptied.slots.size)

  pub detached : TakingOutIsAMove → StandsAt who k → HasOutcome (record { who = who; action = Detach op }) Done w w2
  detached law stands names bound g R =
      let knows = known_named (layout w) m.roots op v (R.knows.ractors k m at).roots A.named in
      let q = taken law names bound g R knows in
      let names2 = q.0 in
      let N = q.4 in
      let kept : (c : ℕ) → names2 (Shared c) ≡ names (Shared c) = λ c. N.rest (Shared c) (λ z. let y : ⊥ = cc in y) (λ z. let y : ⊥ = cc in y) in
      let mails : (c u : ℕ) → names2 (Mail c u) ≡ names (Mail c u) = λ c u. N.rest (Mail c u) (λ z. let y : ⊥ = cc in y) (λ z. let y : ⊥ = cc in y) in
      let shows : (c u : ℕ) → names2 (Shown c u) ≡ names (Shown c u) = λ c u. N.rest (Shown c u) (λ z. let y : ⊥ = cc in y) (λ z. let y : ⊥ = cc in y) in
      let spaces : (n : ℕ) → (n ≡ k → ⊥) → names2 (Space n) ≡ names (Space n) = λ n differ. N.rest (Space n) (λ z. differ (let f : n ≡ k = cc in f)) (λ z. let y : ⊥ = cc in y) in
      let hands : (n : ℕ) → (n ≡ k → ⊥) → names2 (Hand n) ≡ names (Hand n) = λ n differ. N.rest (Hand n) (λ z. let y : ⊥ = cc in y) (λ z. differ (let f : n ≡ k = cc in f)) in
      let stand : (i : ℕ) → i < length m.space.slots → slice_index (names2 (Space k)) i ≡ slice_index (names (Space k)) i = λ i lt. let x = gets m.space.slots i lt in N.space i x.0 x.1 in
      let value = value_named names (Space k) m.roots op ∙ ap (option_map (root_in names (Space k))) A.named in
      let roots : map (root_in names2 (Space k)) m2.roots ≡ map (root_in names (Space k)) m.roots =
      ap (map (root_in names2 (Space k))) roots_are ∙ roots_keep (length m.space.slots) names names2 (Space k) m.roots A.rooted stand kept in
      let home : option_map (shells_in names2 k) m2.home ≡ Some (shells_in names k d.home) =
      ap (λ (x : Member). option_map (shells_in names2 k) x.home) A.now_is
      ∙ ap (λ (ns : List ℕ). Some ns) (map_same (slice_index (names2 (Space k))) (slice_index (names (Space k))) d.home.slots (λ n has. stand n (home_within n has))) in
      let actor : actor_in names2 k m2 ≡ record (actor_in names k m) { hand = Some (parcel_in names2 (Hand k) d.message); home = Some (shells_in names k d.home); next = (actor_in names k m).next + 1 } =
      same_actor roots (ap (option_map (parcel_in names2 (Hand k))) held_message) home (ap (λ (x : Member). x.ticket) A.now_is) (no_plan_same names names2 k m2.plan m.plan (ap (λ (x : Member). x.plan) A.now_is ∙ A.empty.plan) A.empty.plan) (no_published_same names names2 k m2.published m.published no_published A.empty.published) A.moved.emptied.slots.size A.moved.emptied.limit A.moved.next (ap (λ (x : Member). x.limits) A.now_is) (ap (λ (x : Member). x.runs) A.now_is) in (
        names2,
        q.1,
        q.2,
        read_set w w2 k m m2 at rs is A.moved.emptied.owner (waits_no_more m m2 (ap (λ (x : Member). x.ticket) A.now_is ∙ A.empty.ticket)) (same_rooted m m2 A.moved.emptied.slots.size (ap (λ (x : Member). x.roots) A.now_is) (R.held.roots k m at)) (moved_knows names bound g R knows) R q.3,
        (
          k,
          actor_in names k m,
          stands,
          actor_at w names g k m at,
          (free names k m A.empty, (root_in names (Space k) v, value)),
          (
            root_in names (Space k) v,
            parcel_in names2 (Hand k) d.message,
            shells_in names k d.home,
            value,
            record {
              free = free_of w names bound g R k m v at A.empty.published A.moved.well A.moved.within knows A.moved.free;
              shared = shared_of w names bound g R k m v at A.empty.published A.moved.well A.moved.within knows A.moved.promoted;
              objects = subst (λ x. IsMoved k x (parcel_in names2 (Hand k) d.message).root (map Own (shells_in names k d.home)) (map Own (names2 (Hand k))) g q.2)
                  (resolved w names bound g R k m v at A.empty.published A.moved.well A.moved.within knows)
                  (subst (λ (left : List Name). IsMoved k (value_in names (Space k) (resolve m.space.slots (value_of v))) (parcel_in names2 (Hand k) d.message).root left (map Own (names2 (Hand k))) g q.2) (named_slots names (Space k) d.home.slots) q.5);
              size = length-map d.home.slots (slice_index (names (Space k))) ∙ sym d.fits.size;
              sender = A.moved.sender ∙ R.owned k m at;
              sequence = A.moved.sequence;
              ractors = ap (each_from (actor_in names2) 0) rs
                  ∙ each_set (actor_in names) (actor_in names2) 0 w.ractors k k m2 (omega arith)
                  (λ j n x e z a. actor_same names names2 n x (spaces n (λ f. e (omega arith))) (hands n (λ f. e (omega arith))) kept)
                  ∙ ap (slice_set (each_from (actor_in names) 0 w.ractors) k) actor;
              post = ap (post_in names2) is ∙ post_same names names2 w.channels mails shows kept;
            },
          ),
        ),
        record {
          others = λ h off. N.rest h (λ e. off (subst (IsRenamed w who (Detach op)) (sym e) stands)) (λ e. off (subst (IsRenamed w who (Detach op)) (sym e) stands));
          slots = λ j x i there lt off. ⊎_elim
              (λ same.
              let one : x ≡ m = same_Some x m (sym there ∙ ap (slice_get w.ractors) same ∙ at) in
              ap (λ n. slice_index (names2 (Space n)) i) same ∙ stand i (subst (λ (y : Member). i < length y.space.slots) one lt) ∙ ap (λ n. slice_index (names (Space n)) i) (sym same))
              (λ differ. ap (λ ns. slice_index ns i) (spaces j differ))
              (eq_cases j k);
        },
      )

-- whatever a detach answers
pub detached_by : TakingOutIsAMove → (w w2 : Assembly) (who : RactorNo) (k : ℕ) (m m2 : Member) (op : Operand) (r : Outcome) → slice_get w.ractors k ≡ Some m → w2.ractors ≡ slice_set w.ractors k m2
    → w2.channels ≡ w.channels → StandsAt who k → Detaches op r m m2 → HasOutcome (record { who = who; action = Detach op }) (reply_of r) w w2
detached_by law w w2 who k m m2 op outcome.Done at rs is stands (v, d, A) = detached w w2 who k m m2 op v d at A rs is law stands
detached_by law w w2 who k m m2 op outcome.NotEnabled at rs is stands (why, same) =
    stays_read (record { who = who; action = Detach op }) NotEnabled w w2 (same_assembly w2.ractors w.ractors w2.channels w.channels (rs ∙ set_again w.ractors w.ractors k m2 m refl at same) is)
    (λ names bound g R. (
      λ e.
          let z = allowed w names g (record { who = who; action = Detach op }) k m stands at e in
          not_packed w names bound g k m op R at why z.0 z.1 (tested_at w names g (record { who = who; action = Detach op }) k m stands at e),
      same_state (state_in w names g),
    ))
detached_by law w w2 who k m m2 op (outcome.Refused f) at rs is stands (v, empty, named, F, same) =
    stays_read (record { who = who; action = Detach op }) (Refused f) w w2 (same_assembly w2.ractors w.ractors w2.channels w.channels (rs ∙ set_again w.ractors w.ractors k m2 m refl at same) is)
    (λ names bound g R.
    let value = value_named names (Space k) m.roots op ∙ ap (option_map (root_in names (Space k))) named in (
      k,
      actor_in names k m,
      stands,
      actor_at w names g k m at,
      (free names k m empty, (root_in names (Space k) v, value)),
      (
        root_in names (Space k) v,
        value,
        (
          ⊎_elim (λ e. inl e)
              (λ e. inr (⊎_elim (λ z. inl z) (λ z. inr (z.0, shell_of w names bound g R k m v at empty.published F.well F.within (known_named (layout w) m.roots op v (R.knows.ractors k m at).roots named) z.1)) e))
              F.why,
          same_state (state_in w names g),
        ),
      ),
    ))
