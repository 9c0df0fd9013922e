-- A moved message comes back into its home.
use Rattle.std.proofs.Common.{◌≡◌, ℕ, ◌<◌, ◌⊎◌, ⊎_elim, inl, inr, List, length, map, Option, Some, None, slice_get, Contains, sym, ap, ◌∙◌, subst, refl, arith}
use Rattle.std.specs.Prelude.{slice_index, slice_set}
use Rattle.std.specs.Option.{option_map}
use Rattle.std.proofs.lemmas.List.Elements.{Contains-append_right}
use Rattle.std.proofs.lemmas.Option.{none-some, same_Some, slice_get_within}
use Rattle.rr_base.specs.declared.name.RactorNo.{RactorNo}
use Rattle.rr_space.specs.Graph.{Object}
use Rattle.rr_space.specs.Tables.{Packed, Below, joined, Slot}
use Rattle.rr_space.specs.Readings.{Space, Hand, Mail, Shown, Shared, Naming, Layout}
use Rattle.rr_space.specs.declared.refer.Ref.{Ref}
use Rattle.rr_space.proofs.Keeping.{list_has}
use Rattle.rr_space.proofs.Renaming.{at_contains}
use Rattle.rr_space.proofs.Sounds.{gets, joined_back, joined_in}
use Rattle.rr_move.specs.Laws.{PutsBack, PuttingBackUndoes}
use Rattle.rr_move.specs.declared.home.Home.{Home}
use Rattle.rr_move.specs.declared.home.Detached.{Detached}
use Rattle.rr_world.specs.Views.{Member, Assembly}
use Rattle.rr_world.specs.Layouts.{layout, message_slots, message_below, MemberKnows}
use Rattle.rr_world.specs.Readings.{each_from, actor_in, shells_in, parcel_in, root_in, post_in}
use Rattle.rr_world.specs.Enabling.{StandsAt, HoldsMoved}
use Rattle.rr_world.specs.Moving.{IsPutBackBy, PutsBackInto}
use Rattle.rr_world.specs.Runs.{HasOutcome}
use Rattle.rr_world.specs.declared.step.Action.TheVariants.{PutBack}
use Rattle.rr_world.specs.declared.step.Reply.TheVariants.{Done}
use Rattle.rr_world.specs.Outcomes.{reply_of}
use Rattle.rr_world.specs.declared.outcome.Outcome.{Outcome}
use Rattle.rr_world.specs.declared.outcome.Outcome.TheVariants as outcome
use Rattle.rr_world.proofs.Enabled.{actor_at, allowed}
use Rattle.rr_world.proofs.Insides.{set_again, same_assembly}
use Rattle.rr_world.proofs.Knowing.{knows_either, read_set}
use Rattle.rr_world.proofs.Lists.{each_set, eq_cases}
use Rattle.rr_world.proofs.Namings.{actor_same, same_actor, no_plan_same, no_published_same, post_same}
use Rattle.rr_world.proofs.Rooting.{roots_keep}
use Rattle.rr_world.proofs.Staying.{refused}
use Rattle.rr_world.proofs.Forwarding.{seen_plain}
use Rattle.rr_world.proofs.Tables.{space_was, hand_was, space_now, hand_now, rest_now}
use Rattle.rr_world.proofs.Fitting.{waits_homeless}
use Rattle.rr_world.specs.Naming.{IsRenamed}
use Rattle.rr_world.proofs.Holding.{same_rooted}
use Rattle.rr_world.proofs.KeyMoves.{returned_keys}

module _ (w w2 : Assembly) (who : RactorNo) (k : ℕ) (m m2 : Member) (d : Detached) (at : slice_get w.ractors k ≡ Some m) (A : IsPutBackBy d m m2)
    (rs : w2.ractors ≡ slice_set w.ractors k m2) (is : w2.channels ≡ w.channels) where
  no_published : m2.published ≡ None
  no_published = ap (λ (x : Member). x.published) A.now_is ∙ A.no_published

  was_space : layout w (Space k) ≡ Some m.space.slots
  was_space = space_was w w2 k m m2 at rs is ∙ ap (λ (ss : List Slot). Some ss) (seen_plain m A.no_published)

  now_space : layout w2 (Space k) ≡ Some m2.space.slots
  now_space = space_now w w2 k m m2 at rs is ∙ ap (λ (ss : List Slot). Some ss) (seen_plain m2 no_published)

  gone : m2.hand ≡ None
  gone = ap (λ (x : Member). x.hand) A.now_is

  roots_are : m2.roots ≡ m.roots
  roots_are = ap (λ (x : Member). x.roots) A.now_is

  puts : PutsBack k d m.space m2.space (layout w) (layout w2)
  puts = record {
    space = was_space;
    hand = hand_was w w2 k m m2 at rs is ∙ ap (option_map message_slots) A.held;
    space_after = now_space;
    hand_after = hand_now w w2 k m m2 at rs is ∙ ap (option_map message_slots) gone;
    rest = rest_now w w2 k m m2 at rs is;
    home = d.fits;
    shells = A.shells;
    back = A.back;
  }

  -- what the space leads to then it led to before, or came with the message
  split : (e : ℕ × List Object) → Contains (joined m2.space.below) e → Contains (joined m.space.below) e ⊎ Contains (message_below d.message) e
  split e has =
      let b = joined_back m2.space.below e has in
      ⊎_elim
      (λ named.
      let i = at_contains d.home.slots b.0 named in
      let lt = slice_get_within d.home.slots i.0 b.0 i.1 in
      let x = gets d.message.below i.0 (omega (arith, lt, d.fits.size, A.count)) in
      let same : x.0 ≡ b.1 = same_Some x.0 b.1 (sym (A.back.below.named b.0 i.0 x.0 i.1 x.1) ∙ b.2) in
      inr (Contains-append_right d.message.root_below (joined d.message.below) e (joined_in d.message.below i.0 x.0 e x.1 (subst (λ (y : Below). Contains y e) (sym same) b.3))))
      (λ out. inl (joined_in m.space.below b.0 b.1 e (sym (A.back.below.others b.0 out) ∙ b.2) b.3))
      (list_has d.home.slots b.0)

  back_knows : (tables : Layout) → MemberKnows tables m → MemberKnows tables m2
  back_knows tables K = record {
    space = knows_either tables (joined m.space.below) (message_below d.message) (joined m2.space.below) split K.space (K.hand d.message A.held).below;
    roots = λ r has. K.roots r (subst (λ (xs : List Ref). Contains xs r) roots_are has);
    hand = λ p e. absurd (none-some p (sym gone ∙ e));
    plan = λ p e. absurd (none-some p (sym (ap (λ (x : Member). x.plan) A.now_is ∙ A.no_plan) ∙ e));
    published = λ p e. absurd (none-some p (sym no_published ∙ e));
    keyed = returned_keys tables d.home.slots d.message m.space m2.space A.back d.fits.size A.shells K.keyed (K.hand d.message A.held).keyed;
  }

  pub returned : PuttingBackUndoes → StandsAt who k → HasOutcome (record { who = who; action = PutBack }) Done w w2
  returned law stands names bound g R =
      let q = law k d m.space m2.space (layout w) (layout w2) names bound g puts R.tables in
      let names2 = q.0 in
      let N = q.3 in
      let kept : (c : ℕ) → names2 (Shared c) ≡ names (Shared c) = λ c. N.rest (Shared c) (λ z. let y : ⊥ = cc in y) (λ z. let y : ⊥ = cc in y) in
      let mails : (c u : ℕ) → names2 (Mail c u) ≡ names (Mail c u) = λ c u. N.rest (Mail c u) (λ z. let y : ⊥ = cc in y) (λ z. let y : ⊥ = cc in y) in
      let shows : (c u : ℕ) → names2 (Shown c u) ≡ names (Shown c u) = λ c u. N.rest (Shown c u) (λ z. let y : ⊥ = cc in y) (λ z. let y : ⊥ = cc in y) in
      let spaces : (n : ℕ) → (n ≡ k → ⊥) → names2 (Space n) ≡ names (Space n) = λ n differ. N.rest (Space n) (λ z. differ (let f : n ≡ k = cc in f)) (λ z. let y : ⊥ = cc in y) in
      let hands : (n : ℕ) → (n ≡ k → ⊥) → names2 (Hand n) ≡ names (Hand n) = λ n differ. N.rest (Hand n) (λ z. let y : ⊥ = cc in y) (λ z. differ (let f : n ≡ k = cc in f)) in
      let stand : (i : ℕ) → i < length m.space.slots → slice_index (names2 (Space k)) i ≡ slice_index (names (Space k)) i = λ i lt. let x = gets m.space.slots i lt in N.space i x.0 x.1 in
      let roots : map (root_in names2 (Space k)) m2.roots ≡ map (root_in names (Space k)) m.roots =
      ap (map (root_in names2 (Space k))) roots_are ∙ roots_keep (length m.space.slots) names names2 (Space k) m.roots A.rooted stand kept in
      let actor : actor_in names2 k m2 ≡ record (actor_in names k m) { hand = None; home = None } =
      same_actor roots (ap (option_map (parcel_in names2 (Hand k))) gone) (ap (λ (x : Member). option_map (shells_in names2 k) x.home) A.now_is) (ap (λ (x : Member). x.ticket) A.now_is) (no_plan_same names names2 k m2.plan m.plan (ap (λ (x : Member). x.plan) A.now_is ∙ A.no_plan) A.no_plan) (no_published_same names names2 k m2.published m.published no_published A.no_published) A.back.slots.size A.back.rest.limit A.back.rest.next_message
      (ap (λ (x : Member). x.limits) A.now_is) (ap (λ (x : Member). x.runs) A.now_is) in
      let hand = ap (option_map (parcel_in names (Hand k))) A.held in
      let home = ap (option_map (shells_in names k)) A.home in (
        names2,
        bound,
        q.1,
        read_set w w2 k m m2 at rs is A.back.rest.owner (waits_homeless m m2 (ap (λ (x : Member). x.home) A.now_is)) (same_rooted m m2 A.back.slots.size (ap (λ (x : Member). x.roots) A.now_is) (R.held.roots k m at)) (back_knows (layout w) (R.knows.ractors k m at)) R q.2,
        (
          k,
          actor_in names k m,
          stands,
          actor_at w names g k m at,
          (parcel_in names (Hand k) d.message, shells_in names k d.home, hand, home),
          (
            parcel_in names (Hand k) d.message,
            shells_in names k d.home,
            hand,
            home,
            record {
              objects = q.4;
              ractors = ap (each_from (actor_in names2) 0) rs
                  ∙ each_set (actor_in names) (actor_in names2) 0 w.ractors k k m2 (omega arith)
                  (λ j n x e z a. actor_same names names2 n x (spaces n (λ f. e (omega arith))) (hands n (λ f. e (omega arith))) kept)
                  ∙ ap (slice_set (each_from (actor_in names) 0 w.ractors) k) actor;
              post = ap (post_in names2) is ∙ post_same names names2 w.channels mails shows kept;
            },
          ),
        ),
        record {
          others = λ h off. N.rest h (λ e. off (subst (IsRenamed w who PutBack) (sym e) stands)) (λ e. off (subst (IsRenamed w who PutBack) (sym e) stands));
          slots = λ j x i there lt off. ⊎_elim
              (λ same.
              let one : x ≡ m = same_Some x m (sym there ∙ ap (slice_get w.ractors) same ∙ at) in
              ap (λ n. slice_index (names2 (Space n)) i) same ∙ stand i (subst (λ (y : Member). i < length y.space.slots) one lt) ∙ ap (λ n. slice_index (names (Space n)) i) (sym same))
              (λ differ. ap (λ ns. slice_index ns i) (spaces j differ))
              (eq_cases j k);
        },
      )

some_back : {A B : Type 0} (f : A → B) (x : Option A) (b : B) → option_map f x ≡ Some b → (a : A) × (x ≡ Some a)
some_back f None b e = absurd (none-some b e)
some_back f (Some a) b e = (a, refl)

-- a ractor that has a moved message in the machine has it in the World
held_back : (names : Naming) (k : ℕ) (m : Member) → HoldsMoved (actor_in names k m) → (p : Packed) × (h : Home) × (m.hand ≡ Some p) × (m.home ≡ Some h)
held_back names k m (p, home, has, its) =
    let a = some_back (parcel_in names (Hand k)) m.hand p has in
    let b = some_back (shells_in names k) m.home home its in
    (a.0, b.0, a.1, b.1)

-- whatever a put-back answers
pub returned_by : PuttingBackUndoes → (w w2 : Assembly) (who : RactorNo) (k : ℕ) (m m2 : Member) (r : Outcome) → slice_get w.ractors k ≡ Some m → w2.ractors ≡ slice_set w.ractors k m2
    → w2.channels ≡ w.channels → StandsAt who k → PutsBackInto r m m2 → HasOutcome (record { who = who; action = PutBack }) (reply_of r) w w2
returned_by law w w2 who k m m2 outcome.Done at rs is stands (d, A) = returned w w2 who k m m2 d at A rs is law stands
returned_by law w w2 who k m m2 outcome.NotEnabled at rs is stands (never, same) =
    refused (record { who = who; action = PutBack }) w w2 (same_assembly w2.ractors w.ractors w2.channels w.channels (rs ∙ set_again w.ractors w.ractors k m2 m refl at same) is)
    (λ names g e. let z = held_back names k m (allowed w names g (record { who = who; action = PutBack }) k m stands at e) in never z.0 z.1 z.2 z.3)
returned_by law w w2 who k m m2 (outcome.Refused f) at rs is stands o = absurd o
