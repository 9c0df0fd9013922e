-- A new object comes into a space.
use Rattle.std.proofs.Common.{◌≡◌, ℕ, zero, suc, ◌+◌, ◌<◌, ◌++◌, ⊎_elim, inl, inr, List, [], ◌∷◌, length, length-append, map, Option, Some, None, slice_get, Contains, sym, ap, ◌∙◌, subst, refl, arith}
use Rattle.std.specs.Prelude.{slice_index, slice_set}
use Rattle.std.specs.Option.{option_map, option_and_then}
use Rattle.std.proofs.lemmas.List.{map-append}
use Rattle.std.proofs.lemmas.List.Elements.{Contains-append_cases}
use Rattle.std.proofs.lemmas.Option.{none-some, same_Some, slice_get_within}
use Rattle.rr_base.specs.declared.name.RactorNo.{RactorNo}
use Rattle.rr_space.specs.Graph.{Own, Published, Value, Plain, At, Label, Message, Cause, Ractor, Object, Immediate, Nil}
use Rattle.rr_space.specs.Tables.{Slot, Here, Led, Below, joined}
use Rattle.rr_space.specs.Parts.{below_ref}
use Rattle.rr_space.specs.Readings.{Owner, Space, Hand, Mail, Shown, Shared, Owned, Objects, Naming, Layout, IsReading, IsSound, IsInLayout, Knows, named}
use Rattle.rr_space.specs.Steps.{Remakes, IsRemade, IsNamed, IsChange, IsNewValue}
use Rattle.rr_space.specs.declared.refer.Ref.{Ref}
use Rattle.rr_space.specs.declared.refer.Ref.TheVariants.{Local}
use Rattle.rr_space.proofs.Frames.{owner_cases, object_same}
use Rattle.rr_space.proofs.Hands.{append_cases, append_left, append_right}
use Rattle.rr_space.proofs.Remaking.{remaking_is_a_step}
use Rattle.rr_space.proofs.Sounds.{joined_back, joined_in, none_in, in_first, gets}
use Rattle.rr_world.specs.Views.{Member, Channels, Assembly, seen_slots, seen_through, AreRootsWithin}
use Rattle.rr_world.specs.Layouts.{cluster_slots, layout, space_slots, hand_slots, inbox_slots, port_slots, message_slots, MemberKnows, IsRead}
use Rattle.rr_world.specs.Readings.{each_from, actor_in, shells_in, planned_in, published_names, root_in, post_in, state_in, parcel_in}
use Rattle.rr_world.specs.Enabling.{StandsAt}
use Rattle.rr_world.specs.ObjectCases.{new_object}
use Rattle.rr_world.specs.Allocating.{IsAllocatedBy, Allocs}
use Rattle.rr_world.specs.Runs.{HasOutcome}
use Rattle.rr_world.specs.declared.step.NewObject.{NewObject}
use Rattle.rr_world.specs.declared.step.NewObject.TheVariants.{Text, Array}
use Rattle.rr_world.specs.declared.step.NewObject.TheVariants as new
use Rattle.rr_world.specs.declared.step.Action.TheVariants.{Alloc}
use Rattle.rr_world.specs.declared.step.Reply.TheVariants.{Done, Refused}
use Rattle.rr_world.specs.Outcomes.{reply_of}
use Rattle.rr_world.specs.declared.outcome.Outcome.{Outcome}
use Rattle.rr_world.specs.declared.outcome.Outcome.TheVariants as outcome
use Rattle.rr_world.proofs.Lists.{eq_cases, set_at, set_off, seen_same, each_set}
use Rattle.rr_world.proofs.Namings.{actor_same, same_actor, plan_stands, published_stands, post_same, hand_same, home_stands}
use Rattle.rr_world.proofs.Knowing.{read_set}
use Rattle.rr_world.proofs.Enabled.{actor_at}
use Rattle.rr_world.proofs.Insides.{set_again, same_assembly}
use Rattle.rr_world.proofs.Staying.{stays, same_state, space_renamed}
use Rattle.rr_world.proofs.Rooting.{roots_keep, roots_and_more}
use Rattle.rr_world.proofs.Fitting.{waits_same}
use Rattle.rr_world.proofs.Forwarding.{seen_length, seen_more}
use Rattle.rr_world.proofs.KeyTables.{new_keys}

-- what a new object has is an immediate
plain_triples : (kind : NewObject) (l : Label) (x : Value) → Contains (new_object kind).triples (l, x) → (i : Immediate) × (x ≡ Plain i)
plain_triples Text l x has = absurd (none_in (l, x) has)
plain_triples Array l x has = absurd (none_in (l, x) has)
plain_triples new.Hash l x has = absurd (none_in (l, x) has)
plain_triples (new.Object c) l x has = absurd (none_in (l, x) has)
plain_triples (new.Exception c) l x has = ⊎_elim
    (λ one. (Nil, sym (ap (λ (t : Label × Value). t.1) one)))
    (λ more. ⊎_elim
    (λ one. (Nil, sym (ap (λ (t : Label × Value). t.1) one)))
    (λ last. ⊎_elim
    (λ one. (Nil, sym (ap (λ (t : Label × Value). t.1) one)))
    (λ none. absurd (none_in (l, x) none))
    (in_first (Ractor, Plain Nil) [] (l, x) last))
    (in_first (Cause, Plain Nil) ((Ractor, Plain Nil) ∷ []) (l, x) more))
    (in_first (Message, Plain Nil) ((Cause, Plain Nil) ∷ (Ractor, Plain Nil) ∷ []) (l, x) has)

alone : (names : Naming) (h : Owner) (kind : NewObject) → named names h (new_object kind) ≡ new_object kind
alone names h Text = refl
alone names h Array = refl
alone names h new.Hash = refl
alone names h (new.Object c) = refl
alone names h (new.Exception c) = refl

module _ (w w2 : Assembly) (k : ℕ) (m m2 : Member) (kind : NewObject) (at : slice_get w.ractors k ≡ Some m) (A : IsAllocatedBy kind m m2)
    (rs : w2.ractors ≡ slice_set w.ractors k m2) (is : w2.channels ≡ w.channels) where
  rest : (h : Owner) → (h ≡ Space k → ⊥) → layout w2 h ≡ layout w h
  unfolding layout
  rest (Space j) q = ap (λ xs. option_map space_slots (slice_get xs j)) rs ∙ ap (option_map space_slots) (set_off w.ractors k j m2 (λ e. q (ap Space e)))
  rest (Hand j) q = ap (λ xs. option_and_then hand_slots (slice_get xs j)) rs ∙ seen_same (option_and_then hand_slots) w.ractors k j m m2 at (ap (option_map message_slots) A.hand)
  rest (Mail d u) q = ap (λ (x : Channels). option_and_then (inbox_slots u) (slice_get x.inboxes d)) is
  rest (Shown d u) q = ap (λ (x : Channels). option_and_then (port_slots u) (slice_get x.ports d)) is
  rest (Shared d) q = ap (λ (x : Channels). option_map cluster_slots (slice_get x.store.clusters d)) is

  was : layout w (Space k) ≡ Some (seen_slots m)
  unfolding layout
  was = ap (option_map space_slots) at

  seen_now : seen_slots m2 ≡ seen_slots m ++ Here (new_object kind) ∷ []
  seen_now = ap (λ x. seen_through x m2.space.slots) A.published ∙ ap (seen_through m.published) A.slots ∙ seen_more m.space m.published (Here (new_object kind) ∷ []) A.fit

  many : length (seen_slots m) ≡ length m.space.slots
  many = seen_length m.published m.space.slots

  now : layout w2 (Space k) ≡ Some ((seen_slots m) ++ Here (new_object kind) ∷ [])
  unfolding layout
  now = ap (λ xs. option_map space_slots (slice_get xs k)) rs ∙ ap (option_map space_slots) (set_at w.ractors k m2 (slice_get_within w.ractors k m at)) ∙ ap (λ ss. Some ss) seen_now

  space_apart : (c : ℕ) → Space k ≡ Shared c → ⊥
  space_apart c e = cc

  size : length ((seen_slots m) ++ Here (new_object kind) ∷ []) ≡ length (seen_slots m) + 1
  size = length-append (seen_slots m) (Here (new_object kind) ∷ [])

  -- what stands in a new slot
  last : (i : ℕ) (x : Slot) → slice_get (Here (new_object kind) ∷ []) i ≡ Some x → (i ≡ 0) × (Here (new_object kind) ≡ x)
  last zero x e = (refl, same_Some _ x e)
  last (suc i) x e = absurd (none-some x e)

  not_led : (i c p : ℕ) → slice_get (Here (new_object kind) ∷ []) i ≡ Some (Led c p) → ⊥
  not_led i c p e = let z = (last i (Led c p) e).1 in differ (new_object kind) z
    where
      differ : (o : Object) → Here o ≡ Led c p → ⊥
      differ o same = cc

  wider : (R : IsSound (layout w) (seen_slots m)) (x : Value) → IsInLayout (layout w) (seen_slots m) x → IsInLayout (layout w) ((seen_slots m) ++ Here (new_object kind) ∷ []) x
  wider R (Plain n) s = s
  wider R (At (Own n)) s = omega (arith, size, s)
  wider R (At (Published c q)) s = s

  remakes : IsSound (layout w) (seen_slots m) → Remakes (Space k) 1 (seen_slots m) ((seen_slots m) ++ Here (new_object kind) ∷ []) (layout w) (layout w2)
  remakes S = record {
    was = inl was;
    now = now;
    rest = rest;
    unshared = space_apart;
    size = size;
    kept_here = λ i o e. (o, append_left (seen_slots m) (Here (new_object kind) ∷ []) i (Here o) e);
    kept_led = λ i c p e. append_left (seen_slots m) (Here (new_object kind) ∷ []) i (Led c p) e;
    fresh_here = λ i c p e. ⊎_elim (λ old. slice_get_within (seen_slots m) i (Led c p) old) (λ new. absurd (not_led new.0 c p new.2)) (append_cases (seen_slots m) (Here (new_object kind) ∷ []) i (Led c p) e);
    sound = record {
      within = λ i o l x e has. ⊎_elim
          (λ old. wider S x (S.within i o l x old has))
          (λ new. let z = (last new.0 (Here o) new.2).1 in let same : new_object kind ≡ o = cc in let p = plain_triples kind l x (subst (λ (y : Object). Contains y.triples (l, x)) (sym same) has) in
          subst (IsInLayout (layout w) ((seen_slots m) ++ Here (new_object kind) ∷ [])) (sym p.1) tt)
          (append_cases (seen_slots m) (Here (new_object kind) ∷ []) i (Here o) e);
      led = λ i c p e. ⊎_elim (λ old. S.led i c p old) (λ new. absurd (not_led new.0 c p new.2)) (append_cases (seen_slots m) (Here (new_object kind) ∷ []) i (Led c p) e);
    };
  }

  module _ (names : Naming) (bound : ℕ) (g : Objects) (R : IsRead w names bound g) (names2 : Naming) (g2 : Objects)
      (after_reading : IsReading (layout w2) names2 (bound + 1) g2) (N : IsNamed (Space k) names names2)
      (M : IsRemade (Space k) (seen_slots m) ((seen_slots m) ++ Here (new_object kind) ∷ []) names names2 g g2) where
    kept_shared : (c : ℕ) → names2 (Shared c) ≡ names (Shared c)
    kept_shared c = N.rest (Shared c) (λ e. space_apart c (sym e))

    abbrev pub name : ℕ
    name = slice_index (names2 (Space k)) (length (seen_slots m))

    here_new : slice_get ((seen_slots m) ++ Here (new_object kind) ∷ []) (length (seen_slots m)) ≡ Some (Here (new_object kind))
    here_new = append_right (seen_slots m) (Here (new_object kind) ∷ []) 0 (length (seen_slots m)) (Here (new_object kind)) (omega arith) refl

    pub is_fresh : g name ≡ None
    is_fresh = M.fresh (length (seen_slots m)) (Here (new_object kind)) here_new (omega arith)

    pub is_here : g2 name ≡ Some (record { owner = Space k; object = new_object kind })
    is_here = M.own (length (seen_slots m)) (new_object kind) here_new ∙ ap (λ (o : Object). Some (record { owner = Space k; object = o })) (alone names2 (Space k) kind)

    stand : (i : ℕ) → i < length (seen_slots m) → slice_index (names2 (Space k)) i ≡ slice_index (names (Space k)) i
    stand i lt = let x = gets (seen_slots m) i lt in M.kept i x.0 x.1

    -- an old object is as it was
    pub old_stays : (n : ℕ) (x : Owned) → g n ≡ Some x → g2 n ≡ Some x
    old_stays n x e = ⊎_elim
        (λ mine.
        let st = R.tables.only n x e in
        let t_is : st.table ≡ (seen_slots m) = same_Some _ _ (sym st.is_table ∙ ap (layout w) mine ∙ was) in
        let raw : slice_get (seen_slots m) st.place ≡ Some (Here st.raw) = ap (λ t. slice_get t st.place) (sym t_is) ∙ st.is_raw in
        let lt = slice_get_within (seen_slots m) st.place (Here st.raw) raw in
        let name_is : slice_index (names (Space k)) st.place ≡ n = ap (λ h. slice_index (names h) st.place) (sym mine) ∙ st.is_name in
        let old = (R.tables.reads (Space k) (seen_slots m) was).here st.place st.raw raw in
        let x_is : record { owner = Space k; object = named names (Space k) st.raw } ≡ x = same_Some _ x (sym old ∙ ap g name_is ∙ e) in
        let new = M.own st.place st.raw (append_left (seen_slots m) (Here (new_object kind) ∷ []) st.place (Here st.raw) raw) in
        let same : named names2 (Space k) st.raw ≡ named names (Space k) st.raw =
        object_same (layout w) (seen_slots m) (Space k) (Space k) names names2 st.place st.raw stand (λ c u e2. kept_shared c) (R.tables.sound (Space k) (seen_slots m) was) raw in
        let there : g2 n ≡ Some (record { owner = Space k; object = named names2 (Space k) st.raw }) = ap g2 (sym name_is ∙ sym (stand st.place lt)) ∙ new in
        let stays_so : g2 n ≡ Some (record { owner = Space k; object = named names (Space k) st.raw }) = subst (λ (o : Object). g2 n ≡ Some (record { owner = Space k; object = o })) same there in
        subst (λ (y : Owned). g2 n ≡ Some y) x_is stays_so)
        (λ other. M.others n x e other)
        (owner_cases x.owner (Space k))

    -- only the new name is new
    pub only_new : (n : ℕ) (y : Owned) → g n ≡ None → g2 n ≡ Some y → n ≡ name
    only_new n y none e =
        let st = after_reading.only n y e in
        ⊎_elim
        (λ mine.
        let t_is : st.table ≡ (seen_slots m) ++ Here (new_object kind) ∷ [] = same_Some _ _ (sym st.is_table ∙ ap (layout w2) mine ∙ now) in
        let raw : slice_get ((seen_slots m) ++ Here (new_object kind) ∷ []) st.place ≡ Some (Here st.raw) = ap (λ t. slice_get t st.place) (sym t_is) ∙ st.is_raw in
        let name_is : slice_index (names2 (Space k)) st.place ≡ n = ap (λ h. slice_index (names2 h) st.place) (sym mine) ∙ st.is_name in
        ⊎_elim
        (λ old.
        let lt = slice_get_within (seen_slots m) st.place (Here st.raw) old in
        let there = (R.tables.reads (Space k) (seen_slots m) was).here st.place st.raw old in
        absurd (none-some _ (sym none ∙ ap g (sym name_is ∙ stand st.place lt) ∙ there)))
        (λ new. let z = (last new.0 (Here st.raw) new.2).0 in let place : st.place ≡ length (seen_slots m) = let p = new.1 in omega arith in
        sym name_is ∙ ap (slice_index (names2 (Space k))) place)
        (append_cases (seen_slots m) (Here (new_object kind) ∷ []) st.place (Here st.raw) raw))
        (λ other.
        let old : layout w y.owner ≡ Some st.table = sym (rest y.owner other) ∙ st.is_table in
        let there = (R.tables.reads y.owner st.table old).here st.place st.raw st.is_raw in
        let name_is : slice_index (names y.owner) st.place ≡ n = ap (λ ns. slice_index ns st.place) (sym (N.rest y.owner other)) ∙ st.is_name in
        absurd (none-some _ (sym none ∙ ap g (sym name_is) ∙ there)))
        (owner_cases y.owner (Space k))

    pub others : (n : ℕ) → (n ≡ name → ⊥) → g2 n ≡ g n
    others n differ = by (g n) refl
      where
        by : (v : Option Owned) → g n ≡ v → g2 n ≡ g n
        by (Some x) e = old_stays n x e ∙ sym e
        by None e = on (g2 n) refl ∙ sym e
          where
            on : (v : Option Owned) → g2 n ≡ v → g2 n ≡ None
            on None q = q
            on (Some y) q = absurd (differ (only_new n y e q))

    pub change : (vs : List Value) → IsChange k vs g g2
    change vs = record {
      others = λ n x e differ. old_stays n x e;
      closed = λ n x e shut. old_stays n x e;
      stays = λ n x e mine. (x.object, old_stays n x e ∙ ap (λ (h : Owner). Some (record { owner = h; object = x.object })) mine);
      fresh = λ n y none e. ap (λ (z : Owned). z.owner) (same_Some y _ (sym e ∙ ap g2 (only_new n y none e) ∙ is_here));
      values = λ n y l v e mine has. ⊎_elim
          (λ same. let y_is : record { owner = Space k; object = new_object kind } ≡ y = same_Some _ y (sym is_here ∙ ap g2 (sym same) ∙ e) in
          let p = plain_triples kind l v (subst (λ (z : Owned). Contains z.object.triples (l, v)) (sym y_is) has) in
          inl (subst (IsNewValue g vs) (sym p.1) tt))
          (λ differ. inr (y, l, sym (others n differ) ∙ e, has))
          (eq_cases n name);
    }

  allocated_knows : (tables : Layout) → MemberKnows tables m → MemberKnows tables m2
  allocated_knows tables K = record {
    space = record { known = λ c os has. K.space.known c os (fewer (c, os) has) };
    roots = λ r has. ⊎_elim
        (λ old. K.roots r old)
        (λ new. ⊎_elim
        (λ (same : Local (length m.space.slots) ≡ r). subst (λ (x : Ref). Knows (below_ref x) tables) same (record { known = λ c os none. absurd (none_in (c, os) none) }))
        (λ none. absurd (none_in r none))
        (in_first (Local (length m.space.slots)) [] r new))
        (Contains-append_cases m.roots (Local (length m.space.slots) ∷ []) r (subst (λ xs. Contains xs r) A.roots has));
    hand = λ p e. K.hand p (sym A.hand ∙ e);
    plan = λ p e. K.plan p (sym A.plan ∙ e);
    published = λ p e. K.published p (sym A.published ∙ e);
    keyed = new_keys tables kind m.space.slots m2.space.slots m.space.keys m2.space.keys A.slots A.keys A.even K.keyed;
  }
    where
      fewer : (e : ℕ × List Object) → Contains (joined m2.space.below) e → Contains (joined m.space.below) e
      fewer e has =
          let b = joined_back m2.space.below e has in
          ⊎_elim
          (λ old. joined_in m.space.below b.0 b.1 e old b.3)
          (λ new. absurd (nothing new.0 b.1 e new.2 b.3))
          (append_cases m.space.below ([] ∷ []) b.0 b.1 (ap (λ bs. slice_get bs b.0) (sym A.below) ∙ b.2))
        where
          nothing : (i : ℕ) (b : Below) (e : ℕ × List Object) → slice_get ([] ∷ []) i ≡ Some b → Contains b e → ⊥
          nothing zero b e is has = none_in e (subst (λ x. Contains x e) (sym (same_Some [] b is)) has)
          nothing (suc i) b e is has = none-some b is

  pub allocated : (who : RactorNo) → StandsAt who k → HasOutcome (record { who = who; action = Alloc kind }) Done w w2
  allocated who stands names bound g R =
      let q = remaking_is_a_step (Space k) 1 (seen_slots m) ((seen_slots m) ++ Here (new_object kind) ∷ []) (layout w) (layout w2) names bound g (remakes (R.tables.sound (Space k) (seen_slots m) was)) R.tables in
      let names2 = q.0 in
      let N = q.3 in
      let kept : (c : ℕ) → names2 (Shared c) ≡ names (Shared c) = kept_shared names bound g R names2 q.1 q.2 N q.4 in
      let hands : (n : ℕ) → names2 (Hand n) ≡ names (Hand n) = λ n. N.rest (Hand n) (λ z. let y : ⊥ = cc in y) in
      let mails : (n u : ℕ) → names2 (Mail n u) ≡ names (Mail n u) = λ n u. N.rest (Mail n u) (λ z. let y : ⊥ = cc in y) in
      let shows : (n u : ℕ) → names2 (Shown n u) ≡ names (Shown n u) = λ n u. N.rest (Shown n u) (λ z. let y : ⊥ = cc in y) in
      let new = name names bound g R names2 q.1 q.2 N q.4 in
      let stand_all : (i : ℕ) → i < length m.space.slots → slice_index (names2 (Space k)) i ≡ slice_index (names (Space k)) i = λ i lt. stand names bound g R names2 q.1 q.2 N q.4 i (omega (arith, lt, many)) in
      let roots : map (root_in names2 (Space k)) m2.roots ≡ map (root_in names (Space k)) m.roots ++ At (Own new) ∷ [] =
      ap (map (root_in names2 (Space k))) A.roots ∙ map-append (root_in names2 (Space k)) m.roots (Local (length m.space.slots) ∷ [])
      ∙ ap (λ i. map (root_in names2 (Space k)) m.roots ++ At (Own (slice_index (names2 (Space k)) i)) ∷ []) (sym many)
      ∙ ap (λ vs. vs ++ At (Own new) ∷ []) (roots_keep (length m.space.slots) names names2 (Space k) m.roots A.within stand_all kept) in
      let count : length m2.space.slots ≡ length m.space.slots + 1 = ap length A.slots ∙ length-append m.space.slots (Here (new_object kind) ∷ []) in
      let within : AreRootsWithin (length m2.space.slots) m2.roots =
      subst (λ (xs : List Ref). AreRootsWithin (length m2.space.slots) xs) (sym A.roots) (roots_and_more (length m.space.slots) (length m2.space.slots) m.roots (Local (length m.space.slots)) (omega (arith, count)) A.within (omega (arith, count))) in
      let actor : actor_in names2 k m2 ≡ record (actor_in names k m) { roots = (actor_in names k m).roots ++ At (Own new) ∷ []; slots = (actor_in names k m).slots + 1 } =
      same_actor roots (ap (option_map (parcel_in names2 (Hand k))) A.hand ∙ hand_same names names2 (Hand k) m.hand (hands k) kept)
      (ap (option_map (shells_in names2 k)) A.home ∙ home_stands names names2 k m.space.slots m.hand m.home A.away stand_all) A.ticket
      (ap (option_map (planned_in names2 k)) A.plan ∙ plan_stands names names2 k (length m.space.slots) m.plan A.planned stand_all)
      (ap (option_map (published_names names2 k)) A.published ∙ published_stands names names2 k m.space m.published A.fit stand_all) count A.limit A.next A.limits A.runs in (
        names2,
        bound + 1,
        q.1,
        read_set w w2 k m m2 at rs is A.owner (waits_same m m2 A.home A.ticket) within (allocated_knows (layout w) (R.knows.ractors k m at)) R q.2,
        (
          k,
          actor_in names k m,
          stands,
          actor_at w names g k m at,
          tt,
          record {
            room = A.room;
            name = new;
            fresh = is_fresh names bound g R names2 q.1 q.2 N q.4;
            here = is_here names bound g R names2 q.1 q.2 N q.4;
            others = others names bound g R names2 q.1 q.2 N q.4;
            objects = change names bound g R names2 q.1 q.2 N q.4 (actor_in names k m).roots;
            ractors = ap (each_from (actor_in names2) 0) rs
                ∙ each_set (actor_in names) (actor_in names2) 0 w.ractors k k m2 (omega arith)
                (λ j n x d z a. actor_same names names2 n x (N.rest (Space n) (λ y. d (let f : n ≡ k = cc in omega arith))) (hands n) kept)
                ∙ ap (slice_set (each_from (actor_in names) 0 w.ractors) k) actor;
            post = ap (post_in names2) is ∙ post_same names names2 w.channels mails shows kept;
          },
        ),
        space_renamed w k m (record { who = who; action = Alloc kind }) at N stands stand_all,
      )

-- whatever an alloc answers
pub allocated_by : (w w2 : Assembly) (who : RactorNo) (k : ℕ) (m m2 : Member) (kind : NewObject) (r : Outcome) → slice_get w.ractors k ≡ Some m → w2.ractors ≡ slice_set w.ractors k m2 → w2.channels ≡ w.channels
    → StandsAt who k → Allocs kind r m m2 → HasOutcome (record { who = who; action = Alloc kind }) (reply_of r) w w2
allocated_by w w2 who k m m2 kind outcome.Done at rs is stands A = allocated w w2 k m m2 kind at A rs is who stands
allocated_by w w2 who k m m2 kind (outcome.Refused f) at rs is stands (why, same) =
    stays (record { who = who; action = Alloc kind }) (Refused f) w w2 (same_assembly w2.ractors w.ractors w2.channels w.channels (rs ∙ set_again w.ractors w.ractors k m2 m refl at same) is)
    (λ names g. (k, actor_in names k m, stands, actor_at w names g k m at, tt, (why, same_state (state_in w names g))))
allocated_by w w2 who k m m2 kind outcome.NotEnabled at rs is stands o = absurd o
