-- A ractor starts, and its inbox with it.
use Rattle.std.proofs.Common.{◌≡◌, ℕ, zero, suc, ◌+◌, ◌≤◌, ◌⊎◌, ⊎_elim, inl, inr, List, [], ◌∷◌, ◌++◌, length, length-append, map, Option, Some, None, slice_get, Contains, sym, ap, ◌∙◌, subst, refl, arith, ◌<◌}
use Rattle.std.specs.Prelude.{slice_index}
use Rattle.std.specs.Option.{option_map, option_and_then}
use Rattle.std.proofs.lemmas.Option.{none-some, same_Some, slice_get_within}
use Rattle.rr_base.specs.declared.fault.Fault.{Fault}
use Rattle.rr_base.specs.declared.fault.Fault.TheVariants as fault
use Rattle.rr_base.specs.declared.limits.LimitKind.TheVariants as kind
use Rattle.rr_base.specs.declared.limits.Limits.{Limits}
use Rattle.rr_base.specs.declared.name.RactorNo.{RactorNo}
use Rattle.rr_space.specs.Tables.{Here, Led, Below, joined}
use Rattle.rr_space.specs.Readings.{Owner, Space, Hand, Mail, Shown, Shared, Owned, Objects, Naming, Layout, IsReading, Knows}
use Rattle.rr_space.specs.Steps.{Remakes, IsRemade, IsNamed}
use Rattle.rr_space.proofs.Frames.{owner_cases}
use Rattle.rr_space.proofs.Remaking.{remaking_is_a_step}
use Rattle.rr_space.proofs.Sounds.{none_in}
use Rattle.rr_space.specs.Parts.{below_ref}
use Rattle.rr_inbox.specs.Inboxes.{Inbox, new_inbox}
use Rattle.rr_port.specs.Ports.{Port, new_port}
use Rattle.rr_store.specs.Stores.{constant_of}
use Rattle.rr_world.specs.Views.{Member, Channels, Assembly, AreRootsWithin}
use Rattle.rr_world.specs.Layouts.{cluster_slots, layout, space_slots, hand_slots, inbox_slots, port_slots, port_inside, message_slots, MemberKnows, IsKnowing, AreOwned, DoHomesFit, HaveInboxes, HavePorts, IsRead, IsHeldWithin}
use Rattle.rr_world.specs.States.{Actor}
use Rattle.rr_world.specs.Readings.{each_from, actor_in, shells_in, planned_in, published_names, mailbox_in, showcase_in, parcel_in, root_in, post_in, state_in}
use Rattle.rr_world.specs.Enabling.{StandsAt}
use Rattle.rr_world.specs.ObjectCases.{IsStarted, new_actor, new_mailbox, new_showcase}
use Rattle.rr_world.specs.Starting.{IsBegun}
use Rattle.rr_world.specs.Runs.{HasOutcome}
use Rattle.rr_world.specs.declared.step.Action.TheVariants.{Start}
use Rattle.rr_world.specs.declared.step.Reply.TheVariants.{Started, Refused}
use Rattle.rr_world.proofs.Forwarding.{seen_plain}
use Rattle.rr_world.proofs.Enabled.{actor_at}
use Rattle.rr_world.proofs.Knowing.{order_on, knows_on, member_on, message_on}
use Rattle.rr_world.proofs.Lists.{each_same}
use Rattle.rr_world.proofs.Namings.{actor_same, same_actor, archive_same, mailbox_same, ports_same, same_post}
use Rattle.rr_world.proofs.Staying.{stays, same_state}
use Rattle.rr_world.proofs.KeyTables.{no_keys}
use Rattle.rr_world.specs.Naming.{IsRenamed}
use Rattle.rr_space.specs.declared.refer.Ref.{Ref}

-- what stands in a list with one more
pub last_cases : {A : Type 0} (xs : List A) (y : A) (j : ℕ) (z : A) → slice_get (xs ++ y ∷ []) j ≡ Some z → (slice_get xs j ≡ Some z) ⊎ ((j ≡ length xs) × (y ≡ z))
last_cases [] y zero z e = inr (refl, same_Some y z e)
last_cases [] y (suc j) z e = absurd (none-some z e)
last_cases (x ∷ xs) y zero z e = inl e
last_cases (x ∷ xs) y (suc j) z e = ⊎_elim (λ old. inl old) (λ new. inr (let w : suc j ≡ suc (length xs) = ap suc new.0 in w, new.1)) (last_cases xs y j z e)

pub before_last : {A : Type 0} (xs : List A) (y : A) (j : ℕ) → (j ≡ length xs → ⊥) → slice_get (xs ++ y ∷ []) j ≡ slice_get xs j
before_last [] y zero differ = absurd (differ refl)
before_last [] y (suc j) differ = refl
before_last (x ∷ xs) y zero differ = refl
before_last (x ∷ xs) y (suc j) differ = before_last xs y j (λ e. differ (ap suc e))

pub at_last : {A : Type 0} (xs : List A) (y : A) → slice_get (xs ++ y ∷ []) (length xs) ≡ Some y
at_last [] y = refl
at_last (x ∷ xs) y = at_last xs y

pub none_behind : {A : Type 0} (xs : List A) → slice_get xs (length xs) ≡ None
none_behind [] = refl
none_behind (x ∷ xs) = none_behind xs

-- what is seen of a list stays, where nothing is seen of the one more
seen_more : {A B : Type 0} (f : Option A → Option B) (xs : List A) (y : A) (j : ℕ) → f None ≡ None → f (Some y) ≡ None → f (slice_get (xs ++ y ∷ []) j) ≡ f (slice_get xs j)
seen_more f [] y zero none one = one ∙ sym none
seen_more f [] y (suc j) none one = refl
seen_more f (x ∷ xs) y zero none one = refl
seen_more f (x ∷ xs) y (suc j) none one = seen_more f xs y j none one

each_length : {A B : Type 0} (f : ℕ → A → B) (k : ℕ) (xs : List A) → length (each_from f k xs) ≡ length xs
each_length f k [] = refl
each_length f k (x ∷ xs) = ap suc (each_length f (k + 1) xs)

each_append : {A B : Type 0} (f : ℕ → A → B) (k n : ℕ) (xs : List A) (y : A) → n ≡ k + length xs → each_from f k (xs ++ y ∷ []) ≡ each_from f k xs ++ f n y ∷ []
each_append f k n [] y e = ap (λ i. f i y ∷ []) (let w : k ≡ n = omega arith in w)
each_append f k n (x ∷ xs) y e = ap (λ ys. f k x ∷ ys) (each_append f (k + 1) n xs y (omega arith))

-- a table that is made anew, empty, where there was none, leaves all objects
pub remade_empty : (h : Owner) (old new : Layout) (names names2 : Naming) (bound bound2 : ℕ) (g g2 : Objects) → Remakes h 0 [] [] old new → old h ≡ None → IsReading old names bound g
    → IsReading new names2 bound2 g2 → IsNamed h names names2 → IsRemade h [] [] names names2 g g2 → (j : ℕ) → g2 j ≡ g j
remade_empty h old new names names2 bound bound2 g g2 E was R S N M j = by (g j) refl
  where
    none_new : (y : Owned) → g j ≡ None → g2 j ≡ Some y → ⊥
    none_new y none e =
        let st = S.only j y e in
        ⊎_elim
        (λ mine.
        let t_is : st.table ≡ [] = same_Some _ _ (sym st.is_table ∙ ap new mine ∙ E.now) in
        none-some (Here st.raw) (ap (λ t. slice_get t st.place) (sym t_is) ∙ st.is_raw))
        (λ other.
        let before : old y.owner ≡ Some st.table = sym (E.rest y.owner other) ∙ st.is_table in
        let there = (R.reads y.owner st.table before).here st.place st.raw st.is_raw in
        let name_is = ap (λ ns. slice_index ns st.place) (sym (N.rest y.owner other)) ∙ st.is_name in
        none-some _ (sym none ∙ ap g (sym name_is) ∙ there))
        (owner_cases y.owner h)

    by : (x : Option Owned) → g j ≡ x → g2 j ≡ g j
    by (Some x) e = M.others j x e (λ mine. let st = R.only j x e in none-some st.table (sym was ∙ ap old (sym mine) ∙ st.is_table)) ∙ sym e
    by None e = on (g2 j) refl ∙ sym e
      where
        on : (x : Option Owned) → g2 j ≡ x → g2 j ≡ None
        on None q = q
        on (Some y) q = absurd (none_new y e q)

nothing_known : (tables : Layout) (b : Below) → b ≡ [] → Knows b tables
nothing_known tables b none = record { known = λ c os has. absurd (none_in (c, os) (subst (λ x. Contains x (c, os)) none has)) }

-- a ractor without objects, roots and message knows of no cluster
pub bare_knows : (tables : Layout) (m : Member) → m.space.slots ≡ [] → m.space.below ≡ [] → m.roots ≡ [] → m.hand ≡ None → m.plan ≡ None → m.published ≡ None → MemberKnows tables m
bare_knows tables m slots below roots hand plan published = record {
  space = nothing_known tables (joined m.space.below) (ap joined below);
  roots = λ r has. absurd (none_in r (subst (λ xs. Contains xs r) roots has));
  hand = λ p e. absurd (none-some p (sym hand ∙ e));
  plan = λ p e. absurd (none-some p (sym plan ∙ e));
  published = λ p e. absurd (none-some p (sym published ∙ e));
  keyed = no_keys tables m.space.slots m.space.keys slots;
}

module _ (w w2 : Assembly) (limits : Limits) (m2 : Member) (A : IsBegun limits (length w.ractors + 1) m2) (rs : w2.ractors ≡ w.ractors ++ m2 ∷ []) (is : w2.channels ≡ record w.channels { inboxes = w.channels.inboxes ++ new_inbox limits.events ∷ []; ports = w.channels.ports ++ new_port limits.events ∷ [] }) where
  abbrev place : ℕ
  place = length w.ractors

  rest : (h : Owner) → (h ≡ Space place → ⊥) → layout w2 h ≡ layout w h
  unfolding layout
  rest (Space j) q = ap (λ xs. option_map space_slots (slice_get xs j)) rs ∙ ap (option_map space_slots) (before_last w.ractors m2 j (λ e. q (ap Space e)))
  rest (Hand j) q = ap (λ xs. option_and_then hand_slots (slice_get xs j)) rs ∙ seen_more (option_and_then hand_slots) w.ractors m2 j refl (ap (option_map message_slots) A.hand)
  rest (Mail d u) q = ap (λ (x : Channels). option_and_then (inbox_slots u) (slice_get x.inboxes d)) is ∙ seen_more (option_and_then (inbox_slots u)) w.channels.inboxes (new_inbox limits.events) d refl refl
  rest (Shown d u) q = ap (λ (x : Channels). option_and_then (port_slots u) (slice_get x.ports d)) is ∙ seen_more (option_and_then (port_slots u)) w.channels.ports (new_port limits.events) d refl refl
  rest (Shared d) q = ap (λ (x : Channels). option_map cluster_slots (slice_get x.store.clusters d)) is

  was : layout w (Space place) ≡ None
  unfolding layout
  was = ap (option_map space_slots) (none_behind w.ractors)

  now : layout w2 (Space place) ≡ Some []
  unfolding layout
  now = ap (λ xs. option_map space_slots (slice_get xs place)) rs ∙ ap (option_map space_slots) (at_last w.ractors m2) ∙ ap (λ ss. Some ss) (seen_plain m2 A.published ∙ A.slots)

  space_apart : (c : ℕ) → Space place ≡ Shared c → ⊥
  space_apart c e = cc

  remakes : Remakes (Space place) 0 [] [] (layout w) (layout w2)
  remakes = record {
    was = inr (was, refl);
    now = now;
    rest = rest;
    unshared = space_apart;
    size = refl;
    kept_here = λ i o e. absurd (none-some (Here o) e);
    kept_led = λ i c q e. absurd (none-some (Led c q) e);
    fresh_here = λ i c q e. absurd (none-some (Led c q) e);
    sound = record { within = λ i o l x e has. absurd (none-some (Here o) e); led = λ i c q e. absurd (none-some (Led c q) e) };
  }

  module _ (names : Naming) (bound : ℕ) (g : Objects) (R : IsRead w names bound g) (names2 : Naming) (g2 : Objects) (after_reading : IsReading (layout w2) names2 (bound + 0) g2)
      (N : IsNamed (Space place) names names2) (M : IsRemade (Space place) [] [] names names2 g g2) where
    kept_shared : (c : ℕ) → names2 (Shared c) ≡ names (Shared c)
    kept_shared c = N.rest (Shared c) (λ e. space_apart c (sym e))

    objects : (j : ℕ) → g2 j ≡ g j
    objects = remade_empty (Space place) (layout w) (layout w2) names names2 bound (bound + 0) g g2 remakes was R.tables after_reading N M

    new_one : actor_in names2 place m2 ≡ new_actor limits
    new_one = same_actor (ap (map (root_in names2 (Space place))) A.roots) (ap (option_map (parcel_in names2 (Hand place))) A.hand) (ap (option_map (shells_in names2 place)) A.home) A.ticket (ap (option_map (planned_in names2 place)) A.plan) (ap (option_map (published_names names2 place)) A.published)
        (ap length A.slots) A.limit A.next A.run A.runs

    started : (number : RactorNo) (a : Actor) → a.limits ≡ limits → length w.ractors < a.limits.ractors → StandsAt number place → IsStarted number a (state_in w names g) (state_in w2 names2 g2)
    started number a same room stands = record {
      room = omega (arith, room, each_length (actor_in names) 0 w.ractors);
      next = subst (StandsAt number) (sym (each_length (actor_in names) 0 w.ractors)) stands;
      objects = objects;
      ractors = ap (each_from (actor_in names2) 0) rs
          ∙ each_append (actor_in names2) 0 place w.ractors m2 (omega arith)
          ∙ ap (λ xs. xs ++ actor_in names2 place m2 ∷ []) (each_same (actor_in names) (actor_in names2) 0 w.ractors
          (λ j i x e at. actor_same names names2 i x (N.rest (Space i) (λ z. let lt = slice_get_within w.ractors j x at in let y : i ≡ place = cc in absurd (omega arith)))
          (N.rest (Hand i) (λ z. let y : ⊥ = cc in y)) kept_shared))
          ∙ ap (λ x. each_from (actor_in names) 0 w.ractors ++ x ∷ []) (new_one ∙ ap new_actor (sym same));
      post = ap (post_in names2) is
          ∙ same_post
          (each_append (mailbox_in names2) 0 (length w.channels.inboxes) w.channels.inboxes (new_inbox limits.events) (omega arith)
          ∙ ap (λ xs. xs ++ mailbox_in names2 (length w.channels.inboxes) (new_inbox limits.events) ∷ []) (each_same (mailbox_in names) (mailbox_in names2) 0 w.channels.inboxes
          (λ j i x e at. mailbox_same names names2 i x (λ y has. N.rest (Mail i y.ticket) (λ z. let f : ⊥ = cc in f)) kept_shared))
          ∙ ap (λ (l : Limits). each_from (mailbox_in names) 0 w.channels.inboxes ++ new_mailbox l ∷ []) (sym same))
          (each_append (showcase_in names2) 0 (length w.channels.ports) w.channels.ports (new_port limits.events) (omega arith)
          ∙ ap (λ xs. xs ++ showcase_in names2 (length w.channels.ports) (new_port limits.events) ∷ []) (ports_same names names2 w.channels.ports (λ c u. N.rest (Shown c u) (λ z. let f : ⊥ = cc in f)) kept_shared)
          ∙ ap (λ (l : Limits). each_from (showcase_in names) 0 w.channels.ports ++ new_showcase l ∷ []) (sym same))
          (archive_same names names2 w.channels.store kept_shared);
    }

  more_knows : IsKnowing w → IsKnowing w2
  more_knows K = record {
    ractors = λ j m at. member_on w w2 (ap (λ (x : Channels). x.store.clusters) is) m (⊎_elim (λ old. K.ractors j m old) (λ new. subst (MemberKnows (layout w)) new.1 (bare_knows (layout w) m2 A.slots A.below A.roots A.hand A.plan A.published)) (last_cases w.ractors m2 j m (ap (λ xs. slice_get xs j) (sym rs) ∙ at)));
    store = λ n v here. knows_on w w2 (ap (λ (x : Channels). x.store.clusters) is) (below_ref v) (K.store n v (ap (λ (x : Channels). constant_of x.store n) (sym is) ∙ here));
    inboxes = λ c i e at has. message_on w w2 (ap (λ (x : Channels). x.store.clusters) is) e.message (⊎_elim
        (λ old. K.inboxes c i e old has)
        (λ new. absurd (none_in e (subst (λ (x : Inbox). Contains x.inside e) (sym new.1) has)))
        (last_cases w.channels.inboxes (new_inbox limits.events) c i (ap (λ (x : Channels). slice_get x.inboxes c) (sym is) ∙ at)));
    ports = λ c p e at has. message_on w w2 (ap (λ (x : Channels). x.store.clusters) is) e.message (⊎_elim
        (λ old. K.ports c p e old has)
        (λ new. absurd (none_in e (subst (λ (x : Port). Contains (port_inside x) e) (sym new.1) has)))
        (last_cases w.channels.ports (new_port limits.events) c p (ap (λ (x : Channels). slice_get x.ports c) (sym is) ∙ at)));
  }

  more_owned : AreOwned w → AreOwned w2
  more_owned all j m at = ⊎_elim
      (λ old. all j m old)
      (λ new. ap (λ (x : Member). x.space.owner) (sym new.1) ∙ A.owner ∙ ap (λ n. n + 1) (sym new.0))
      (last_cases w.ractors m2 j m (ap (λ xs. slice_get xs j) (sym rs) ∙ at))

  more_held : IsHeldWithin w → IsHeldWithin w2
  more_held H = record {
    roots = λ j m at. ⊎_elim
        (λ old. H.roots j m old)
        (λ new. subst (λ (x : Member). AreRootsWithin (length x.space.slots) x.roots) new.1 (subst (λ (xs : List Ref). AreRootsWithin (length m2.space.slots) xs) (sym A.roots) tt))
        (last_cases w.ractors m2 j m (ap (λ xs. slice_get xs j) (sym rs) ∙ at));
    inboxes = λ c i at e has. ⊎_elim
        (λ old. H.inboxes c i old e has)
        (λ new. absurd (none_in e (subst (λ (x : Inbox). Contains x.inside e) (sym new.1) has)))
        (last_cases w.channels.inboxes (new_inbox limits.events) c i (ap (λ (x : Channels). slice_get x.inboxes c) (sym is) ∙ at));
    ports = λ c p at e has. ⊎_elim
        (λ old. H.ports c p old e has)
        (λ new. absurd (none_in e (subst (λ (x : Port). Contains (port_inside x) e) (sym new.1) has)))
        (last_cases w.channels.ports (new_port limits.events) c p (ap (λ (x : Channels). slice_get x.ports c) (sym is) ∙ at));
  }

  more_inboxes : HaveInboxes w → HaveInboxes w2
  more_inboxes even = ap (λ (x : Channels). length x.inboxes) is ∙ length-append w.channels.inboxes (new_inbox limits.events ∷ []) ∙ ap (λ n. n + 1) even
      ∙ sym (length-append w.ractors (m2 ∷ [])) ∙ sym (ap length rs)

  more_ports : HavePorts w → HavePorts w2
  more_ports even = ap (λ (x : Channels). length x.ports) is ∙ length-append w.channels.ports (new_port limits.events ∷ []) ∙ ap (λ n. n + 1) even
      ∙ sym (length-append w.ractors (m2 ∷ [])) ∙ sym (ap length rs)

  more_fits : DoHomesFit w → DoHomesFit w2
  more_fits fits j m p h e at port home ticket shown = ⊎_elim
      (λ old. ⊎_elim
      (λ was. fits j m p h e old was home ticket shown)
      (λ new. absurd (none-some e (ap (λ (x : Port). x.shown) new.1 ∙ shown)))
      (last_cases w.channels.ports (new_port limits.events) j p (ap (λ (x : Channels). slice_get x.ports j) (sym is) ∙ port)))
      (λ new. absurd (none-some h (sym A.home ∙ ap (λ (x : Member). x.home) new.1 ∙ home)))
      (last_cases w.ractors m2 j m (ap (λ xs. slice_get xs j) (sym rs) ∙ at))

  -- the ractor at k, whose limits these are, starts another
  pub begun : (who number : RactorNo) (k : ℕ) (m : Member) → slice_get w.ractors k ≡ Some m → m.limits ≡ limits → length w.ractors < m.limits.ractors → StandsAt who k → StandsAt number place
      → HasOutcome (record { who = who; action = Start }) (Started number) w w2
  begun who number k m at same room stands next names bound g R =
      let q = remaking_is_a_step (Space place) 0 [] [] (layout w) (layout w2) names bound g remakes R.tables in (
        q.0,
        bound + 0,
        q.1,
        record { tables = q.2; knows = more_knows R.knows; owned = more_owned R.owned; held = more_held R.held; inboxes = more_inboxes R.inboxes; ports = more_ports R.ports; fits = more_fits R.fits; clusters = order_on w w2 (ap (λ (x : Channels). x.store.clusters) is) R.clusters },
        (k, actor_in names k m, stands, actor_at w names g k m at, tt, started names bound g R q.0 q.1 q.2 q.3 q.4 number (actor_in names k m) same room next),
        record {
          others = λ h off. q.3.rest h (λ e. off (subst (IsRenamed w who Start) (sym e) refl));
          slots = λ j x i there lt off. ap (λ ns. slice_index ns i) (q.3.rest (Space j) (λ e. let less = slice_get_within w.ractors j x there in let same : j ≡ place = cc in omega (arith, less, same)));
        },
      )

-- a refused start
pub start_refused : (w w2 : Assembly) (who : RactorNo) (k : ℕ) (m : Member) (f : Fault) → slice_get w.ractors k ≡ Some m → w2 ≡ w → StandsAt who k
    → ((f ≡ fault.Memory) × (length w.ractors < m.limits.ractors)) ⊎ ((f ≡ fault.Limit kind.Ractors) × (m.limits.ractors ≤ length w.ractors)) → HasOutcome (record { who = who; action = Start }) (Refused f) w w2
start_refused w w2 who k m f at same stands why =
    stays (record { who = who; action = Start }) (Refused f) w w2 same
    (λ names g. (
      k,
      actor_in names k m,
      stands,
      actor_at w names g k m at,
      tt,
      (
        ⊎_elim (λ z. inl (z.0, let lt = z.1 in omega (arith, lt, each_length (actor_in names) 0 w.ractors))) (λ z. inr (z.0, let le = z.1 in omega (arith, le, each_length (actor_in names) 0 w.ractors))) why,
        same_state (state_in w names g),
      ),
    ))
