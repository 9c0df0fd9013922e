-- Messages are shown in ports, and come back.
use Rattle.std.proofs.Common.{◌≡◌, ℕ, ◌+◌, ◌≤◌, ◌⊎◌, ⊎_elim, inl, inr, false, List, [], ◌∷◌, ◌++◌, length, Option, Some, None, slice_get, sym, ap, ◌∙◌, subst, refl, arith, Ok, Err}
use Rattle.std.specs.Prelude.{slice_set}
use Rattle.std.specs.Option.{option_map, option_and_then, ForSome}
use Rattle.std.proofs.lemmas.List.{append-nil}
use Rattle.std.proofs.lemmas.Option.{none-some, same_Some, slice_get_within}
use Rattle.rr_base.specs.Flow.{count_of}
use Rattle.rr_base.specs.declared.name.RactorNo.{RactorNo}
use Rattle.rr_base.specs.declared.fault.Fault.{Fault}
use Rattle.rr_base.specs.declared.fault.Fault.TheVariants as fault
use Rattle.rr_base.specs.declared.event.PortEvent.{PortEvent}
use Rattle.rr_base.specs.declared.event.PortEvent.TheVariants as event
use Rattle.rr_space.specs.Tables.{Packed}
use Rattle.rr_space.specs.Readings.{Owner, Space, Hand, Mail, Shown, Shared, Naming, Objects}
use Rattle.rr_space.specs.Steps.{IsHandedOn}
use Rattle.rr_space.proofs.Frames.{reading_same}
use Rattle.rr_copy.specs.Messages.{size_of}
use Rattle.rr_move.specs.Homes.{IsHomeOf}
use Rattle.rr_move.specs.declared.home.Home.{Home}
use Rattle.rr_port.specs.Lasts.{is_fault, message_of}
use Rattle.rr_port.specs.Answers.{Refusal, IsShownUnder, Settles, Withdraws}
use Rattle.rr_port.specs.Ports.{Port, HasEvents, IsTicketed, told_of_show}
use Rattle.rr_port.specs.declared.last.LastGiven.{LastGiven}
use Rattle.rr_port.specs.declared.last.Settled.TheVariants as settled
use Rattle.rr_port.specs.declared.last.Shown.{Shown as ShownMessage}
use Rattle.rr_world.specs.Views.{Member, Channels, Assembly, MayHaveBack, IsOfAnother, waits_under, with_port, seen_slots}
use Rattle.rr_world.specs.Layouts.{cluster_slots, DoHomesFit, IsRead, MemberKnows, layout, space_slots, hand_slots, inbox_slots, port_slots, shown_inside, last_inside}
use Rattle.rr_world.specs.PortCases.{HasShowRoom, IsShowRefused, IsUnder, IsLetGo}
use Rattle.rr_world.specs.States.{Letter, Farewell, Showcase, Parcel, Post, Actor, IsSame, with_case}
use Rattle.rr_world.specs.Readings.{actor_in, each_from, parcel_in, shells_in, shown_in, farewell_in, showcase_in, post_in, state_in}
use Rattle.rr_world.specs.Enabling.{StandsAt, HasPort, MayShow, MayTakeBack}
use Rattle.rr_world.specs.Runs.{HasOutcome}
use Rattle.rr_world.specs.declared.step.Action.TheVariants.{Show, Withdraw, Settle}
use Rattle.rr_world.specs.declared.step.Reply.TheVariants.{Done, Offered, Refused, Settled}
use Rattle.rr_world.proofs.Enabled.{actor_at, holds, free, free_back, none_back}
use Rattle.rr_world.proofs.Fitting.{fits_ported, shows_nothing, waits_homeless, waits_no_more}
use Rattle.rr_world.proofs.Insides.{same_assembly}
use Rattle.rr_world.proofs.Knowing.{read_set}
use Rattle.rr_world.proofs.Lists.{eq_cases, each_set, seen_same, set_at, set_back, set_off}
use Rattle.rr_world.proofs.Namings.{KeepsShared, parcel_same}
use Rattle.rr_world.proofs.PortGoing.{same_case}
use Rattle.rr_world.proofs.PortHands.{came_in, went_out}
use Rattle.rr_world.proofs.PortInsides.{shown_comes, shown_leaves, shown_entry_of}
use Rattle.rr_world.proofs.PortTelling.{no_port, port_told, showcase_at}
use Rattle.rr_world.proofs.Staying.{same_state, stays, one_renamed}
use Rattle.rr_world.proofs.Holding.{same_rooted}

-- ---- Showing.

last_kept : (names names2 : Naming) (c t : ℕ) (l : Option LastGiven) → ((f : LastGiven) → l ≡ Some f → f.ticket ≡ t → ⊥) → ((u : ℕ) → (u ≡ t → ⊥) → names2 (Shown c u) ≡ names (Shown c u))
    → KeepsShared names names2 → option_map (farewell_in names2 c) l ≡ option_map (farewell_in names c) l
last_kept names names2 c t None other own shared = refl
last_kept names names2 c t (Some f) other own shared =
    ap (λ p. Some (let l : Farewell = record { letter = record { ticket = f.ticket; parcel = p }; is_fault = is_fault f.last } in l)) (parcel_same names names2 (Shown c f.ticket) (message_of f.last) (own f.ticket (other f refl)) shared)

waits_seen : (names : Naming) (k : ℕ) (home : Option Home) (t : ℕ) → waits_under home t ≡ waits_under (option_map (shells_in names k) home) t
waits_seen names k None t = refl
waits_seen names k (Some h) t = refl

count_seen : {A B : Type 0} (f : A → B) (x : Option A) → count_of (option_map f x) ≡ count_of x
count_seen f None = refl
count_seen f (Some x) = refl

room_seen : (names : Naming) (c : ℕ) (p : Port) → HasEvents p → HasShowRoom (showcase_in names c p)
room_seen names c p h = let a = count_seen (shown_in names c) p.shown in let b = count_seen (farewell_in names c) p.last in omega (arith, a, b, h)

no_room_seen : (names : Naming) (c : ℕ) (p : Port) → (HasEvents p → ⊥) → HasShowRoom (showcase_in names c p) → ⊥
no_room_seen names c p none h = none (let a = count_seen (shown_in names c) p.shown in let b = count_seen (farewell_in names c) p.last in omega (arith, a, b, h))

-- the home that stays is that of what is shown
fits_shown : (w w2 : Assembly) (k : ℕ) (m m2 : Member) (p p2 : Port) (e : ShownMessage) → slice_get w.ractors k ≡ Some m → slice_get w.channels.ports k ≡ Some p → w2.ractors ≡ slice_set w.ractors k m2
    → w2.channels.ports ≡ slice_set w.channels.ports k p2 → p2.shown ≡ Some e → ((h : Home) → m2.home ≡ Some h → IsHomeOf h e.message) → DoHomesFit w → DoHomesFit w2
fits_shown w w2 k m m2 p p2 e at port rs ps shown own fits j x y h f at2 port2 home ticket shown2 =
    let a = ap (λ zs. slice_get zs j) (sym rs) ∙ at2 in
    let b = ap (λ zs. slice_get zs j) (sym ps) ∙ port2 in
    ⊎_elim
    (λ one.
    let member_is : m2 ≡ x = same_Some m2 x (sym (set_at w.ractors k m2 (slice_get_within w.ractors k m at)) ∙ ap (slice_get (slice_set w.ractors k m2)) (sym one) ∙ a) in
    let port_is : p2 ≡ y = same_Some p2 y (sym (set_at w.channels.ports k p2 (slice_get_within w.channels.ports k p port)) ∙ ap (slice_get (slice_set w.channels.ports k p2)) (sym one) ∙ b) in
    let message_is : e ≡ f = same_Some e f (sym shown ∙ ap (λ (z : Port). z.shown) port_is ∙ shown2) in
    subst (λ (z : ShownMessage). IsHomeOf h z.message) message_is (own h (ap (λ (z : Member). z.home) member_is ∙ home)))
    (λ other. fits j x y h f (sym (set_off w.ractors k j m2 other) ∙ a) (sym (set_off w.channels.ports k j p2 other) ∙ b) home ticket shown2)
    (eq_cases j k)

-- what a showing leaves of a port
pub record IsShownIn (who : RactorNo) (m : Packed) (p p2 : Port) : Type 0 where
  pub room : HasEvents p
  pub unshut : p.closed ≡ false
  pub none : p.shown ≡ None
  pub tickets : IsTicketed p
  pub shown : p2.shown ≡ Some (record { ticket = p.next; message = m })
  pub last : p2.last ≡ p.last
  pub given : p2.given ≡ p.given
  pub closed : p2.closed ≡ p.closed
  pub next : p2.next ≡ p.next + 1
  pub history : p2.history ≡ p.history ++ event.Shown p.next (size_of m) who ∷ []
  pub limit : p2.limit ≡ p.limit

-- a port whose messages stay, with other events
pub record IsPortTold (p p2 : Port) (es : List PortEvent) : Type 0 where
  pub shown : p2.shown ≡ p.shown
  pub last : p2.last ≡ p.last
  pub given : p2.given ≡ p.given
  pub closed : p2.closed ≡ p.closed
  pub next : p2.next ≡ p.next
  pub history : p2.history ≡ p.history ++ es
  pub limit : p2.limit ≡ p.limit

told_case : (names : Naming) (c : ℕ) (p p2 : Port) (es : List PortEvent) → IsPortTold p p2 es → showcase_in names c p2 ≡ record (showcase_in names c p) { history = p.history ++ es }
told_case names c p p2 es t = same_case (ap (option_map (shown_in names c)) t.shown) (ap (option_map (farewell_in names c)) t.last) t.given t.closed t.next t.history t.limit

module _ (w w2 : Assembly) (who : RactorNo) (k : ℕ) (m : Member) (p p2 : Port) (x : Packed) (at : slice_get w.ractors k ≡ Some m) (port : slice_get w.channels.ports k ≡ Some p)
    (held : m.hand ≡ Some x) (none : p.shown ≡ None) (stands : StandsAt who k) where
  may_show : (names : Naming) (g : Objects) → MayShow (state_in w names g) who
  may_show names g = (k, showcase_in names k p, stands, showcase_at w names g k p port, ap (option_map (shown_in names k)) none)

  pub shown_under : (t : ℕ) → t ≡ p.next → IsShownIn who x p p2 → ForSome m.home (λ h. IsHomeOf h x) → w2.ractors ≡ slice_set w.ractors k (record m { hand = None; ticket = waits_under m.home t })
      → w2.channels ≡ with_port w.channels k p2 → HasOutcome (record { who = who; action = Show }) (Offered t) w w2
  shown_under t same A fits rs is names bound g R =
      let e : ShownMessage = record { ticket = p.next; message = x } in
      let m2 : Member = record m { hand = None; ticket = waits_under m.home t } in
      let q = came_in w w2 k k m m.home (waits_under m.home t) p p2 (shown_entry_of e) at port
      (fits_shown w w2 k m m2 p p2 e at port rs (ap (λ (z : Channels). z.ports) is) A.shown fits)
      held (shown_comes p p2 e none A.shown A.last refl A.tickets) rs is names bound g R in
      let names2 = q.0 in
      let H = q.3 in
      let shown : option_map (shown_in names2 k) p2.shown ≡ Some (record { ticket = t; parcel = parcel_in names (Hand k) x }) =
      ap (option_map (shown_in names2 k)) A.shown
      ∙ ap (λ (y : Parcel). Some (let l : Letter = record { ticket = p.next; parcel = y } in l)) H.parcel
      ∙ ap (λ u. Some (let l : Letter = record { ticket = u; parcel = parcel_in names (Hand k) x } in l)) (sym same) in
      let last = ap (option_map (farewell_in names2 k)) A.last ∙ last_kept names names2 k p.next p.last (λ l has under. let lt = A.tickets.last_below_next l has in absurd (omega (arith, lt, under))) H.rest H.kept in
      let history : p2.history ≡ p.history ++ event.Shown t (size_of x) who ∷ [] = A.history ∙ ap (λ u. p.history ++ event.Shown u (size_of x) who ∷ []) (sym same) in
      let waits = waits_seen names k m.home t in (
        names2,
        bound,
        q.1,
        q.2,
        (
          k,
          actor_in names k m,
          stands,
          actor_at w names g k m at,
          ((parcel_in names (Hand k) x, holds names k m x held), may_show names g),
          (
            showcase_in names k p,
            parcel_in names (Hand k) x,
            (stands, showcase_at w names g k p port),
            holds names k m x held,
            record {
              room = room_seen names k p A.room;
              unshut = A.unshut;
              ticket = same;
              objects = subst (λ u. IsHandedOn (Hand k) (Shown k u) g q.1) (sym same) H.objects;
              ractors = H.ractors ∙ ap (λ u. slice_set (state_in w names g).ractors k (let a : Actor = record (actor_in names k m) { hand = None; ticket = u } in a)) waits;
              post = H.post ∙ ap (with_case (post_in names w.channels) k) (same_case shown last A.given A.closed A.next history A.limit);
            },
          ),
        ),
        one_renamed w (Shown k p.next) (record { who = who; action = Show }) H.named stands (λ j e. let z : ⊥ = cc in z),
      )

  module _ (rs : w2.ractors ≡ w.ractors) (is : w2.channels ≡ with_port w.channels k p2) where
    -- the port is as it was
    back : (names : Naming) (g : Objects) → IsPortTold p p2 [] → IsSame (record (state_in w names g) { post = with_case (post_in names w.channels) k (showcase_in names k p2) }) (state_in w2 names g)
        → IsSame (state_in w names g) (state_in w2 names g)
    back names g t same = record {
      objects = same.objects;
      ractors = same.ractors;
      post = same.post
          ∙ ap (with_case (post_in names w.channels) k) (told_case names k p p2 [] t ∙ ap (λ es. let b : Showcase = record (showcase_in names k p) { history = es } in b) (append-nil p.history))
          ∙ ap (λ bs. let q : Post = record (post_in names w.channels) { ports = bs } in q) (set_back (each_from (showcase_in names) 0 w.channels.ports) k (showcase_in names k p) (showcase_at w names g k p port));
    }

    refused_in : (f : Fault) (b : Packed) → IsPortTold p p2 (told_of_show (Err (f, b)) who x)
        → ((names : Naming) (g : Objects) → IsSame (record (state_in w names g) { post = with_case (post_in names w.channels) k (showcase_in names k p2) }) (state_in w2 names g)
        → IsShowRefused who k (parcel_in names (Hand k) x) (showcase_in names k p) f (state_in w names g) (state_in w2 names g)) → HasOutcome (record { who = who; action = Show }) (Refused f) w w2
    refused_in f b t case =
        let inside = ap (λ s. shown_inside s ++ last_inside p2.last) t.shown ∙ ap (λ l. shown_inside p.shown ++ last_inside l) t.last in
        port_told w w2 k p p2 port inside t.shown rs is (record { who = who; action = Show }) (Refused f)
        (λ names g same. (
          k,
          actor_in names k m,
          stands,
          actor_at w names g k m at,
          ((parcel_in names (Hand k) x, holds names k m x held), may_show names g),
          (showcase_in names k p, parcel_in names (Hand k) x, (stands, showcase_at w names g k p port), holds names k m x held, case names g same),
        ))

    pub show_refused : (f : Fault) (b : Packed) → IsPortTold p p2 (told_of_show (Err (f, b)) who x) → Refusal f p → HasOutcome (record { who = who; action = Show }) (Refused f) w w2
    show_refused fault.HistoryFull b t why = refused_in fault.HistoryFull b t (λ names g same. (no_room_seen names k p why, back names g t same))
    show_refused fault.Memory b t why = refused_in fault.Memory b t (λ names g same. (room_seen names k p why, back names g t same))
    show_refused fault.Closed b t why = refused_in fault.Closed b t (λ names g same. (
      room_seen names k p why.0,
      why.1,
      record {
        objects = same.objects;
        ractors = same.ractors;
        post = same.post ∙ ap (with_case (post_in names w.channels) k) (told_case names k p p2 (event.Refused (size_of x) who ∷ []) t);
      },
    ))
    show_refused (fault.Syntax line column kind) b t why = absurd why
    show_refused (fault.Limit kind) b t why = absurd why
    show_refused fault.HoldsShell b t why = absurd why
    show_refused fault.NotMain b t why = absurd why
    show_refused fault.NotShareable b t why = absurd why
    show_refused (fault.Unknown name) b t why = absurd why
    show_refused fault.NotShown b t why = absurd why
    show_refused (fault.UsesOuter names) b t why = absurd why
    show_refused fault.UsesYield b t why = absurd why
    show_refused fault.StepLimit b t why = absurd why
    show_refused (fault.BadTrace line) b t why = absurd why
    show_refused fault.NotMine b t why = absurd why

-- ---- Not possible.

pub portless : (w : Assembly) (names : Naming) (g : Objects) (who : RactorNo) (k : ℕ) → length w.channels.ports ≤ k → StandsAt who k → HasPort (state_in w names g) who → ⊥
portless w names g who k le stands = no_port w names g who (λ i here. let same : i ≡ k = omega (arith, here, stands) in omega (arith, le, same))

pub no_place_to_show : (w : Assembly) (names : Naming) (g : Objects) (who : RactorNo) (k : ℕ) → length w.channels.ports ≤ k → StandsAt who k → MayShow (state_in w names g) who → ⊥
no_place_to_show w names g who k le stands (j, b, there, at, none) = portless w names g who k le stands (j, b, there, at)

pub shows_already : (w : Assembly) (names : Naming) (g : Objects) (who : RactorNo) (k : ℕ) (p : Port) → slice_get w.channels.ports k ≡ Some p → (p.shown ≡ None → ⊥) → StandsAt who k → MayShow (state_in w names g) who → ⊥
shows_already w names g who k p at shown stands (j, b, there, is, none) =
    let same : j ≡ k = omega (arith, there, stands) in
    let one : b ≡ showcase_in names k p = same_Some _ _ (sym is ∙ ap (slice_get (state_in w names g).post.ports) same ∙ showcase_at w names g k p at) in
    shown (none_back (shown_in names k) p.shown (ap (λ (x : Showcase). x.shown) (sym one) ∙ none))

pub have_back : (names : Naming) (k t : ℕ) (m : Member) → MayTakeBack (actor_in names k m) t → MayHaveBack m t
have_back names k t m may = ⊎_elim (λ f. inl (free_back names k m f)) (λ z. inr (record { hand = none_back (parcel_in names (Hand k)) m.hand z.0; ticket_is = z.1 })) may

have_seen : (names : Naming) (k t : ℕ) (m : Member) → MayHaveBack m t → MayTakeBack (actor_in names k m) t
have_seen names k t m may = ⊎_elim (λ f. inl (free names k m f)) (λ z. inr (ap (option_map (parcel_in names (Hand k))) z.hand, z.ticket_is)) may

-- ---- Withdrawing.

under_back : (names : Naming) (c t : ℕ) (s : Option ShownMessage) → IsUnder (option_map (shown_in names c) s) t → IsShownUnder s t
under_back names c t None under = under
under_back names c t (Some e) under = under

under_seen : (names : Naming) (c t : ℕ) (s : Option ShownMessage) → IsShownUnder s t → IsUnder (option_map (shown_in names c) s) t
under_seen names c t None under = under
under_seen names c t (Some e) under = under

ticket_cases : (x : Option ℕ) (t : ℕ) → (x ≡ Some t) ⊎ (x ≡ Some t → ⊥)
ticket_cases None t = inr (λ is. none-some t is)
ticket_cases (Some u) t = ⊎_elim (λ same. inl (ap (λ v. Some v) same)) (λ differ. inr (λ is. differ (same_Some u t is))) (eq_cases u t)

-- the ractor lets go of a home
module _ (w w2 : Assembly) (k : ℕ) (m m2 : Member) (t : ℕ) (at : slice_get w.ractors k ≡ Some m) (rs : w2.ractors ≡ slice_set w.ractors k m2) (is : w2.channels ≡ w.channels) where
  module _ (bare : m2 ≡ record m { home = None; ticket = None }) where
    tables : (h : Owner) → layout w2 h ≡ layout w h
    unfolding layout
    tables (Space j) = ap (λ xs. option_map space_slots (slice_get xs j)) rs ∙ seen_same (option_map space_slots) w.ractors k j m m2 at (ap (λ (x : Member). Some (seen_slots x)) bare)
    tables (Hand j) = ap (λ xs. option_and_then hand_slots (slice_get xs j)) rs ∙ seen_same (option_and_then hand_slots) w.ractors k j m m2 at (ap hand_slots bare)
    tables (Mail d u) = ap (λ (x : Channels). option_and_then (inbox_slots u) (slice_get x.inboxes d)) is
    tables (Shown d u) = ap (λ (x : Channels). option_and_then (port_slots u) (slice_get x.ports d)) is
    tables (Shared d) = ap (λ (x : Channels). option_map cluster_slots (slice_get x.store.clusters d)) is

    bare_read : (names : Naming) (bound : ℕ) (g : Objects) → IsRead w names bound g → IsRead w2 names bound g
    bare_read names bound g R =
        let K = R.knows.ractors k m at in
        read_set w w2 k m m2 at rs is (ap (λ (x : Member). x.space.owner) bare) (waits_homeless m m2 (ap (λ (x : Member). x.home) bare))
        (same_rooted m m2 (ap (λ (x : Member). length x.space.slots) bare) (ap (λ (x : Member). x.roots) bare) (R.held.roots k m at))
        (subst (MemberKnows (layout w)) (sym bare) (record { space = K.space; roots = K.roots; hand = K.hand; plan = K.plan; published = K.published; keyed = K.keyed })) R (reading_same (layout w) (layout w2) names bound g tables R.tables)

  pub let_go : (m.ticket ≡ Some t → m2 ≡ record m { home = None; ticket = None }) → ((m.ticket ≡ Some t → ⊥) → m2 ≡ m) → (names : Naming) (bound : ℕ) (g : Objects) → IsRead w names bound g
      → IsRead w2 names bound g × IsLetGo k (actor_in names k m) t (state_in w names g) (state_in w2 names g)
  let_go waited kept names bound g R = ⊎_elim
      (λ under. (
        bare_read (waited under) names bound g R,
        inl (
          under,
          record {
            objects = λ n. refl;
            ractors = ap (each_from (actor_in names) 0) rs ∙ each_set (actor_in names) (actor_in names) 0 w.ractors k k m2 (omega arith) (λ j n x d e f. refl)
                ∙ ap (λ (x : Member). slice_set (each_from (actor_in names) 0 w.ractors) k (actor_in names k x)) (waited under);
            post = ap (post_in names) is;
          },
        ),
      ))
      (λ other.
      let same : w2.ractors ≡ w.ractors = rs ∙ ap (slice_set w.ractors k) (kept other) ∙ set_back w.ractors k m at in
      let one : w2 ≡ w = same_assembly _ _ _ _ same is in (
        subst (λ (v : Assembly). IsRead v names bound g) (sym one) R,
        inr (other, record { objects = λ n. refl; ractors = ap (each_from (actor_in names) 0) same; post = ap (post_in names) is }),
      ))
      (ticket_cases m.ticket t)

module _ (w w2 : Assembly) (who : RactorNo) (k t : ℕ) (m : Member) (p : Port) (at : slice_get w.ractors k ≡ Some m) (port : slice_get w.channels.ports k ≡ Some p) (stands : StandsAt who k) where
  own_port : (names : Naming) (g : Objects) → HasPort (state_in w names g) who
  own_port names g = (k, showcase_in names k p, stands, showcase_at w names g k p port)

  -- a home fits what is shown under its ticket, in each reading
  never_strange : (names : Naming) (bound : ℕ) (g : Objects) (p2 : Port) (x : Packed) → IsRead w names bound g → Withdraws (Ok x) p p2 who t → IsOfAnother m t x → ⊥
  never_strange names bound g p2 x R (e, same, under, shown, now) other =
      let fits = R.fits k m p other.kept e at port other.home (other.ticket_is ∙ ap (λ u. Some u) (sym under)) shown in
      other.strange (subst (λ (y : Packed). IsHomeOf other.kept y) same fits)

  pub withdrawn : (p2 : Port) (x : Packed) → MayHaveBack m t → IsTicketed p → Withdraws (Ok x) p p2 who t
      → ((IsOfAnother m t x → ⊥) → w2.ractors ≡ slice_set w.ractors k (record m { hand = Some x; ticket = None }))
      → w2.channels ≡ with_port w.channels k p2 → HasOutcome (record { who = who; action = Withdraw t }) Done w w2
  withdrawn p2 x may tickets (e, same, under, shown, now) own is names bound g R =
      let rs = own (never_strange names bound g p2 x R (e, same, under, shown, now)) in
      let empty : m.hand ≡ None = ⊎_elim (λ f. f.hand) (λ z. z.hand) may in
      let m2 : Member = record m { hand = Some e.message; ticket = None } in
      let rs_e : w2.ractors ≡ slice_set w.ractors k m2 = rs ∙ ap (λ (y : Packed). slice_set w.ractors k (let z : Member = record m { hand = Some y; ticket = None } in z)) (sym same) in
      let h : p.history ++ event.Withdrawn e.ticket (size_of x) who ∷ [] ≡ p.history ++ event.Withdrawn e.ticket (size_of e.message) who ∷ [] = ap (λ (y : Packed). p.history ++ event.Withdrawn e.ticket (size_of y) who ∷ []) (sym same) in
      let now_e : p2 ≡ record p { shown = None; history = p.history ++ event.Withdrawn e.ticket (size_of e.message) who ∷ [] } = now ∙ ap (λ es. let y : Port = record p { shown = None; history = es } in y) h in
      let gone : p2.shown ≡ None = ap (λ (y : Port). y.shown) now in
      let q = went_out w w2 k k m None p p2 (shown_entry_of e) at port
      (fits_ported w w2 k k m m2 p p2 at port rs_e (ap (λ (y : Channels). y.ports) is) (waits_no_more m m2 refl) (shows_nothing p p2 gone))
      empty (shown_leaves p p2 e shown gone (ap (λ (y : Port). y.last) now) tickets) rs_e is names bound g R in
      let H = q.3 in (
        q.0,
        bound,
        q.1,
        q.2,
        (
          k,
          actor_in names k m,
          stands,
          actor_at w names g k m at,
          (have_seen names k t m may, own_port names g),
          (
            showcase_in names k p,
            shown_in names k e,
            (stands, showcase_at w names g k p port),
            ap (option_map (shown_in names k)) shown,
            under,
            record {
              objects = H.objects;
              ractors = H.ractors;
              post = H.post ∙ ap (λ (y : Port). with_case (post_in names w.channels) k (showcase_in names k y)) now_e;
            },
          ),
        ),
        one_renamed w (Hand k) (record { who = who; action = Withdraw t }) H.named stands (λ j e. let z : ⊥ = cc in z),
      )

  pub withdraw_refused : (m2 : Member) (p2 : Port) (f : Fault) → MayHaveBack m t → Withdraws (Err f) p p2 who t → (m.ticket ≡ Some t → m2 ≡ record m { home = None; ticket = None })
      → ((m.ticket ≡ Some t → ⊥) → m2 ≡ m) → w2.ractors ≡ slice_set w.ractors k m2 → w2.channels ≡ w.channels → HasOutcome (record { who = who; action = Withdraw t }) (Refused f) w w2
  withdraw_refused m2 p2 f may (fault_is, gone, now) waited kept rs is =
      subst (λ y. HasOutcome (record { who = who; action = Withdraw t }) (Refused y) w w2) (sym fault_is)
      (λ names bound g R.
      let q = let_go w w2 k m m2 t at rs is waited kept names bound g R in (
        names,
        bound,
        g,
        q.0,
        (
          k,
          actor_in names k m,
          stands,
          actor_at w names g k m at,
          (have_seen names k t m may, own_port names g),
          (showcase_in names k p, (stands, showcase_at w names g k p port), ((λ under. gone (under_back names k t p.shown under)), q.1)),
        ),
        record { others = λ h off. refl; slots = λ j x i there lt off. refl },
      ))

  -- ---- Settling.

  pub settled_taken : (m2 : Member) → Settles settled.Taken p t → (m.ticket ≡ Some t → m2 ≡ record m { home = None; ticket = None }) → ((m.ticket ≡ Some t → ⊥) → m2 ≡ m)
      → w2.ractors ≡ slice_set w.ractors k m2 → w2.channels ≡ w.channels → HasOutcome (record { who = who; action = Settle t }) (Settled settled.Taken) w w2
  settled_taken m2 gone waited kept rs is names bound g R =
      let q = let_go w w2 k m m2 t at rs is waited kept names bound g R in (
        names,
        bound,
        g,
        q.0,
        (
          k,
          actor_in names k m,
          stands,
          actor_at w names g k m at,
          own_port names g,
          (showcase_in names k p, (stands, showcase_at w names g k p port), ((λ under. gone (under_back names k t p.shown under)), q.1)),
        ),
        record { others = λ h off. refl; slots = λ j x i there lt off. refl },
      )

  pub settled_shown : Settles settled.Shown p t → w2 ≡ w → HasOutcome (record { who = who; action = Settle t }) (Settled settled.Shown) w w2
  settled_shown so same = stays (record { who = who; action = Settle t }) (Settled settled.Shown) w w2 same
      (λ names g. (
        k,
        actor_in names k m,
        stands,
        actor_at w names g k m at,
        own_port names g,
        (showcase_in names k p, (stands, showcase_at w names g k p port), (under_seen names k t p.shown so.0, so.1, same_state (state_in w names g))),
      ))

  pub settled_closed : Settles settled.Closed p t → w2 ≡ w → HasOutcome (record { who = who; action = Settle t }) (Settled settled.Closed) w w2
  settled_closed so same = stays (record { who = who; action = Settle t }) (Settled settled.Closed) w w2 same
      (λ names g. (
        k,
        actor_in names k m,
        stands,
        actor_at w names g k m at,
        own_port names g,
        (showcase_in names k p, (stands, showcase_at w names g k p port), (under_seen names k t p.shown so.0, so.1, same_state (state_in w names g))),
      ))
