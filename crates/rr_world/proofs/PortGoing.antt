-- Last values are left in ports, and messages are grabbed out of them.
use Rattle.std.proofs.Common.{◌≡◌, ℕ, ◌+◌, ◌≤◌, Ok, Err, Bool, true, false, List, [], ◌∷◌, ◌++◌, length, Option, Some, None, slice_get, sym, ap, ◌∙◌, subst, refl, arith}
use Rattle.std.specs.Prelude.{Result, slice_set}
use Rattle.std.specs.Option.{option_map}
use Rattle.std.proofs.lemmas.Option.{same_Some}
use Rattle.rr_base.specs.declared.name.RactorNo.{RactorNo}
use Rattle.rr_base.specs.declared.fault.Fault.{Fault}
use Rattle.rr_base.specs.declared.fault.Fault.TheVariants as fault
use Rattle.rr_base.specs.declared.event.PortEvent.{PortEvent}
use Rattle.rr_base.specs.declared.event.PortEvent.TheVariants as event
use Rattle.rr_space.specs.Tables.{Packed}
use Rattle.rr_space.specs.Readings.{Hand, Shown, Naming, Objects}
use Rattle.rr_copy.specs.Messages.{size_of}
use Rattle.rr_port.specs.Answers.{Grabs}
use Rattle.rr_port.specs.Lasts.{message_of, is_fault, last_event}
use Rattle.rr_port.specs.Ports.{Port, IsTicketed}
use Rattle.rr_port.specs.declared.last.Grab.{Grab as Grabbed}
use Rattle.rr_port.specs.declared.last.Grab.TheVariants as grab
use Rattle.rr_port.specs.declared.last.LastGiven.{LastGiven}
use Rattle.rr_port.specs.declared.last.Shown.{Shown as ShownMessage}
use Rattle.rr_world.specs.Views.{Member, Channels, Assembly, IsFree, with_port}
use Rattle.rr_world.specs.Layouts.{shown_inside, last_inside}
use Rattle.rr_world.specs.Leaving.{last_as, told_of_grab}
use Rattle.rr_world.specs.PortCases.{is_of_fault, told_of}
use Rattle.rr_world.specs.States.{Farewell, Letter, Showcase, Parcel, with_case}
use Rattle.rr_world.specs.Readings.{actor_in, parcel_in, shown_in, farewell_in, showcase_in, post_in, state_in}
use Rattle.rr_world.specs.Enabling.{StandsAt, HasPort, MayLeave, IsPossible, Allows}
use Rattle.rr_world.specs.Cases.{IsOutcome}
use Rattle.rr_world.specs.Runs.{HasOutcome}
use Rattle.rr_world.specs.declared.step.LastKind.{LastKind}
use Rattle.rr_world.specs.declared.step.LastKind.TheVariants as kind
use Rattle.rr_world.specs.declared.step.Reply.{Reply}
use Rattle.rr_world.specs.declared.step.Step.{Step}
use Rattle.rr_world.specs.declared.step.Action.TheVariants.{ShowLast, Grab}
use Rattle.rr_world.specs.declared.step.Reply.TheVariants.{Done, Offered, GrabbedLast, Refused, Empty, EmptyAndClosed}
use Rattle.rr_world.proofs.Enabled.{actor_at, holds, free}
use Rattle.rr_world.proofs.Fitting.{fits_ported, shows_nothing, shows_same, waits_homeless, waits_same}
use Rattle.rr_world.proofs.Namings.{KeepsShared, parcel_same}
use Rattle.rr_world.proofs.PortHands.{came_in, went_out}
use Rattle.rr_world.proofs.PortInsides.{last_comes, last_leaves, last_entry, shown_leaves, shown_entry_of}
use Rattle.rr_world.proofs.PortTelling.{no_port, port_told, showcase_at}
use Rattle.rr_world.proofs.Staying.{same_state, stays, one_renamed}

told_as : (mark : LastKind) (t : ℕ) (who : RactorNo) (m : Packed) → last_event t who (last_as mark m) ≡ told_of mark t (size_of m) who
told_as kind.Value t who m = refl
told_as kind.Fault t who m = refl

pub message_as : (mark : LastKind) (m : Packed) → message_of (last_as mark m) ≡ m
message_as kind.Value m = refl
message_as kind.Fault m = refl

fault_as : (mark : LastKind) (m : Packed) → is_fault (last_as mark m) ≡ is_of_fault mark
fault_as kind.Value m = refl
fault_as kind.Fault m = refl

-- a port is what is in it
abbrev pub port_case : Option Letter → Option Farewell → Bool → Bool → ℕ → List PortEvent → ℕ → Showcase
port_case s l g c n h m = record { shown = s; last = l; given = g; closed = c; next = n; history = h; limit = m }

pub same_case : {s t : Option Letter} {l k : Option Farewell} {g i c d : Bool} {n o m q : ℕ} {h j : List PortEvent} → s ≡ t → l ≡ k → g ≡ i → c ≡ d → n ≡ o → h ≡ j → m ≡ q
    → port_case s l g c n h m ≡ port_case t k i d o j q
same_case {s} {t} {l} {k} {g} {i} {c} {d} {n} {o} {m} {q} {h} {j} e1 e2 e3 e4 e5 e6 e7 =
    ap (λ x. port_case x l g c n h m) e1 ∙ ap (λ x. port_case t x g c n h m) e2 ∙ ap (λ x. port_case t k x c n h m) e3 ∙ ap (λ x. port_case t k i x n h m) e4
    ∙ ap (λ x. port_case t k i d x h m) e5 ∙ ap (λ x. port_case t k i d o x m) e6 ∙ ap (λ x. port_case t k i d o j x) e7

shown_kept : (names names2 : Naming) (c t : ℕ) (s : Option ShownMessage) → ((f : ShownMessage) → s ≡ Some f → f.ticket ≡ t → ⊥) → ((u : ℕ) → (u ≡ t → ⊥) → names2 (Shown c u) ≡ names (Shown c u))
    → KeepsShared names names2 → option_map (shown_in names2 c) s ≡ option_map (shown_in names c) s
shown_kept names names2 c t None other own shared = refl
shown_kept names names2 c t (Some f) other own shared =
    ap (λ p. Some (let l : Letter = record { ticket = f.ticket; parcel = p } in l)) (parcel_same names names2 (Shown c f.ticket) f.message (own f.ticket (other f refl)) shared)

-- what a last value or fault leaves of a port
pub record IsLeftIn (who : RactorNo) (mark : LastKind) (m : Packed) (p p2 : Port) : Type 0 where
  pub unshut : p.closed ≡ false
  pub none : p.last ≡ None
  pub tickets : IsTicketed p
  pub shown : p2.shown ≡ p.shown
  pub last : p2.last ≡ Some (record { ticket = p.next; last = last_as mark m })
  pub given : p2.given ≡ true
  pub closed : p2.closed ≡ true
  pub next : p2.next ≡ p.next + 1
  pub history : p2.history ≡ p.history ++ last_event p.next who (last_as mark m) ∷ []
  pub limit : p2.limit ≡ p.limit

module _ (w w2 : Assembly) (who : RactorNo) (k : ℕ) (mark : LastKind) (m : Member) (p p2 : Port) (x : Packed) (at : slice_get w.ractors k ≡ Some m) (port : slice_get w.channels.ports k ≡ Some p)
    (held : m.hand ≡ Some x) (ungiven : p.given ≡ false) (stands : StandsAt who k) where
  may_leave : (names : Naming) (g : Objects) → MayLeave (state_in w names g) who
  may_leave names g = (k, showcase_in names k p, stands, showcase_at w names g k p port, ungiven)

  pub last_left : IsLeftIn who mark x p p2 → w2.ractors ≡ slice_set w.ractors k (record m { hand = None; home = None }) → w2.channels ≡ with_port w.channels k p2
      → HasOutcome (record { who = who; action = ShowLast mark }) (Offered p.next) w w2
  last_left A rs is names bound g R =
      let l : LastGiven = record { ticket = p.next; last = last_as mark x } in
      let held_last : m.hand ≡ Some (last_entry l).message = held ∙ ap (λ (y : Packed). Some y) (sym (message_as mark x)) in
      let q = came_in w w2 k k m None m.ticket p p2 (last_entry l) at port
      (fits_ported w w2 k k m (record m { hand = None; home = None }) p p2 at port rs (ap (λ (x : Channels). x.ports) is) (waits_homeless m (record m { hand = None; home = None }) refl) (shows_same p p2 A.shown)) held_last (last_comes p p2 l A.none A.shown A.last refl A.tickets) rs is names bound g R in
      let names2 = q.0 in
      let H = q.3 in
      let parcel : parcel_in names2 (Shown k p.next) (message_of l.last) ≡ parcel_in names (Hand k) x = H.parcel ∙ ap (parcel_in names (Hand k)) (message_as mark x) in
      let shown = ap (option_map (shown_in names2 k)) A.shown ∙ shown_kept names names2 k p.next p.shown (λ f e same. let lt = A.tickets.shown_below_next f e in absurd (omega (arith, lt, same))) H.rest H.kept in
      let last : option_map (farewell_in names2 k) p2.last ≡ Some (record { letter = record { ticket = p.next; parcel = parcel_in names (Hand k) x }; is_fault = is_of_fault mark }) =
      ap (option_map (farewell_in names2 k)) A.last
      ∙ ap (λ (y : Parcel). Some (let f : Farewell = record { letter = record { ticket = p.next; parcel = y }; is_fault = is_fault (last_as mark x) } in f)) parcel
      ∙ ap (λ b. Some (let f : Farewell = record { letter = record { ticket = p.next; parcel = parcel_in names (Hand k) x }; is_fault = b } in f)) (fault_as mark x) in
      let history : p2.history ≡ p.history ++ told_of mark p.next (size_of x) who ∷ [] = A.history ∙ ap (λ e. p.history ++ e ∷ []) (told_as mark p.next who x) in (
        names2,
        bound,
        q.1,
        q.2,
        (
          k,
          actor_in names k m,
          stands,
          actor_at w names g k m at,
          ((parcel_in names (Hand k) x, holds names k m x held), may_leave names g),
          (
            showcase_in names k p,
            parcel_in names (Hand k) x,
            (stands, showcase_at w names g k p port),
            holds names k m x held,
            record {
              unshut = A.unshut;
              ticket = refl;
              objects = H.objects;
              ractors = H.ractors;
              post = H.post ∙ ap (with_case (post_in names w.channels) k) (same_case shown last A.given A.closed A.next history A.limit);
            },
          ),
        ),
        one_renamed w (Shown k p.next) (record { who = who; action = ShowLast mark }) H.named stands (λ j e. let z : ⊥ = cc in z),
      )

  pub last_left_under : (t : ℕ) → t ≡ p.next → IsLeftIn who mark x p p2 → w2.ractors ≡ slice_set w.ractors k (record m { hand = None; home = None }) → w2.channels ≡ with_port w.channels k p2
      → HasOutcome (record { who = who; action = ShowLast mark }) (Offered t) w w2
  last_left_under t same A rs is = subst (λ u. HasOutcome (record { who = who; action = ShowLast mark }) (Offered u) w w2) (sym same) (last_left A rs is)

  -- it was closed; what came too late counts as given
  pub last_refused : (shut : p.closed ≡ true) → p2.shown ≡ p.shown → p2.last ≡ p.last → p2.given ≡ true → p2.closed ≡ true → p2.next ≡ p.next → p2.history ≡ p.history ++ event.Late (size_of x) who ∷ [] → p2.limit ≡ p.limit
      → w2.ractors ≡ w.ractors → w2.channels ≡ with_port w.channels k p2 → HasOutcome (record { who = who; action = ShowLast mark }) (Refused fault.Closed) w w2
  last_refused shut shown last given closed next history limit rs is =
      let inside = ap (λ s. shown_inside s ++ last_inside p2.last) shown ∙ ap (λ l. shown_inside p.shown ++ last_inside l) last in
      port_told w w2 k p p2 port inside shown rs is (record { who = who; action = ShowLast mark }) (Refused fault.Closed)
      (λ names g same. (
        k,
        actor_in names k m,
        stands,
        actor_at w names g k m at,
        ((parcel_in names (Hand k) x, holds names k m x held), may_leave names g),
        (
          showcase_in names k p,
          parcel_in names (Hand k) x,
          (stands, showcase_at w names g k p port),
          holds names k m x held,
          (
            shut,
            record {
              objects = same.objects;
              ractors = same.ractors;
              post = same.post
                  ∙ ap (with_case (post_in names w.channels) k) (same_case (ap (option_map (shown_in names k)) shown) (ap (option_map (farewell_in names k)) last) given (closed ∙ sym shut) next history limit);
            },
          ),
        ),
      ))

  pub last_refused_as : (f : Fault) → f ≡ fault.Closed → (shut : p.closed ≡ true) → p2.shown ≡ p.shown → p2.last ≡ p.last → p2.given ≡ true → p2.closed ≡ true → p2.next ≡ p.next
      → p2.history ≡ p.history ++ event.Late (size_of x) who ∷ [] → p2.limit ≡ p.limit → w2.ractors ≡ w.ractors → w2.channels ≡ with_port w.channels k p2 → HasOutcome (record { who = who; action = ShowLast mark }) (Refused f) w w2
  last_refused_as f is_closed shut shown last given closed next history limit rs is =
      subst (λ y. HasOutcome (record { who = who; action = ShowLast mark }) (Refused y) w w2) (sym is_closed) (last_refused shut shown last given closed next history limit rs is)

-- ---- Grabbing.

abbrev pair_of : Result (Packed × Reply) Reply → Packed × Reply → Packed × Reply
pair_of (Ok z) other = z
pair_of (Err e) other = other

module _ (w w2 : Assembly) (who to : RactorNo) (k c : ℕ) (m : Member) (p p2 : Port) (at : slice_get w.ractors k ≡ Some m) (port : slice_get w.channels.ports c ≡ Some p)
    (free_hand : IsFree m) (tickets : IsTicketed p) (stands : StandsAt who k) (there : StandsAt to c) (is : w2.channels ≡ with_port w.channels c p2) where
  has_port : (names : Naming) (g : Objects) → HasPort (state_in w names g) to
  has_port names g = (c, showcase_in names c p, there, showcase_at w names g c p port)

  value_grabbed : (x : Packed) → Grabs (grab.Value x) p p2 who → w2.ractors ≡ slice_set w.ractors k (record m { hand = Some x }) → HasOutcome (record { who = who; action = Grab to }) Done w w2
  value_grabbed x (f, same, none, unshut, shown, now) rs names bound g R =
      let rs_f : w2.ractors ≡ slice_set w.ractors k (record m { hand = Some f.message }) = rs ∙ ap (λ (y : Packed). slice_set w.ractors k (let z : Member = record m { hand = Some y } in z)) (sym same) in
      let q = went_out w w2 k c m m.ticket p p2 (shown_entry_of f) at port
      (fits_ported w w2 k c m (record m { hand = Some f.message }) p p2 at port rs_f (ap (λ (y : Channels). y.ports) is) (waits_same m (record m { hand = Some f.message }) refl refl) (shows_nothing p p2 (ap (λ (y : Port). y.shown) now)))
      free_hand.hand (shown_leaves p p2 f shown (ap (λ (y : Port). y.shown) now) (ap (λ (y : Port). y.last) now) tickets) rs_f is names bound g R in
      let H = q.3 in
      let h : p.history ++ event.Grabbed f.ticket (size_of x) who ∷ [] ≡ p.history ++ event.Grabbed f.ticket (size_of f.message) who ∷ [] = ap (λ (y : Packed). p.history ++ event.Grabbed f.ticket (size_of y) who ∷ []) (sym same) in
      let now_f : p2 ≡ record p { shown = None; history = p.history ++ event.Grabbed f.ticket (size_of f.message) who ∷ [] } = now ∙ ap (λ es. let y : Port = record p { shown = None; history = es } in y) h in (
        q.0,
        bound,
        q.1,
        q.2,
        (
          k,
          actor_in names k m,
          stands,
          actor_at w names g k m at,
          (free names k m free_hand, has_port names g),
          (
            c,
            showcase_in names c p,
            shown_in names c f,
            (there, showcase_at w names g c p port),
            ap (option_map (farewell_in names c)) none,
            unshut,
            ap (option_map (shown_in names c)) shown,
            record {
              objects = H.objects;
              ractors = H.ractors;
              post = H.post ∙ ap (λ (y : Port). with_case (post_in names w.channels) c (showcase_in names c y)) now_f;
            },
          ),
        ),
        one_renamed w (Hand k) (record { who = who; action = Grab to }) H.named stands (λ j e. let z : ⊥ = cc in z),
      )

  last_grabbed : (mark : LastKind) (x : Packed) (l : LastGiven) → message_of l.last ≡ x → is_fault l.last ≡ is_of_fault mark → p.last ≡ Some l → p2 ≡ record p { last = None; history = p.history ++ event.Grabbed l.ticket (size_of x) who ∷ [] }
      → w2.ractors ≡ slice_set w.ractors k (record m { hand = Some x }) → HasOutcome (record { who = who; action = Grab to }) (GrabbedLast mark) w w2
  last_grabbed mark x l same fault_is last now rs names bound g R =
      let rs_l : w2.ractors ≡ slice_set w.ractors k (record m { hand = Some (message_of l.last) }) = rs ∙ ap (λ (y : Packed). slice_set w.ractors k (let z : Member = record m { hand = Some y } in z)) (sym same) in
      let q = went_out w w2 k c m m.ticket p p2 (last_entry l) at port
      (fits_ported w w2 k c m (record m { hand = Some (message_of l.last) }) p p2 at port rs_l (ap (λ (y : Channels). y.ports) is) (waits_same m (record m { hand = Some (message_of l.last) }) refl refl) (shows_same p p2 (ap (λ (y : Port). y.shown) now)))
      free_hand.hand (last_leaves p p2 l last (ap (λ (y : Port). y.shown) now) (ap (λ (y : Port). y.last) now) tickets) rs_l is names bound g R in
      let H = q.3 in
      let h : p.history ++ event.Grabbed l.ticket (size_of x) who ∷ [] ≡ p.history ++ event.Grabbed l.ticket (size_of (message_of l.last)) who ∷ [] = ap (λ (y : Packed). p.history ++ event.Grabbed l.ticket (size_of y) who ∷ []) (sym same) in
      let now_l : p2 ≡ record p { last = None; history = p.history ++ event.Grabbed l.ticket (size_of (message_of l.last)) who ∷ [] } = now ∙ ap (λ es. let y : Port = record p { last = None; history = es } in y) h in (
        q.0,
        bound,
        q.1,
        q.2,
        (
          k,
          actor_in names k m,
          stands,
          actor_at w names g k m at,
          (free names k m free_hand, has_port names g),
          (
            c,
            showcase_in names c p,
            farewell_in names c l,
            (there, showcase_at w names g c p port),
            ap (option_map (farewell_in names c)) last,
            fault_is,
            record {
              objects = H.objects;
              ractors = H.ractors;
              post = H.post ∙ ap (λ (y : Port). with_case (post_in names w.channels) c (showcase_in names c y)) now_l;
            },
          ),
        ),
        one_renamed w (Hand k) (record { who = who; action = Grab to }) H.named stands (λ j e. let z : ⊥ = cc in z),
      )

  last_value_grabbed : (x : Packed) → Grabs (grab.LastValue x) p p2 who → w2.ractors ≡ slice_set w.ractors k (record m { hand = Some x }) → HasOutcome (record { who = who; action = Grab to }) (GrabbedLast kind.Value) w w2
  last_value_grabbed x (l, same, last, now) rs = last_grabbed kind.Value x l (ap message_of same) (ap is_fault same) last now rs

  last_fault_grabbed : (x : Packed) → Grabs (grab.LastFault x) p p2 who → w2.ractors ≡ slice_set w.ractors k (record m { hand = Some x }) → HasOutcome (record { who = who; action = Grab to }) (GrabbedLast kind.Fault) w w2
  last_fault_grabbed x (l, same, last, now) rs = last_grabbed kind.Fault x l (ap message_of same) (ap is_fault same) last now rs

  got : {r : Reply} {x y : Packed} {q : Reply} → (let z : Result (Packed × Reply) Reply = Ok (y, q) in z) ≡ Ok (x, r) → (w2.ractors ≡ slice_set w.ractors k (record m { hand = Some y }) → HasOutcome (record { who = who; action = Grab to }) q w w2)
      → w2.ractors ≡ slice_set w.ractors k (record m { hand = Some x }) → HasOutcome (record { who = who; action = Grab to }) r w w2
  got {r} {x} {y} {q} same so rs =
      let message : y ≡ x = ap (λ z. (pair_of z (y, q)).0) same in
      let reply : q ≡ r = ap (λ z. (pair_of z (y, q)).1) same in
      subst (λ z. HasOutcome (record { who = who; action = Grab to }) z w w2) reply (so (rs ∙ ap (λ (v : Packed). slice_set w.ractors k (let z : Member = record m { hand = Some v } in z)) (sym message)))

  -- what a port had came into the hand
  pub something_grabbed : (y : Grabbed) (x : Packed) (r : Reply) → told_of_grab y ≡ Ok (x, r) → Grabs y p p2 who → w2.ractors ≡ slice_set w.ractors k (record m { hand = Some x }) → HasOutcome (record { who = who; action = Grab to }) r w w2
  something_grabbed (grab.Value v) x r same had rs = got same (value_grabbed v had) rs
  something_grabbed (grab.LastValue v) x r same had rs = got same (last_value_grabbed v had) rs
  something_grabbed (grab.LastFault v) x r same had rs = got same (last_fault_grabbed v had) rs
  something_grabbed grab.Nothing x r same had rs = let z : ⊥ = cc in absurd z
  something_grabbed grab.Closed x r same had rs = let z : ⊥ = cc in absurd z

nothing_shown : (w : Assembly) (names : Naming) (g : Objects) (who to : RactorNo) (k c : ℕ) (m : Member) (p : Port) → slice_get w.ractors k ≡ Some m → slice_get w.channels.ports c ≡ Some p → IsFree m → StandsAt who k → StandsAt to c
    → p.last ≡ None → p.closed ≡ false → p.shown ≡ None → IsOutcome (record { who = who; action = Grab to }) Empty (state_in w names g) (state_in w names g)
nothing_shown w names g who to k c m p at port free_hand stands there none unshut shown = (
  k,
  actor_in names k m,
  stands,
  actor_at w names g k m at,
  (free names k m free_hand, (c, showcase_in names c p, there, showcase_at w names g c p port)),
  (c, showcase_in names c p, (there, showcase_at w names g c p port), ap (option_map (farewell_in names c)) none, unshut, ap (option_map (shown_in names c)) shown, same_state (state_in w names g)),
)

nothing_left : (w : Assembly) (names : Naming) (g : Objects) (who to : RactorNo) (k c : ℕ) (m : Member) (p : Port) → slice_get w.ractors k ≡ Some m → slice_get w.channels.ports c ≡ Some p → IsFree m → StandsAt who k → StandsAt to c
    → p.last ≡ None → p.closed ≡ true → IsOutcome (record { who = who; action = Grab to }) EmptyAndClosed (state_in w names g) (state_in w names g)
nothing_left w names g who to k c m p at port free_hand stands there none shut = (
  k,
  actor_in names k m,
  stands,
  actor_at w names g k m at,
  (free names k m free_hand, (c, showcase_in names c p, there, showcase_at w names g c p port)),
  (c, showcase_in names c p, (there, showcase_at w names g c p port), ap (option_map (farewell_in names c)) none, shut, same_state (state_in w names g)),
)

-- there was nothing, and all is as it was
pub nothing_grabbed : (w w2 : Assembly) (who to : RactorNo) (k c : ℕ) (m : Member) (p p2 : Port) (y : Grabbed) (r : Reply) → slice_get w.ractors k ≡ Some m → slice_get w.channels.ports c ≡ Some p → IsFree m → StandsAt who k → StandsAt to c
    → told_of_grab y ≡ Err r → Grabs y p p2 who → (p2 ≡ p → w2 ≡ w) → HasOutcome (record { who = who; action = Grab to }) r w w2
nothing_grabbed w w2 who to k c m p p2 (grab.Value v) r at port free_hand stands there same had back = let z : ⊥ = cc in absurd z
nothing_grabbed w w2 who to k c m p p2 (grab.LastValue v) r at port free_hand stands there same had back = let z : ⊥ = cc in absurd z
nothing_grabbed w w2 who to k c m p p2 (grab.LastFault v) r at port free_hand stands there same had back = let z : ⊥ = cc in absurd z
nothing_grabbed w w2 who to k c m p p2 grab.Nothing r at port free_hand stands there same had back =
    let reply : Empty ≡ r = cc in
    subst (λ z. HasOutcome (record { who = who; action = Grab to }) z w w2) reply
    (stays (record { who = who; action = Grab to }) Empty w w2 (back had.3) (λ names g. nothing_shown w names g who to k c m p at port free_hand stands there had.0 had.1 had.2))
nothing_grabbed w w2 who to k c m p p2 grab.Closed r at port free_hand stands there same had back =
    let reply : EmptyAndClosed ≡ r = cc in
    subst (λ z. HasOutcome (record { who = who; action = Grab to }) z w w2) reply
    (stays (record { who = who; action = Grab to }) EmptyAndClosed w w2 (back had.2) (λ names g. nothing_left w names g who to k c m p at port free_hand stands there had.0 had.1))

pub no_port_grabbed : (w : Assembly) (names : Naming) (g : Objects) (step : Step) (to : RactorNo) → step.action ≡ Grab to → ((k : ℕ) → StandsAt to k → length w.channels.ports ≤ k)
    → IsPossible (state_in w names g) step → ⊥
no_port_grabbed w names g step to is none (k, a, there, at, allows, tested) =
    no_port w names g to none (subst (λ x. Allows (state_in w names g) step.who a x) is allows).1

-- a ractor without a port, or whose port was given a last value, leaves none
pub no_own_port : (w : Assembly) (names : Naming) (g : Objects) (who : RactorNo) (k : ℕ) → length w.channels.ports ≤ k → StandsAt who k → MayLeave (state_in w names g) who → ⊥
no_own_port w names g who k le stands (j, b, there, at, ungiven) = no_port w names g who (λ i here. let same : i ≡ k = omega (arith, here, stands) in omega (arith, le, same)) (j, b, there, at)

pub not_left : (w : Assembly) (names : Naming) (g : Objects) (who : RactorNo) (k : ℕ) (p : Port) → slice_get w.channels.ports k ≡ Some p → p.given ≡ true → StandsAt who k → MayLeave (state_in w names g) who → ⊥
not_left w names g who k p at given stands (j, b, there, is, ungiven) =
    let same : j ≡ k = omega (arith, there, stands) in
    let one : b ≡ showcase_in names k p = same_Some _ _ (sym is ∙ ap (slice_get (state_in w names g).post.ports) same ∙ showcase_at w names g k p at) in
    let no : true ≡ false = sym given ∙ ap (λ (x : Showcase). x.given) (sym one) ∙ ungiven in
    let z : ⊥ = cc in z
