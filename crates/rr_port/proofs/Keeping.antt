-- What each call keeps.
use Rattle.std.proofs.Common.{◌≡◌, ℕ, ◌+◌, ◌≤◌, [], ◌∷◌, ◌++◌, length, length-append, cond, refl, ap, arith, Bool, true, false, Option, Some, None, inl, inr}
use Rattle.std.specs.Option.{option_map}
use Rattle.rr_base.specs.declared.name.RactorNo.{RactorNo}
use Rattle.rr_base.specs.declared.event.PortEvent.TheVariants as event
use Rattle.rr_base.specs.Port.{PortStep, empty_port}
use Rattle.rr_base.specs.Flow.{count_of}
use Rattle.rr_base.specs.Replay.{Replays}
use Rattle.rr_base.specs.Tickets.{HasOwnTickets}
use Rattle.rr_base.proofs.Replaying.{replays_more}
use Rattle.rr_base.proofs.Ticketing.{port_differs}
use Rattle.rr_space.specs.Tables.{Packed}
use Rattle.rr_copy.specs.Messages.{size_of}
use Rattle.rr_port.specs.declared.last.Last.{Last}
use Rattle.rr_port.specs.declared.last.Last.TheVariants as last
use Rattle.rr_port.specs.declared.last.Shown.{Shown}
use Rattle.rr_port.specs.declared.last.LastGiven.{LastGiven}
use Rattle.rr_port.specs.Lasts.{message_of, last_event}
use Rattle.rr_port.specs.Ports.{Port, Kept, HasEvents, IsTicketed, owed, shape_of, mark_of, kept_of}

abbrev owed_open : Bool → ℕ
owed_open b = cond b 0 1

abbrev owed_last : Bool → ℕ
owed_last b = cond b 0 2

abbrev count_shown : Option Shown → ℕ
count_shown o = count_of o

abbrev count_last : Option LastGiven → ℕ
count_last o = count_of o

-- the port after each call
abbrev pub showing : Port → RactorNo → Packed → Port
showing p who m = record p { shown = Some (record { ticket = p.next; message = m }); next = p.next + 1; history = p.history ++ event.Shown p.next (size_of m) who ∷ [] }

abbrev pub refusing : Port → RactorNo → Packed → Port
refusing p who m = record p { history = p.history ++ event.Refused (size_of m) who ∷ [] }

abbrev pub with_last : Port → RactorNo → Last → Port
with_last p who l = record p { last = Some (record { ticket = p.next; last = l }); given = true; closed = true; next = p.next + 1; history = p.history ++ last_event p.next who l ∷ [] }

abbrev pub late : Port → RactorNo → Last → Port
late p who l = record p { given = true; history = p.history ++ event.Late (size_of (message_of l)) who ∷ [] }

abbrev pub without_last : Port → RactorNo → LastGiven → Port
without_last p who l = record p { last = None; history = p.history ++ event.Grabbed l.ticket (size_of (message_of l.last)) who ∷ [] }

abbrev pub grabbed : Port → RactorNo → Shown → Port
grabbed p who e = record p { shown = None; history = p.history ++ event.Grabbed e.ticket (size_of e.message) who ∷ [] }

abbrev pub withdrawn : Port → RactorNo → Shown → Port
withdrawn p who e = record p { shown = None; history = p.history ++ event.Withdrawn e.ticket (size_of e.message) who ∷ [] }

abbrev pub shut : Port → RactorNo → Port
shut p who = record p { closed = true; history = p.history ++ event.Closed who ∷ [] }

-- what its events say of the tickets
pub ticketed : (p : Port) → Replays PortStep empty_port p.history (shape_of p) → IsTicketed p
ticketed p replays =
    let differ : HasOwnTickets (shape_of p) = port_differs (shape_of p) p.history replays in
    record {
      shown_below_next = λ e is. differ.shown_below_next e.ticket (size_of e.message) (ap (option_map mark_of) is);
      last_below_next = λ l is. differ.last_below_next (kept_of l) (ap (option_map kept_of) is);
      apart = λ e l shown last. differ.apart e.ticket (size_of e.message) (kept_of l) (ap (option_map mark_of) shown) (ap (option_map kept_of) last);
    }

pub kept_shown : (p : Port) (n capacity : ℕ) (who : RactorNo) (m : Packed) → Kept p n → p.shown ≡ None → p.closed ≡ false → HasEvents p → length p.history + owed p + 2 ≤ capacity → Kept (showing p who m) capacity
kept_shown p n capacity who m k free unshut fits room =
    let h = length-append p.history (event.Shown p.next (size_of m) who ∷ []) in
    let none : count_shown p.shown ≡ 0 = ap count_shown free in
    let replays : Replays PortStep empty_port (showing p who m).history (shape_of (showing p who m)) = replays_more PortStep empty_port (shape_of p) (shape_of (showing p who m)) p.history (event.Shown p.next (size_of m) who) k.replays (unshut, refl, ap (option_map mark_of) free, refl) in
    record {
      replays = replays;
      room = omega (arith, h, none, room);
      within = omega (arith, h, none, fits);
      next = omega (arith, h, k.next);
      limit = k.limit;
      none_before = k.none_before;
      tickets = ticketed (showing p who m) replays;
    }

pub kept_refused : (p : Port) (n capacity : ℕ) (who : RactorNo) (m : Packed) → Kept p n → p.closed ≡ true → HasEvents p → length p.history + owed p + 2 ≤ capacity → Kept (refusing p who m) capacity
kept_refused p n capacity who m k closed fits room =
    let h = length-append p.history (event.Refused (size_of m) who ∷ []) in
    let replays : Replays PortStep empty_port (refusing p who m).history (shape_of (refusing p who m)) = replays_more PortStep empty_port (shape_of p) (shape_of (refusing p who m)) p.history (event.Refused (size_of m) who) k.replays (closed, refl) in
    record {
      replays = replays;
      room = omega (arith, h, room);
      within = omega (arith, h, fits);
      next = omega (arith, h, k.next);
      limit = k.limit;
      none_before = k.none_before;
      tickets = ticketed (refusing p who m) replays;
    }

last_step : (p : Port) (who : RactorNo) (l : Last) → p.closed ≡ false → p.given ≡ false → p.last ≡ None → PortStep (shape_of p) (last_event p.next who l) (shape_of (with_last p who l))
last_step p who (last.Value m) unshut ungiven none = (unshut, ungiven, ap (option_map kept_of) none, refl, refl)
last_step p who (last.Fault m) unshut ungiven none = (unshut, ungiven, ap (option_map kept_of) none, refl, refl)

pub kept_last : (p : Port) (capacity : ℕ) (who : RactorNo) (l : Last) → Kept p capacity → p.closed ≡ false → p.given ≡ false → Kept (with_last p who l) capacity
kept_last p capacity who l k unshut ungiven =
    let h = length-append p.history (last_event p.next who l ∷ []) in
    let is_open : owed_open p.closed ≡ 1 = ap owed_open unshut in
    let two : owed_last p.given ≡ 2 = ap owed_last ungiven in
    let none : count_last p.last ≡ 0 = ap count_last (k.none_before ungiven) in
    let replays : Replays PortStep empty_port (with_last p who l).history (shape_of (with_last p who l)) = replays_more PortStep empty_port (shape_of p) (shape_of (with_last p who l)) p.history (last_event p.next who l) k.replays (last_step p who l unshut ungiven (k.none_before ungiven)) in
    record {
      replays = replays;
      room = omega (arith, h, is_open, two, none, k.room);
      within = omega (arith, h, is_open, two, none, k.within);
      next = omega (arith, h, k.next);
      limit = k.limit;
      none_before = λ e. absurd (cc);
      tickets = ticketed (with_last p who l) replays;
    }

pub kept_late : (p : Port) (capacity : ℕ) (who : RactorNo) (l : Last) → Kept p capacity → p.closed ≡ true → p.given ≡ false → Kept (late p who l) capacity
kept_late p capacity who l k closed ungiven =
    let h = length-append p.history (event.Late (size_of (message_of l)) who ∷ []) in
    let two : owed_last p.given ≡ 2 = ap owed_last ungiven in
    let replays : Replays PortStep empty_port (late p who l).history (shape_of (late p who l)) = replays_more PortStep empty_port (shape_of p) (shape_of (late p who l)) p.history (event.Late (size_of (message_of l)) who) k.replays (closed, ungiven, refl) in
    record {
      replays = replays;
      room = omega (arith, h, two, k.room);
      within = omega (arith, h, two, k.within);
      next = omega (arith, h, k.next);
      limit = k.limit;
      none_before = λ e. absurd (cc);
      tickets = ticketed (late p who l) replays;
    }

pub kept_without_last : (p : Port) (capacity : ℕ) (who : RactorNo) (l : LastGiven) → Kept p capacity → p.last ≡ Some l → Kept (without_last p who l) capacity
kept_without_last p capacity who l k is =
    let h = length-append p.history (event.Grabbed l.ticket (size_of (message_of l.last)) who ∷ []) in
    let one : count_last p.last ≡ 1 = ap count_last is in
    let replays : Replays PortStep empty_port (without_last p who l).history (shape_of (without_last p who l)) = replays_more PortStep empty_port (shape_of p) (shape_of (without_last p who l)) p.history (event.Grabbed l.ticket (size_of (message_of l.last)) who) k.replays
    (inl (record { kept = kept_of l; is_last = ap (option_map kept_of) is; ticket = refl; size = refl; after = refl })) in
    record {
      replays = replays;
      room = omega (arith, h, one, k.room);
      within = omega (arith, h, one, k.within);
      next = omega (arith, h, k.next);
      limit = k.limit;
      none_before = λ e. refl;
      tickets = ticketed (without_last p who l) replays;
    }

pub kept_grabbed : (p : Port) (capacity : ℕ) (who : RactorNo) (e : Shown) → Kept p capacity → p.last ≡ None → p.closed ≡ false → p.shown ≡ Some e → Kept (grabbed p who e) capacity
kept_grabbed p capacity who e k none unshut is =
    let h = length-append p.history (event.Grabbed e.ticket (size_of e.message) who ∷ []) in
    let one : count_shown p.shown ≡ 1 = ap count_shown is in
    let replays : Replays PortStep empty_port (grabbed p who e).history (shape_of (grabbed p who e)) = replays_more PortStep empty_port (shape_of p) (shape_of (grabbed p who e)) p.history (event.Grabbed e.ticket (size_of e.message) who) k.replays
    (inr (ap (option_map kept_of) none, unshut, (ap (option_map mark_of) is, refl))) in
    record {
      replays = replays;
      room = omega (arith, h, one, k.room);
      within = omega (arith, h, one, k.within);
      next = omega (arith, h, k.next);
      limit = k.limit;
      none_before = k.none_before;
      tickets = ticketed (grabbed p who e) replays;
    }

pub kept_withdrawn : (p : Port) (capacity : ℕ) (who : RactorNo) (e : Shown) → Kept p capacity → p.shown ≡ Some e → Kept (withdrawn p who e) capacity
kept_withdrawn p capacity who e k is =
    let h = length-append p.history (event.Withdrawn e.ticket (size_of e.message) who ∷ []) in
    let one : count_shown p.shown ≡ 1 = ap count_shown is in
    let replays : Replays PortStep empty_port (withdrawn p who e).history (shape_of (withdrawn p who e)) = replays_more PortStep empty_port (shape_of p) (shape_of (withdrawn p who e)) p.history (event.Withdrawn e.ticket (size_of e.message) who) k.replays (ap (option_map mark_of) is, refl) in
    record {
      replays = replays;
      room = omega (arith, h, one, k.room);
      within = omega (arith, h, one, k.within);
      next = omega (arith, h, k.next);
      limit = k.limit;
      none_before = k.none_before;
      tickets = ticketed (withdrawn p who e) replays;
    }

pub kept_closed : (p : Port) (capacity : ℕ) (who : RactorNo) → Kept p capacity → p.closed ≡ false → Kept (shut p who) capacity
kept_closed p capacity who k unshut =
    let h = length-append p.history (event.Closed who ∷ []) in
    let is_open : owed_open p.closed ≡ 1 = ap owed_open unshut in
    let replays : Replays PortStep empty_port (shut p who).history (shape_of (shut p who)) = replays_more PortStep empty_port (shape_of p) (shape_of (shut p who)) p.history (event.Closed who) k.replays (unshut, refl) in
    record {
      replays = replays;
      room = omega (arith, h, is_open, k.room);
      within = omega (arith, h, is_open, k.within);
      next = omega (arith, h, k.next);
      limit = k.limit;
      none_before = k.none_before;
      tickets = ticketed (shut p who) replays;
    }
