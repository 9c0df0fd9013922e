-- What each call keeps.
use Rattle.std.proofs.Common.{◌≡◌, ℕ, ◌+◌, ◌<◌, ◌≤◌, List, [], ◌∷◌, ◌++◌, length, length-append, cond, map, refl, ap, arith, Bool, true, false, zero, suc, subst}
use Rattle.std.specs.List.{All}
use Rattle.std.specs.List.Sorted.{IsStrictlyIncreasing}
use Rattle.rr_base.specs.declared.name.RactorNo.{RactorNo}
use Rattle.rr_base.specs.declared.event.InboxEvent.TheVariants.{Offered, Accepted, Refused, Closed}
use Rattle.rr_base.specs.Inbox.{InboxStep, empty_inbox}
use Rattle.rr_base.specs.Replay.{Replays}
use Rattle.rr_base.specs.Tickets.{tickets_of, HasRisingTickets}
use Rattle.rr_base.proofs.Replaying.{replays_more}
use Rattle.rr_base.proofs.Ticketing.{inbox_rises}
use Rattle.rr_space.specs.Tables.{Packed}
use Rattle.rr_copy.specs.Messages.{size_of}
use Rattle.rr_inbox.specs.declared.entry.Entry.{Entry}
use Rattle.rr_inbox.specs.Inboxes.{Inbox, Kept, HasEvents, IsTicketed, owed, shape_of, marks, mark_of}

pub marks-append : (es fs : List Entry) → marks (es ++ fs) ≡ marks es ++ marks fs
marks-append [] fs = refl
marks-append (e ∷ es) fs = ap (λ (q : List (ℕ × ℕ)). mark_of e ∷ q) (marks-append es fs)

abbrev owed_by : Bool → ℕ
owed_by b = cond b 0 1

-- the inbox with a message more at its end
abbrev pub offered : Inbox → RactorNo → Packed → Inbox
offered s who m = record { inside = s.inside ++ record { ticket = s.next; message = m } ∷ []; closed = s.closed; next = s.next + 1; history = s.history ++ Offered s.next (size_of m) who ∷ []; limit = s.limit }

abbrev pub refused : Inbox → RactorNo → Packed → Inbox
refused s who m = record { inside = s.inside; closed = s.closed; next = s.next; history = s.history ++ Refused (size_of m) who ∷ []; limit = s.limit }

abbrev pub accepted : Inbox → RactorNo → Entry → List Entry → Inbox
accepted s who e rest = record { inside = rest; closed = s.closed; next = s.next; history = s.history ++ Accepted e.ticket (size_of e.message) who ∷ []; limit = s.limit }

abbrev pub shut : Inbox → RactorNo → Inbox
shut s who = record { inside = s.inside; closed = true; next = s.next; history = s.history ++ Closed who ∷ []; limit = s.limit }

tickets-marks : (es : List Entry) → tickets_of (marks es) ≡ map (λ (e : Entry). e.ticket) es
tickets-marks [] = refl
tickets-marks (e ∷ es) = ap (λ (q : List ℕ). e.ticket ∷ q) (tickets-marks es)

each_below : (n : ℕ) (es : List Entry) → All (λ t. t < n) (tickets_of (marks es)) → All (λ e. e.ticket < n) es
each_below n (e ∷ es) all zero d lt = all zero 0 (omega arith)
each_below n (e ∷ es) all (suc k) d lt = each_below n es (λ i u less. all (suc i) u (omega (arith, less))) k d (omega (arith, lt))
each_below n [] all k d lt = absurd (omega (arith, lt))

-- what its events say of the tickets
pub ticketed : (s : Inbox) → Replays InboxStep empty_inbox s.history (shape_of s) → IsTicketed s
ticketed s replays =
    let rises : HasRisingTickets (shape_of s) = inbox_rises (shape_of s) s.history replays in
    record {
      rising = subst IsStrictlyIncreasing (tickets-marks s.inside) rises.rising;
      below_next = each_below s.next s.inside rises.below_next;
    }

pub kept_offered : (s : Inbox) (n capacity : ℕ) (who : RactorNo) (m : Packed) → Kept s n → s.closed ≡ false → HasEvents s → length s.history + owed s + 2 ≤ capacity → Kept (offered s who m) capacity
kept_offered s n capacity who m k unshut fits room =
    let one : owed_by s.closed ≡ 1 = ap owed_by unshut in
    let e : Entry = record { ticket = s.next; message = m } in
    let h = length-append s.history (Offered s.next (size_of m) who ∷ []) in
    let q = length-append s.inside (e ∷ []) in
    let same : shape_of (offered s who m) ≡ record { queued = marks s.inside ++ mark_of e ∷ []; closed = false; next = s.next + 1 } = cc (marks-append s.inside (e ∷ []), unshut) in
    let replays : Replays InboxStep empty_inbox (offered s who m).history (shape_of (offered s who m)) = replays_more InboxStep empty_inbox (shape_of s) (shape_of (offered s who m)) s.history (Offered s.next (size_of m) who) k.replays (unshut, refl, same) in
    record {
      replays = replays;
      room = omega (arith, h, q, one, room);
      within = omega (arith, h, q, one, fits);
      next = omega (arith, h, k.next);
      limit = k.limit;
      tickets = ticketed (offered s who m) replays;
    }

pub kept_refused : (s : Inbox) (n capacity : ℕ) (who : RactorNo) (m : Packed) → Kept s n → s.closed ≡ true → HasEvents s → length s.history + owed s + 2 ≤ capacity → Kept (refused s who m) capacity
kept_refused s n capacity who m k closed fits room =
    let h = length-append s.history (Refused (size_of m) who ∷ []) in
    let replays : Replays InboxStep empty_inbox (refused s who m).history (shape_of (refused s who m)) = replays_more InboxStep empty_inbox (shape_of s) (shape_of (refused s who m)) s.history (Refused (size_of m) who) k.replays (closed, refl) in
    record {
      replays = replays;
      room = omega (arith, h, room);
      within = omega (arith, h, fits);
      next = omega (arith, h, k.next);
      limit = k.limit;
      tickets = ticketed (refused s who m) replays;
    }

pub kept_accepted : (s : Inbox) (capacity : ℕ) (who : RactorNo) (e : Entry) (rest : List Entry) → Kept s capacity → s.inside ≡ e ∷ rest → Kept (accepted s who e rest) capacity
kept_accepted s capacity who e rest k first =
    let h = length-append s.history (Accepted e.ticket (size_of e.message) who ∷ []) in
    let q : length s.inside ≡ length (e ∷ rest) = ap (λ (es : List Entry). length es) first in
    let replays : Replays InboxStep empty_inbox (accepted s who e rest).history (shape_of (accepted s who e rest)) = replays_more InboxStep empty_inbox (shape_of s) (shape_of (accepted s who e rest)) s.history (Accepted e.ticket (size_of e.message) who) k.replays (marks rest, ap marks first, refl) in
    record {
      replays = replays;
      room = omega (arith, h, q, k.room);
      within = omega (arith, h, q, k.within);
      next = omega (arith, h, k.next);
      limit = k.limit;
      tickets = ticketed (accepted s who e rest) replays;
    }

pub kept_closed : (s : Inbox) (capacity : ℕ) (who : RactorNo) → Kept s capacity → s.closed ≡ false → Kept (shut s who) capacity
kept_closed s capacity who k unshut =
    let one : owed_by s.closed ≡ 1 = ap owed_by unshut in
    let h = length-append s.history (Closed who ∷ []) in
    let replays : Replays InboxStep empty_inbox (shut s who).history (shape_of (shut s who)) = replays_more InboxStep empty_inbox (shape_of s) (shape_of (shut s who)) s.history (Closed who) k.replays (unshut, refl) in
    record {
      replays = replays;
      room = omega (arith, h, one, k.room);
      within = omega (arith, h, one, k.within);
      next = omega (arith, h, k.next);
      limit = k.limit;
      tickets = ticketed (shut s who) replays;
    }
