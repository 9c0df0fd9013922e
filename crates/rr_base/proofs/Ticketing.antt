-- The tickets of what is inside a channel, wherever its events lead from the empty one.
use Rattle.std.proofs.Common.{ℕ, ◌≡◌, ◌+◌, ◌-◌, ◌<◌, ◌++◌, inl, inr, suc, List, [], ◌∷◌, length, get_or, refl, ap, sym, ◌∙◌, subst, arith, Option, Some, None, Bool, true, false}
use Rattle.std.specs.List.{All}
use Rattle.std.specs.List.Sorted.{IsStrictlyIncreasing}
use Rattle.std.proofs.lemmas.Bool.{cases_lt}
use Rattle.std.proofs.lemmas.List.{length_push, map-append, get_or_append_left, get_or-append_right}
use Rattle.std.proofs.lemmas.List.Elements.{All-push, All-weaker}
use Rattle.rr_base.specs.declared.event.InboxEvent.{InboxEvent}
use Rattle.rr_base.specs.declared.event.InboxEvent.TheVariants as inbox
use Rattle.rr_base.specs.declared.event.PortEvent.{PortEvent}
use Rattle.rr_base.specs.declared.event.PortEvent.TheVariants.{Shown, Grabbed, Withdrawn, Last, Fault, Refused, Late, Closed}
use Rattle.rr_base.specs.declared.event.Kept.{Kept}
use Rattle.rr_base.specs.declared.event.PortShape.{PortShape}
use Rattle.rr_base.specs.Replay.{Replays}
use Rattle.rr_base.specs.Inbox.{InboxShape, InboxStep, empty_inbox}
use Rattle.rr_base.specs.Port.{PortStep, GivesLast, empty_port}
use Rattle.rr_base.specs.Tickets.{tickets_of, HasRisingTickets, HasOwnTickets}

-- what each event keeps holds wherever events lead
pub replays_keep : {S E : Type 0} (step : S → E → S → Type 0) (P : S → Type 0) → ((x y : S) (e : E) → P x → step x e y → P y)
    → (x y : S) (es : List E) → P x → Replays step x es y → P y
replays_keep step P each x y [] p r = subst P r p
replays_keep step P each x y (e ∷ es) p r = replays_keep step P each r.0 y es (each x r.0 e p r.1) r.2

rising_push : (ts : List ℕ) (n : ℕ) → IsStrictlyIncreasing ts → All (λ t. t < n) ts → IsStrictlyIncreasing (ts ++ n ∷ [])
rising_push ts n rising below k lt =
    let len : length (ts ++ n ∷ []) ≡ length ts + 1 = length_push ts n in
    let here : k < length ts = omega (arith, lt, len) in
    let left : get_or (ts ++ n ∷ []) k 0 ≡ get_or ts k 0 = get_or_append_left ts (n ∷ []) 0 k here in
    elim (cases_lt (k + 1) (length ts)) [
      | inl inside ↦
          let right : get_or (ts ++ n ∷ []) (k + 1) 0 ≡ get_or ts (k + 1) 0 = get_or_append_left ts (n ∷ []) 0 (k + 1) inside in
          omega (arith, left, right, rising k inside)
      | inr outside ↦
          let none : k + 1 - length ts ≡ 0 = omega (arith, here, outside) in
          let right : get_or (ts ++ n ∷ []) (k + 1) 0 ≡ n = get_or-append_right ts (n ∷ []) (length ts) (k + 1) 0 refl outside ∙ ap (λ i. get_or (n ∷ []) i 0) none in
          omega (arith, left, right, below k 0 here)
    ]

rising_tail : (t : ℕ) (ts : List ℕ) → IsStrictlyIncreasing (t ∷ ts) → IsStrictlyIncreasing ts
rising_tail t ts rising k lt =
    let e : suc k + 1 ≡ suc (k + 1) = omega arith in
    subst (λ n. get_or ts k 0 < get_or (t ∷ ts) n 0) e (rising (suc k) (omega (arith, lt)))

inbox_step_keeps : (x y : InboxShape) (e : InboxEvent) → HasRisingTickets x → InboxStep x e y → HasRisingTickets y
inbox_step_keeps x y (inbox.Offered t s w) k h =
    let more : tickets_of (x.queued ++ (t, s) ∷ []) ≡ tickets_of x.queued ++ t ∷ [] = map-append (λ (m : ℕ × ℕ). m.0) x.queued ((t, s) ∷ []) in
    let below : All (λ u. u < t) (tickets_of x.queued) = All-weaker (λ u. u < x.next) (λ u. u < t) (λ u lt. omega (arith, lt, h.1)) (tickets_of x.queued) k.below_next in
    let after : All (λ u. u < x.next + 1) (tickets_of x.queued) = All-weaker (λ u. u < x.next) (λ u. u < x.next + 1) (λ u lt. omega (arith, lt)) (tickets_of x.queued) k.below_next in
    subst HasRisingTickets (sym h.2) (record {
      rising = subst IsStrictlyIncreasing (sym more) (rising_push (tickets_of x.queued) t k.rising below);
      below_next = subst (All (λ u. u < x.next + 1)) (sym more) (All-push (λ u. u < x.next + 1) (tickets_of x.queued) t after (omega (arith, h.1)));
    })
inbox_step_keeps x y (inbox.Accepted t s w) k h =
    let first : tickets_of x.queued ≡ t ∷ tickets_of h.0 = ap tickets_of h.1 in
    let rising : IsStrictlyIncreasing (t ∷ tickets_of h.0) = subst IsStrictlyIncreasing first k.rising in
    let below : All (λ u. u < x.next) (t ∷ tickets_of h.0) = subst (All (λ u. u < x.next)) first k.below_next in
    subst HasRisingTickets (sym h.2) (record {
      rising = rising_tail t (tickets_of h.0) rising;
      below_next = λ i d lt. below (suc i) d (omega (arith, lt));
    })
inbox_step_keeps x y (inbox.Refused s w) k h = subst HasRisingTickets (sym h.1) k
inbox_step_keeps x y (inbox.Closed w) k h = subst HasRisingTickets (sym h.1) (record { rising = k.rising; below_next = k.below_next })

empty_inbox_rises : HasRisingTickets empty_inbox
empty_inbox_rises = record { rising = λ k lt. absurd (omega (arith, lt)); below_next = λ i d lt. absurd (omega (arith, lt)) }

pub inbox_rises : (x : InboxShape) (es : List InboxEvent) → Replays InboxStep empty_inbox es x → HasRisingTickets x
inbox_rises x es r = replays_keep InboxStep HasRisingTickets inbox_step_keeps empty_inbox x es empty_inbox_rises r

-- the same where less is inside
less_shown : (x : PortShape) → HasOwnTickets x → HasOwnTickets (record x { shown = None })
less_shown x k = record {
  shown_below_next = λ t s is. absurd (cc);
  last_below_next = k.last_below_next;
  apart = λ t s l is last. absurd (cc);
}

less_last : (x : PortShape) → HasOwnTickets x → HasOwnTickets (record x { last = None })
less_last x k = record {
  shown_below_next = k.shown_below_next;
  last_below_next = λ l is. absurd (cc);
  apart = λ t s l is last. absurd (cc);
}

abbrev first_or : ℕ → Option (ℕ × ℕ) → ℕ
first_or t None = t
first_or t (Some m) = m.0

abbrev ticket_or : ℕ → Option Kept → ℕ
ticket_or t None = t
ticket_or t (Some k) = k.ticket

pair_first : (t s u v : ℕ) → ◌≡◌ {A = Option (ℕ × ℕ)} (Some (t, s)) (Some (u, v)) → t ≡ u
pair_first t s u v e = ap (λ (o : Option (ℕ × ℕ)). first_or t o) e

same_ticket : (k l : Kept) → Some k ≡ Some l → k.ticket ≡ l.ticket
same_ticket k l e = ap (λ (o : Option Kept). ticket_or k.ticket o) e

gives : (x y : PortShape) (f : Bool) (t s : ℕ) → HasOwnTickets x → GivesLast x f t s y → HasOwnTickets y
gives x y f t s k h = subst HasOwnTickets (sym h.4) (record {
  shown_below_next = λ u v is. omega (arith, k.shown_below_next u v is);
  last_below_next = λ l is. let same : t ≡ l.ticket = same_ticket (record { is_fault = f; ticket = t; size = s }) l is in omega (arith, same, h.3);
  apart = λ u v l shown is e. let same : t ≡ l.ticket = same_ticket (record { is_fault = f; ticket = t; size = s }) l is in omega (arith, same, e, h.3, k.shown_below_next u v shown);
})

port_step_keeps : (x y : PortShape) (e : PortEvent) → HasOwnTickets x → PortStep x e y → HasOwnTickets y
port_step_keeps x y (Shown t s w) k h = subst HasOwnTickets (sym h.3) (record {
  shown_below_next = λ u v is. omega (arith, pair_first t s u v is, h.1);
  last_below_next = λ l is. omega (arith, k.last_below_next l is);
  apart = λ u v l is last e. omega (arith, pair_first t s u v is, h.1, e, k.last_below_next l last);
})
port_step_keeps x y (Grabbed t s w) k h = elim h [ inl l ↦ subst HasOwnTickets (sym l.after) (less_last x k) | inr r ↦ subst HasOwnTickets (sym r.2.1) (less_shown x k) ]
port_step_keeps x y (Withdrawn t s w) k h = subst HasOwnTickets (sym h.1) (less_shown x k)
port_step_keeps x y (Last t s w) k h = gives x y false t s k h
port_step_keeps x y (Fault t s w) k h = gives x y true t s k h
port_step_keeps x y (Refused s w) k h = subst HasOwnTickets (sym h.1) k
port_step_keeps x y (Late s w) k h = subst HasOwnTickets (sym h.2) (record { shown_below_next = k.shown_below_next; last_below_next = k.last_below_next; apart = k.apart })
port_step_keeps x y (Closed w) k h = subst HasOwnTickets (sym h.1) (record { shown_below_next = k.shown_below_next; last_below_next = k.last_below_next; apart = k.apart })

empty_port_differs : HasOwnTickets empty_port
empty_port_differs = record {
  shown_below_next = λ t s is. absurd (cc);
  last_below_next = λ l is. absurd (cc);
  apart = λ t s l is last. absurd (cc);
}

pub port_differs : (x : PortShape) (es : List PortEvent) → Replays PortStep empty_port es x → HasOwnTickets x
port_differs x es r = replays_keep PortStep HasOwnTickets port_step_keeps empty_port x es empty_port_differs r
