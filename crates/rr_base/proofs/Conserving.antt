-- What came in is what went out and what is inside.
use Rattle.std.proofs.Common.{ℕ, ◌≡◌, ◌+◌, ◌++◌, inl, inr, Bool, true, false, Option, Some, None, List, [], ◌∷◌, length, length-append, refl, ap, ◌∙◌, arith}
use Rattle.std.specs.List.{sum_by}
use Rattle.std.proofs.lemmas.List.Sums.{sum_by-cons, sum_by_push}
use Rattle.rr_base.specs.declared.event.InboxEvent.{InboxEvent}
use Rattle.rr_base.specs.declared.event.InboxEvent.TheVariants as inbox
use Rattle.rr_base.specs.declared.event.PortEvent.{PortEvent}
use Rattle.rr_base.specs.declared.event.PortEvent.TheVariants.{Shown, Grabbed, Withdrawn, Last, Fault, Refused, Late, Closed}
use Rattle.rr_base.specs.declared.event.Kept.{Kept}
use Rattle.rr_base.specs.declared.event.PortShape.{PortShape}
use Rattle.rr_base.specs.Replay.{Replays}
use Rattle.rr_base.specs.Inbox.{InboxShape, InboxStep}
use Rattle.rr_base.specs.Port.{PortStep, LastLeaves, ShownLeaves, GivesLast}
use Rattle.rr_base.specs.Flow.{inbox_flow, port_flow, came_objects, went_objects, came_messages, went_messages, over_inbox, over_port, inbox_objects, inbox_messages, shown_objects, last_objects, count_of, port_objects, port_messages}

pub conserve : {S E : Type 0} (step : S → E → S → Type 0) (weight : S → ℕ) (came went : E → ℕ) → ((x y : S) (e : E) → step x e y → came e + weight x ≡ went e + weight y)
    → (x y : S) (es : List E) → Replays step x es y → sum_by came es + weight x ≡ sum_by went es + weight y
conserve step weight came went each x y [] r = let q : weight x ≡ weight y = ap weight r in omega (arith, q)
conserve step weight came went each x y (e ∷ es) r =
    omega (arith, each x r.0 e r.1, conserve step weight came went each r.0 y es r.2, sum_by-cons came e es, sum_by-cons went e es)

inbox_step_objects : (x y : InboxShape) (e : InboxEvent) → InboxStep x e y → came_objects (inbox_flow e) + inbox_objects x ≡ went_objects (inbox_flow e) + inbox_objects y
inbox_step_objects x y (inbox.Offered t s w) h =
    let q : inbox_objects y ≡ sum_by (λ (m : ℕ × ℕ). m.1) (x.queued ++ (t, s) ∷ []) = ap inbox_objects h.2 in
    omega (arith, q, sum_by_push (λ (m : ℕ × ℕ). m.1) x.queued (t, s))
inbox_step_objects x y (inbox.Accepted t s w) h =
    let q : inbox_objects y ≡ sum_by (λ (m : ℕ × ℕ). m.1) h.0 = ap inbox_objects h.2 in
    let p : inbox_objects x ≡ sum_by (λ (m : ℕ × ℕ). m.1) ((t, s) ∷ h.0) = ap (λ ms. sum_by (λ (m : ℕ × ℕ). m.1) ms) h.1 in
    omega (arith, q, p, sum_by-cons (λ (m : ℕ × ℕ). m.1) (t, s) h.0)
inbox_step_objects x y (inbox.Refused s w) h = let q : inbox_objects y ≡ inbox_objects x = ap inbox_objects h.1 in omega (arith, q)
inbox_step_objects x y (inbox.Closed w) h = let q : inbox_objects y ≡ inbox_objects x = ap inbox_objects h.1 in omega (arith, q)

inbox_step_messages : (x y : InboxShape) (e : InboxEvent) → InboxStep x e y → came_messages (inbox_flow e) + inbox_messages x ≡ went_messages (inbox_flow e) + inbox_messages y
inbox_step_messages x y (inbox.Offered t s w) h =
    let q : inbox_messages y ≡ length (x.queued ++ (t, s) ∷ []) = ap inbox_messages h.2 in
    omega (arith, q, length-append x.queued ((t, s) ∷ []))
inbox_step_messages x y (inbox.Accepted t s w) h =
    let q : inbox_messages y ≡ length h.0 = ap inbox_messages h.2 in
    let p : inbox_messages x ≡ length ((t, s) ∷ h.0) = ap (λ (ms : List (ℕ × ℕ)). length ms) h.1 in
    omega (arith, q, p)
inbox_step_messages x y (inbox.Refused s w) h = let q : inbox_messages y ≡ inbox_messages x = ap inbox_messages h.1 in omega (arith, q)
inbox_step_messages x y (inbox.Closed w) h = let q : inbox_messages y ≡ inbox_messages x = ap inbox_messages h.1 in omega (arith, q)

pub inbox_conserves_objects : (x y : InboxShape) (es : List InboxEvent) → Replays InboxStep x es y → over_inbox came_objects es + inbox_objects x ≡ over_inbox went_objects es + inbox_objects y
inbox_conserves_objects x y es r = conserve InboxStep inbox_objects (λ e. came_objects (inbox_flow e)) (λ e. went_objects (inbox_flow e)) inbox_step_objects x y es r

pub inbox_conserves_messages : (x y : InboxShape) (es : List InboxEvent) → Replays InboxStep x es y → over_inbox came_messages es + inbox_messages x ≡ over_inbox went_messages es + inbox_messages y
inbox_conserves_messages x y es r = conserve InboxStep inbox_messages (λ e. came_messages (inbox_flow e)) (λ e. went_messages (inbox_flow e)) inbox_step_messages x y es r

-- one law on ports serves objects and messages: `shown` and `last` weigh what is inside, and one message of a size weighs `one s`
pub record Weighs (shown : Option (ℕ × ℕ) → ℕ) (last : Option Kept → ℕ) (one : ℕ → ℕ) : Type 0 where
  pub no_shown : shown None ≡ 0
  pub a_shown : (t s : ℕ) → shown (Some (t, s)) ≡ one s
  pub no_last : last None ≡ 0
  pub a_last : (k : Kept) → last (Some k) ≡ one k.size

weighs_objects : Weighs shown_objects last_objects (λ s. s)
weighs_objects = record { no_shown = refl; a_shown = λ t s. refl; no_last = refl; a_last = λ k. refl }

weighs_messages : Weighs count_of count_of (λ s. 1)
weighs_messages = record { no_shown = refl; a_shown = λ t s. refl; no_last = refl; a_last = λ k. refl }

abbrev weight : (Option (ℕ × ℕ) → ℕ) → (Option Kept → ℕ) → PortShape → ℕ
weight shown last x = shown x.shown + last x.last

shown_leaves : (shown : Option (ℕ × ℕ) → ℕ) (last : Option Kept → ℕ) (one : ℕ → ℕ) → Weighs shown last one → (x y : PortShape) (t s : ℕ) → ShownLeaves x t s y → weight shown last x ≡ one s + weight shown last y
shown_leaves shown last one m x y t s h =
    let a : shown x.shown ≡ one s = ap shown h.0 ∙ m.a_shown t s in
    let b : weight shown last y ≡ shown None + last x.last = ap (weight shown last) h.1 in
    omega (arith, a, b, m.no_shown)

last_leaves : (shown : Option (ℕ × ℕ) → ℕ) (last : Option Kept → ℕ) (one : ℕ → ℕ) → Weighs shown last one → (x y : PortShape) (t s : ℕ) → LastLeaves x t s y → weight shown last x ≡ one s + weight shown last y
last_leaves shown last one m x y t s h =
    let a : last x.last ≡ one s = ap last h.is_last ∙ m.a_last h.kept ∙ ap one h.size in
    let b : weight shown last y ≡ shown x.shown + last None = ap (weight shown last) h.after in
    omega (arith, a, b, m.no_last)

gives_last : (shown : Option (ℕ × ℕ) → ℕ) (last : Option Kept → ℕ) (one : ℕ → ℕ) → Weighs shown last one → (x y : PortShape) (f : Bool) (t s : ℕ) → GivesLast x f t s y → one s + weight shown last x ≡ weight shown last y
gives_last shown last one m x y f t s h =
    let a : last x.last ≡ 0 = ap last h.2 ∙ m.no_last in
    let k : Kept = record { is_fault = f; ticket = t; size = s } in
    let b : weight shown last y ≡ shown x.shown + last (Some k) = ap (weight shown last) h.4 in
    let c : last (Some k) ≡ one s = m.a_last k in
    omega (arith, a, b, c)

comes : (shown : Option (ℕ × ℕ) → ℕ) (last : Option Kept → ℕ) (one : ℕ → ℕ) → Weighs shown last one → (x y : PortShape) (t s : ℕ) → x.shown ≡ None → y ≡ record x { shown = Some (t, s); next = x.next + 1 } → one s + weight shown last x ≡ weight shown last y
comes shown last one m x y t s h g =
    let a : shown x.shown ≡ 0 = ap shown h ∙ m.no_shown in
    let b : weight shown last y ≡ shown (Some (t, s)) + last x.last = ap (weight shown last) g in
    omega (arith, a, b, m.a_shown t s)

stays : (shown : Option (ℕ × ℕ) → ℕ) (last : Option Kept → ℕ) (x y : PortShape) → y.shown ≡ x.shown → y.last ≡ x.last → weight shown last x ≡ weight shown last y
stays shown last x y a b = let p : shown y.shown ≡ shown x.shown = ap shown a in let q : last y.last ≡ last x.last = ap last b in omega (arith, p, q)

port_step_objects : (x y : PortShape) (e : PortEvent) → PortStep x e y → came_objects (port_flow e) + port_objects x ≡ went_objects (port_flow e) + port_objects y
port_step_objects x y (Shown t s w) h = omega (arith, comes shown_objects last_objects (λ s. s) weighs_objects x y t s h.2 h.3)
port_step_objects x y (Grabbed t s w) h = elim h [ inl l ↦ omega (arith, last_leaves shown_objects last_objects (λ s. s) weighs_objects x y t s l) | inr r ↦ omega (arith, shown_leaves shown_objects last_objects (λ s. s) weighs_objects x y t s r.2) ]
port_step_objects x y (Withdrawn t s w) h = omega (arith, shown_leaves shown_objects last_objects (λ s. s) weighs_objects x y t s h)
port_step_objects x y (Last t s w) h = omega (arith, gives_last shown_objects last_objects (λ s. s) weighs_objects x y false t s h)
port_step_objects x y (Fault t s w) h = omega (arith, gives_last shown_objects last_objects (λ s. s) weighs_objects x y true t s h)
port_step_objects x y (Refused s w) h = omega (arith, stays shown_objects last_objects x y (ap (λ (z : PortShape). z.shown) h.1) (ap (λ (z : PortShape). z.last) h.1))
port_step_objects x y (Late s w) h = omega (arith, stays shown_objects last_objects x y (ap (λ (z : PortShape). z.shown) h.2) (ap (λ (z : PortShape). z.last) h.2))
port_step_objects x y (Closed w) h = omega (arith, stays shown_objects last_objects x y (ap (λ (z : PortShape). z.shown) h.1) (ap (λ (z : PortShape). z.last) h.1))

port_step_messages : (x y : PortShape) (e : PortEvent) → PortStep x e y → came_messages (port_flow e) + port_messages x ≡ went_messages (port_flow e) + port_messages y
port_step_messages x y (Shown t s w) h = omega (arith, comes count_of count_of (λ s. 1) weighs_messages x y t s h.2 h.3)
port_step_messages x y (Grabbed t s w) h = elim h [ inl l ↦ omega (arith, last_leaves count_of count_of (λ s. 1) weighs_messages x y t s l) | inr r ↦ omega (arith, shown_leaves count_of count_of (λ s. 1) weighs_messages x y t s r.2) ]
port_step_messages x y (Withdrawn t s w) h = omega (arith, shown_leaves count_of count_of (λ s. 1) weighs_messages x y t s h)
port_step_messages x y (Last t s w) h = omega (arith, gives_last count_of count_of (λ s. 1) weighs_messages x y false t s h)
port_step_messages x y (Fault t s w) h = omega (arith, gives_last count_of count_of (λ s. 1) weighs_messages x y true t s h)
port_step_messages x y (Refused s w) h = omega (arith, stays count_of count_of x y (ap (λ (z : PortShape). z.shown) h.1) (ap (λ (z : PortShape). z.last) h.1))
port_step_messages x y (Late s w) h = omega (arith, stays count_of count_of x y (ap (λ (z : PortShape). z.shown) h.2) (ap (λ (z : PortShape). z.last) h.2))
port_step_messages x y (Closed w) h = omega (arith, stays count_of count_of x y (ap (λ (z : PortShape). z.shown) h.1) (ap (λ (z : PortShape). z.last) h.1))

pub port_conserves_objects : (x y : PortShape) (es : List PortEvent) → Replays PortStep x es y → over_port came_objects es + port_objects x ≡ over_port went_objects es + port_objects y
port_conserves_objects x y es r = conserve PortStep port_objects (λ e. came_objects (port_flow e)) (λ e. went_objects (port_flow e)) port_step_objects x y es r

pub port_conserves_messages : (x y : PortShape) (es : List PortEvent) → Replays PortStep x es y → over_port came_messages es + port_messages x ≡ over_port went_messages es + port_messages y
port_conserves_messages x y es r = conserve PortStep port_messages (λ e. came_messages (port_flow e)) (λ e. went_messages (port_flow e)) port_step_messages x y es r
