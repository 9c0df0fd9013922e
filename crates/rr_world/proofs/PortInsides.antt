-- What is inside a port, as messages come and leave.
use Rattle.std.proofs.Common.{◌≡◌, ℕ, ◌⊎◌, ⊎_elim, inl, inr, false, true, List, [], ◌∷◌, ◌++◌, Option, Some, None, Contains, sym, ap, ◌∙◌, subst, refl, arith}
use Rattle.std.specs.Option.{option_map}
use Rattle.std.proofs.lemmas.List.{append-nil}
use Rattle.std.proofs.lemmas.List.Elements.{Contains-append_cases, Contains-append_left, Contains-append_right}
use Rattle.std.proofs.lemmas.Option.{none-some}
use Rattle.rr_base.specs.Replay.{Replays}
use Rattle.rr_base.specs.Port.{PortStep, empty_port}
use Rattle.rr_base.specs.declared.event.PortEvent.{PortEvent}
use Rattle.rr_base.specs.declared.event.PortEvent.TheVariants.{Shown, Grabbed, Withdrawn, Last, Fault, Refused, Late, Closed}
use Rattle.rr_base.specs.declared.event.PortShape.{PortShape}
use Rattle.rr_space.proofs.Sounds.{none_in, in_first}
use Rattle.rr_inbox.specs.declared.entry.Entry.{Entry}
use Rattle.rr_port.specs.Lasts.{message_of}
use Rattle.rr_port.specs.Ports.{Port, IsTicketed, shape_of, kept_of}
use Rattle.rr_port.specs.declared.last.LastGiven.{LastGiven}
use Rattle.rr_port.specs.declared.last.Shown.{Shown as ShownMessage}
use Rattle.rr_world.specs.Layouts.{message_slots, mail_slots, shown_inside, last_inside, port_inside, port_slots}
use Rattle.rr_world.proofs.Tickets.{mail_none, mail_here, mail_past, mail_last, mail_others}

-- a message comes into a port
pub record IsComing (p p2 : Port) (e : Entry) : Type 0 where
  pub fresh : port_slots e.ticket p ≡ None
  pub come : port_slots e.ticket p2 ≡ Some (message_slots e.message)
  pub others : (u : ℕ) → (u ≡ e.ticket → ⊥) → port_slots u p2 ≡ port_slots u p
  pub inside : (x : Entry) → Contains (port_inside p2) x → Contains (port_inside p) x ⊎ (e ≡ x)

-- a message leaves a port
pub record IsLeaving (p p2 : Port) (e : Entry) : Type 0 where
  pub was : port_slots e.ticket p ≡ Some (message_slots e.message)
  pub gone : port_slots e.ticket p2 ≡ None
  pub others : (u : ℕ) → (u ≡ e.ticket → ⊥) → port_slots u p2 ≡ port_slots u p
  pub has : Contains (port_inside p) e
  pub inside : (x : Entry) → Contains (port_inside p2) x → Contains (port_inside p) x

shown_entry : (s : Option ShownMessage) (x : Entry) → Contains (shown_inside s) x → (f : ShownMessage) × (s ≡ Some f) × (f.ticket ≡ x.ticket)
shown_entry None x has = absurd (none_in x has)
shown_entry (Some f) x has = (f, refl, ⊎_elim (λ one. ap (λ (e : Entry). e.ticket) one) (λ none. absurd (none_in x none)) (in_first (record { ticket = f.ticket; message = f.message }) [] x has))

abbrev pub last_entry : LastGiven → Entry
last_entry l = record { ticket = l.ticket; message = message_of l.last }

abbrev pub shown_entry_of : ShownMessage → Entry
shown_entry_of f = record { ticket = f.ticket; message = f.message }

pub last_comes : (p p2 : Port) (l : LastGiven) → p.last ≡ None → p2.shown ≡ p.shown → p2.last ≡ Some l → l.ticket ≡ p.next → IsTicketed p → IsComing p p2 (last_entry l)
last_comes p p2 l none shown is next T =
    let xs = shown_inside p.shown in
    let before : port_inside p ≡ xs = ap (λ z. xs ++ last_inside z) none ∙ append-nil xs in
    let after : port_inside p2 ≡ xs ++ last_entry l ∷ [] = ap (λ s. shown_inside s ++ last_inside p2.last) shown ∙ ap (λ z. xs ++ last_inside z) is in
    let fresh : mail_slots l.ticket xs ≡ None = mail_none xs l.ticket (λ x has same. let f = shown_entry p.shown x has in let lt = T.shown_below_next f.0 f.1 in absurd (omega (arith, lt, f.2, same, next))) in
    record {
      fresh = ap (mail_slots l.ticket) before ∙ fresh;
      come = ap (mail_slots l.ticket) after ∙ mail_last xs (last_entry l) fresh;
      others = λ u differ. ap (mail_slots u) after ∙ mail_others xs (last_entry l) u differ ∙ ap (mail_slots u) (sym before);
      inside = λ x has. ⊎_elim
          (λ old. inl (subst (λ ys. Contains ys x) (sym before) old))
          (λ new. inr (⊎_elim (λ one. one) (λ z. absurd (none_in x z)) (in_first (last_entry l) [] x new)))
          (Contains-append_cases xs (last_entry l ∷ []) x (subst (λ ys. Contains ys x) after has));
    }

pub last_leaves : (p p2 : Port) (l : LastGiven) → p.last ≡ Some l → p2.shown ≡ p.shown → p2.last ≡ None → IsTicketed p → IsLeaving p p2 (last_entry l)
last_leaves p p2 l is shown none T =
    let xs = shown_inside p.shown in
    let before : port_inside p ≡ xs ++ last_entry l ∷ [] = ap (λ z. xs ++ last_inside z) is in
    let after : port_inside p2 ≡ xs = ap (λ s. shown_inside s ++ last_inside p2.last) shown ∙ ap (λ z. xs ++ last_inside z) none ∙ append-nil xs in
    let fresh : mail_slots l.ticket xs ≡ None = mail_none xs l.ticket (λ x has same. let f = shown_entry p.shown x has in absurd (T.apart f.0 l f.1 is (sym same ∙ sym f.2))) in
    record {
      was = ap (mail_slots l.ticket) before ∙ mail_last xs (last_entry l) fresh;
      gone = ap (mail_slots l.ticket) after ∙ fresh;
      others = λ u differ. ap (mail_slots u) after ∙ sym (mail_others xs (last_entry l) u differ) ∙ ap (mail_slots u) (sym before);
      has = subst (λ ys. Contains ys (last_entry l)) (sym before) (Contains-append_right xs (last_entry l ∷ []) (last_entry l) (0, omega arith, refl));
      inside = λ x has. subst (λ ys. Contains ys x) (sym before) (Contains-append_left xs (last_entry l ∷ []) x (subst (λ ys. Contains ys x) after has));
    }

contains_behind : (e : Entry) (es : List Entry) (x : Entry) → Contains es x → Contains (e ∷ es) x
contains_behind e es x has = Contains-append_right (e ∷ []) es x has

last_entry_has : (l : Option LastGiven) (x : Entry) → Contains (last_inside l) x → (k : LastGiven) × (l ≡ Some k) × (k.ticket ≡ x.ticket)
last_entry_has None x has = absurd (none_in x has)
last_entry_has (Some k) x has = (k, refl, ⊎_elim (λ one. ap (λ (e : Entry). e.ticket) one) (λ none. absurd (none_in x none)) (in_first (last_entry k) [] x has))

pub shown_comes : (p p2 : Port) (f : ShownMessage) → p.shown ≡ None → p2.shown ≡ Some f → p2.last ≡ p.last → f.ticket ≡ p.next → IsTicketed p → IsComing p p2 (shown_entry_of f)
shown_comes p p2 f none is same next T =
    let xs = last_inside p.last in
    let before : port_inside p ≡ xs = ap (λ s. shown_inside s ++ xs) none in
    let after : port_inside p2 ≡ shown_entry_of f ∷ xs = ap (λ s. shown_inside s ++ last_inside p2.last) is ∙ ap (λ l. shown_entry_of f ∷ last_inside l) same in
    record {
      fresh = ap (mail_slots f.ticket) before ∙ mail_none xs f.ticket (λ x has under. let l = last_entry_has p.last x has in let lt = T.last_below_next l.0 l.1 in absurd (omega (arith, lt, l.2, under, next)));
      come = ap (mail_slots f.ticket) after ∙ mail_here (shown_entry_of f) xs;
      others = λ u differ. ap (mail_slots u) after ∙ mail_past (shown_entry_of f) xs u differ ∙ ap (mail_slots u) (sym before);
      inside = λ x has. ⊎_elim (λ one. inr one) (λ old. inl (subst (λ ys. Contains ys x) (sym before) old)) (in_first (shown_entry_of f) xs x (subst (λ ys. Contains ys x) after has));
    }

pub shown_leaves : (p p2 : Port) (f : ShownMessage) → p.shown ≡ Some f → p2.shown ≡ None → p2.last ≡ p.last → IsTicketed p → IsLeaving p p2 (shown_entry_of f)
shown_leaves p p2 f is gone same T =
    let xs = last_inside p.last in
    let before : port_inside p ≡ shown_entry_of f ∷ xs = ap (λ s. shown_inside s ++ xs) is in
    let after : port_inside p2 ≡ xs = ap (λ s. shown_inside s ++ last_inside p2.last) gone ∙ ap last_inside same in
    record {
      was = ap (mail_slots f.ticket) before ∙ mail_here (shown_entry_of f) xs;
      gone = ap (mail_slots f.ticket) after ∙ mail_none xs f.ticket (λ x has under. let l = last_entry_has p.last x has in absurd (T.apart f l.0 is l.1 (l.2 ∙ under)));
      others = λ u differ. ap (mail_slots u) after ∙ sym (mail_past (shown_entry_of f) xs u differ) ∙ ap (mail_slots u) (sym before);
      has = subst (λ ys. Contains ys (shown_entry_of f)) (sym before) (0, omega arith, refl);
      inside = λ x has. subst (λ ys. Contains ys x) (sym before) (contains_behind (shown_entry_of f) xs x (subst (λ ys. Contains ys x) after has));
    }

-- ---- A port that was given no last value has none.

abbrev Unspoken : PortShape → Type 0
Unspoken x = x.given ≡ false → x.last ≡ None

keeps : (x z : PortShape) → x.given ≡ z.given → x.last ≡ z.last → Unspoken x → Unspoken z
keeps x z given last inv g = sym last ∙ inv (given ∙ g)

unspoken_step : (x : PortShape) (e : PortEvent) (z : PortShape) → PortStep x e z → Unspoken x → Unspoken z
unspoken_step x (Shown t s w) z p inv = keeps x z (sym (ap (λ (y : PortShape). y.given) p.3)) (sym (ap (λ (y : PortShape). y.last) p.3)) inv
unspoken_step x (Grabbed t s w) z (inl l) inv = λ g. ap (λ (y : PortShape). y.last) l.after
unspoken_step x (Grabbed t s w) z (inr p) inv = keeps x z (sym (ap (λ (y : PortShape). y.given) p.2.1)) (sym (ap (λ (y : PortShape). y.last) p.2.1)) inv
unspoken_step x (Withdrawn t s w) z p inv = keeps x z (sym (ap (λ (y : PortShape). y.given) p.1)) (sym (ap (λ (y : PortShape). y.last) p.1)) inv
unspoken_step x (Last t s w) z p inv = λ g. absurd (let n : true ≡ false = sym (ap (λ (y : PortShape). y.given) p.4) ∙ g in let m : ⊥ = cc in m)
unspoken_step x (Fault t s w) z p inv = λ g. absurd (let n : true ≡ false = sym (ap (λ (y : PortShape). y.given) p.4) ∙ g in let m : ⊥ = cc in m)
unspoken_step x (Refused s w) z p inv = keeps x z (sym (ap (λ (y : PortShape). y.given) p.1)) (sym (ap (λ (y : PortShape). y.last) p.1)) inv
unspoken_step x (Late s w) z p inv = λ g. absurd (let n : true ≡ false = sym (ap (λ (y : PortShape). y.given) p.2) ∙ g in let m : ⊥ = cc in m)
unspoken_step x (Closed w) z p inv = keeps x z (sym (ap (λ (y : PortShape). y.given) p.1)) (sym (ap (λ (y : PortShape). y.last) p.1)) inv

unspoken : (x : PortShape) (es : List PortEvent) (y : PortShape) → Replays PortStep x es y → Unspoken x → Unspoken y
unspoken x [] y same inv = subst Unspoken same inv
unspoken x (e ∷ es) y (z, step, more) inv = unspoken z es y more (unspoken_step x e z step inv)

pub none_given : (p : Port) → Replays PortStep empty_port p.history (shape_of p) → p.given ≡ false → p.last ≡ None
none_given p replays ungiven = by p.last (unspoken empty_port p.history (shape_of p) replays (λ g. refl) ungiven)
  where
    by : (l : Option LastGiven) → (let k = option_map kept_of l in k) ≡ None → l ≡ None
    by None e = refl
    by (Some l) e = absurd (none-some (kept_of l) (sym e))
