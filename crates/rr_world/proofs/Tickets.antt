-- The message that a ticket names.
use Rattle.std.proofs.Common.{◌≡◌, ℕ, zero, suc, ◌<◌, get_or, Bool, true, false, nat_eq, eq-eqb, List, [], ◌∷◌, ◌++◌, length, map, Some, None, Contains, sym, ap, ◌∙◌, refl, arith, cond, subst}
use Rattle.std.specs.List.{AllPairs}
use Rattle.std.specs.List.Sorted.{IsStrictlyIncreasing}
use Rattle.std.proofs.lemmas.Bool.{eqb-true}
use Rattle.std.proofs.lemmas.List.Elements.{All-contains}
use Rattle.std.proofs.lemmas.List.Kept.{AllPairs-from_increasing}
use Rattle.std.proofs.lemmas.Option.{none-some}
use Rattle.rr_inbox.specs.Inboxes.{Inbox, IsTicketed}
use Rattle.rr_inbox.specs.declared.entry.Entry.{Entry}
use Rattle.rr_world.specs.Layouts.{message_slots, mail_slots}

abbrev pub ticket_of : Entry → ℕ
ticket_of e = e.ticket

differ_eq : (t u : ℕ) → (t ≡ u → ⊥) → nat_eq t u ≡ false
differ_eq t u differ = by (nat_eq t u) refl
  where
    by : (v : Bool) → nat_eq t u ≡ v → nat_eq t u ≡ false
    by true p = absurd (differ (eqb-true t u p))
    by false p = p

pub mail_none : (es : List Entry) (t : ℕ) → ((e : Entry) → Contains es e → e.ticket ≡ t → ⊥) → mail_slots t es ≡ None
mail_none [] t differ = refl
mail_none (e ∷ es) t differ =
    ap (λ v. cond v (Some (message_slots e.message)) (mail_slots t es)) (differ_eq t e.ticket (λ p. differ e (0, omega arith, refl) (sym p)))
    ∙ mail_none es t (λ x has. differ x (suc has.0, let lt = has.1 in omega arith, has.2))

pub mail_here : (e : Entry) (es : List Entry) → mail_slots e.ticket (e ∷ es) ≡ Some (message_slots e.message)
mail_here e es = ap (λ v. cond v (Some (message_slots e.message)) (mail_slots e.ticket es)) (eq-eqb e.ticket e.ticket refl)

pub mail_past : (e : Entry) (es : List Entry) (u : ℕ) → (u ≡ e.ticket → ⊥) → mail_slots u (e ∷ es) ≡ mail_slots u es
mail_past e es u differ = ap (λ v. cond v (Some (message_slots e.message)) (mail_slots u es)) (differ_eq u e.ticket differ)

pub mail_last : (es : List Entry) (e : Entry) → mail_slots e.ticket es ≡ None → mail_slots e.ticket (es ++ e ∷ []) ≡ Some (message_slots e.message)
mail_last [] e none = mail_here e []
mail_last (x ∷ xs) e none = by (nat_eq e.ticket x.ticket) refl (mail_last xs e)
  where
    by : (v : Bool) → nat_eq e.ticket x.ticket ≡ v → (mail_slots e.ticket xs ≡ None → mail_slots e.ticket (xs ++ e ∷ []) ≡ Some (message_slots e.message))
        → mail_slots e.ticket (x ∷ (xs ++ e ∷ [])) ≡ Some (message_slots e.message)
    by true p more = absurd (none-some (message_slots x.message) (sym none ∙ ap (λ v. cond v (Some (message_slots x.message)) (mail_slots e.ticket xs)) p))
    by false p more = ap (λ v. cond v (Some (message_slots x.message)) (mail_slots e.ticket (xs ++ e ∷ []))) p
        ∙ more (sym (ap (λ v. cond v (Some (message_slots x.message)) (mail_slots e.ticket xs)) p) ∙ none)

pub mail_others : (es : List Entry) (e : Entry) (u : ℕ) → (u ≡ e.ticket → ⊥) → mail_slots u (es ++ e ∷ []) ≡ mail_slots u es
mail_others [] e u differ = mail_past e [] u differ
mail_others (x ∷ xs) e u differ = ap (λ r. cond (nat_eq u x.ticket) (Some (message_slots x.message)) r) (mail_others xs e u differ)

-- the next ticket is none of those inside
pub next_is_new : (i : Inbox) → IsTicketed i → (e : Entry) → Contains i.inside e → e.ticket ≡ i.next → ⊥
next_is_new i t e has same = let lt : e.ticket < i.next = All-contains (λ (x : Entry). x.ticket < i.next) i.inside e t.below_next has in absurd (omega arith)

later : (e : Entry) (es : List Entry) → AllPairs (λ x y. x < y) (map ticket_of (e ∷ es)) → (x : Entry) → Contains es x → e.ticket < x.ticket
later e es all x has = by es has.0 has.1 has.2 (λ j d lt. all 0 (suc j) d (omega arith) (omega (arith, lt)))
  where
    by : (xs : List Entry) (k : ℕ) → k < length xs → get_or xs k x ≡ x → ((j : ℕ) (d : ℕ) → j < length (map ticket_of xs) → e.ticket < get_or (map ticket_of xs) j d) → e.ticket < x.ticket
    by [] k lt is below = absurd (omega arith)
    by (y ∷ ys) zero lt is below = subst (λ (z : Entry). e.ticket < z.ticket) is (below 0 0 (omega arith))
    by (y ∷ ys) (suc k) lt is below = by ys k (omega arith) is (λ j d less. below (suc j) d (omega (arith, less)))

-- the first message has another ticket than those behind it
pub first_differs : (i : Inbox) (e : Entry) (es : List Entry) → IsTicketed i → i.inside ≡ e ∷ es → (x : Entry) → Contains es x → x.ticket ≡ e.ticket → ⊥
first_differs i e es t first x has same =
    let rising : IsStrictlyIncreasing (map ticket_of (e ∷ es)) = subst (λ (xs : List Entry). IsStrictlyIncreasing (map ticket_of xs)) first t.rising in
    let lt : e.ticket < x.ticket = later e es (AllPairs-from_increasing (map ticket_of (e ∷ es)) rising) x has in
    absurd (omega arith)
