-- The loop over the places, and that there is one tiling.
use Rattle.std.proofs.Common.{ℕ, ◌+◌, ◌-◌, ◌<◌, ◌≤◌, ◌≡◌, inl, inr, Bool, true, false, List, [], ◌∷◌, ◌++◌, length, take, drop, refl, ap, sym, ◌∙◌, arith, append_assoc, append-nil, length-drop}
use Rattle.std.proofs.lemmas.List.{take_all}
use Rattle.std.proofs.lemmas.Bool.{false≢true}
use Rattle.rr_lexer.specs.Tokens.{State, initial, Begins, NoneBegins, Tiles, start_of, Spelled, StuckAt, is_skipped, next, source_limit, AreTokensOf}
use Rattle.rr_lexer.specs.Tokens.Tiles.{stop, skip, token}
use Rattle.rr_lexer.specs.Lines.{joined}
use Rattle.rr_lexer.specs.declared.kind.Kind.{Kind}
use Rattle.rr_lexer.specs.declared.kind.Token.{Token}

-- Whatever tokens follow from a place on, they complete these.
abbrev pub LeadsTo : List ℕ → List Token → State → ℕ → Type 0
LeadsTo source tokens s place = (more : List Token) (last : State) (end : ℕ) → Tiles source s place more last end → Tiles source initial (start_of source) (tokens ++ more) last end

pub leads_start : (source : List ℕ) → LeadsTo source [] initial (start_of source)
leads_start source more last end t = t

pub leads_skip : (source : List ℕ) (tokens : List Token) (s : State) (place n : ℕ) (kind : Kind) → Begins s (drop place source) kind n → is_skipped kind ≡ true
    → LeadsTo source tokens s place → LeadsTo source tokens (next kind s) (place + n)
leads_skip source tokens s place n kind b e l more last end t = l more last end (skip b e t)

pub leads_token : (source : List ℕ) (tokens : List Token) (s : State) (place n : ℕ) (kind : Kind) → Begins s (drop place source) kind n → is_skipped kind ≡ false
    → LeadsTo source tokens s place
    → LeadsTo source (tokens ++ record { start = place; end = place + n; kind = kind; blank = s.blank } ∷ []) (next kind s) (place + n)
leads_token source tokens s place n kind b e l more last end t = rw append_assoc (l _ last end (token b e t))

pub leads_here : (source : List ℕ) (tokens : List Token) (s : State) (place : ℕ) → LeadsTo source tokens s place → Tiles source initial (start_of source) tokens s place
leads_here source tokens s place l = let t = rw append-nil at (l [] s place stop) in t

-- two tokens that begin at one place are one
same_token : (st : State) (s : List ℕ) (k j : Kind) (n m : ℕ) → Begins st s k n → Begins st s j m → (n ≡ m) × (k ≡ j)
same_token st s k j n m b d = elim (b.longest j m d.within d.spelled) [
  | inr e ↦ (sym e.0, sym e.1)
  | inl l ↦ elim (d.longest k n b.within b.spelled) [ inr e ↦ (e.0, e.1) | inl g ↦ absurd (omega arith) ]
]

-- nothing begins at the end
not_at_end : (st : State) (s : List ℕ) (i n : ℕ) (k : Kind) → i ≡ length s → Begins st (drop i s) k n → ⊥
not_at_end st s i n k e b = omega (arith, b.some, b.within, length-drop i s)

-- the source cannot be stuck at a place before its end and yet be spelled
pub not_both : {source : List ℕ} {s p_last q_last : State} {i p q : ℕ} {xs ys : List Token} → Tiles source s i xs p_last p → p < length source → NoneBegins p_last (drop p source)
    → Tiles source s i ys q_last q → q ≡ length source → ⊥
not_both stop h f stop e = omega arith
not_both stop h f (skip {n = n} {kind = kind} b g t) e = f kind n b.within b.spelled
not_both stop h f (token {n = n} {kind = kind} b g t) e = f kind n b.within b.spelled
not_both {source} (skip {s} {i = i} {n = n} {kind = kind} b g t) h f stop e = not_at_end s source i n kind e b
not_both {source} (token {s} {i = i} {n = n} {kind = kind} b g t) h f stop e = not_at_end s source i n kind e b
not_both {source} (skip {s} {i = i} {n = n} {kind = kind} b g t) h f (skip {n = m} {kind = j} d k u) e =
    let o = same_token s (drop i source) kind j n m b d in
    let v = rw (← o.0, ← o.1) at u in not_both t h f v e
not_both {source} (skip {s} {i = i} {n = n} {kind = kind} b g t) h f (token {n = m} {kind = j} d k u) e =
    let o = same_token s (drop i source) kind j n m b d in
    let v = rw (← o.0, ← o.1) at u in not_both t h f v e
not_both {source} (token {s} {i = i} {n = n} {kind = kind} b g t) h f (skip {n = m} {kind = j} d k u) e =
    let o = same_token s (drop i source) kind j n m b d in
    let v = rw (← o.0, ← o.1) at u in not_both t h f v e
not_both {source} (token {s} {i = i} {n = n} {kind = kind} b g t) h f (token {n = m} {kind = j} d k u) e =
    let o = same_token s (drop i source) kind j n m b d in
    let v = rw (← o.0, ← o.1) at u in not_both t h f v e

-- two tilings of the whole source are one
pub one_tiling : {source : List ℕ} {s p_last q_last : State} {i p q : ℕ} {xs ys : List Token} → Tiles source s i xs p_last p → p ≡ length source
    → Tiles source s i ys q_last q → q ≡ length source → xs ≡ ys
one_tiling stop h stop e = refl
one_tiling {source} {s} {i = i} stop h (skip {n = n} {kind = kind} b g t) e = absurd (not_at_end s source i n kind h b)
one_tiling {source} {s} {i = i} stop h (token {n = n} {kind = kind} b g t) e = absurd (not_at_end s source i n kind h b)
one_tiling {source} (skip {s} {i = i} {n = n} {kind = kind} b g t) h stop e = absurd (not_at_end s source i n kind e b)
one_tiling {source} (token {s} {i = i} {n = n} {kind = kind} b g t) h stop e = absurd (not_at_end s source i n kind e b)
one_tiling {source} (skip {s} {i = i} {n = n} {kind = kind} b g t) h (skip {n = m} {kind = j} d k u) e =
    let o = same_token s (drop i source) kind j n m b d in
    let v = rw (← o.0, ← o.1) at u in one_tiling t h v e
one_tiling {source} (skip {s} {i = i} {n = n} {kind = kind} b g t) h (token {n = m} {kind = j} d k u) e =
    let o = same_token s (drop i source) kind j n m b d in
    absurd (false≢true (sym k ∙ sym (ap is_skipped o.1) ∙ g))
one_tiling {source} (token {s} {i = i} {n = n} {kind = kind} b g t) h (skip {n = m} {kind = j} d k u) e =
    let o = same_token s (drop i source) kind j n m b d in
    absurd (false≢true (sym g ∙ ap is_skipped o.1 ∙ k))
one_tiling {source} (token {s} {i = i} {n = n} {kind = kind} b g t) h (token {n = m} {kind = j} d k u) e =
    let o = same_token s (drop i source) kind j n m b d in
    let v = rw (← o.0, ← o.1) at u in
    let r = one_tiling t h v e in
    rw (← o.0, ← o.1, r) refl

pub same_tokens : (source : List ℕ) (a b : List Token) → AreTokensOf source a → AreTokensOf source b → a ≡ b
same_tokens source a b x y = x.joined_is ∙ ap joined (one_tiling x.spelled.1 refl y.spelled.1 refl) ∙ sym y.joined_is

pub stuck_is_not_spelled : (source : List ℕ) (place : ℕ) → StuckAt source place → (tokens : List Token) → Spelled source tokens → ⊥
stuck_is_not_spelled source place s tokens t = not_both s.before s.within s.stuck t.1 refl

pub rest_is : (s : List ℕ) (i : ℕ) → take (length s - i) (drop i s) ≡ drop i s
rest_is s i = take_all _ _ (omega (arith, length-drop i s))

-- The state of the loop at a place. Tokens are kept only of a source that is short enough.
pub record Reached (source : List ℕ) (kept : List Token) (s : State) (place : ℕ) : Type 0 where
  pub tokens : List Token
  pub kept_is : length source ≤ source_limit → kept ≡ tokens
  pub leads : LeadsTo source tokens s place

pub reached_start : (source : List ℕ) → Reached source [] initial (start_of source)
reached_start source = record { tokens = []; kept_is = λ _. refl; leads = leads_start source }

pub reached_skip : (source : List ℕ) (kept : List Token) (s : State) (place n : ℕ) (kind : Kind) → Begins s (drop place source) kind n → is_skipped kind ≡ true
    → Reached source kept s place → Reached source kept (next kind s) (place + n)
reached_skip source kept s place n kind b e r = record { tokens = r.tokens; kept_is = r.kept_is; leads = leads_skip source r.tokens s place n kind b e r.leads }

pub reached_token : (source : List ℕ) (kept : List Token) (s : State) (place n : ℕ) (kind : Kind) → Begins s (drop place source) kind n → is_skipped kind ≡ false
    → Reached source kept s place
    → Reached source (kept ++ record { start = place; end = place + n; kind = kind; blank = s.blank } ∷ []) (next kind s) (place + n)
reached_token source kept s place n kind b e r = record {
  tokens = r.tokens ++ record { start = place; end = place + n; kind = kind; blank = s.blank } ∷ [];
  kept_is = λ h. ap (λ x. x ++ record { start = place; end = place + n; kind = kind; blank = s.blank } ∷ []) (r.kept_is h);
  leads = leads_token source r.tokens s place n kind b e r.leads;
}

lost_by : (source : List ℕ) (kept : List Token) (s : State) (place n : ℕ) (kind : Kind) (x : Bool) → is_skipped kind ≡ x → source_limit < length source → Begins s (drop place source) kind n
    → Reached source kept s place → Reached source kept (next kind s) (place + n)
lost_by source kept s place n kind true e l b r = reached_skip source kept s place n kind b e r
lost_by source kept s place n kind false e l b r = record {
  tokens = r.tokens ++ record { start = place; end = place + n; kind = kind; blank = s.blank } ∷ [];
  kept_is = λ h. absurd (omega (arith, h, l));
  leads = leads_token source r.tokens s place n kind b e r.leads;
}

pub reached_lost : (source : List ℕ) (kept : List Token) (s : State) (place n : ℕ) (kind : Kind) → source_limit < length source → Begins s (drop place source) kind n
    → Reached source kept s place → Reached source kept (next kind s) (place + n)
reached_lost source kept s place n kind l b r = lost_by source kept s place n kind (is_skipped kind) refl l b r

pub reached_end : (source : List ℕ) (kept : List Token) (s : State) (place : ℕ) → place ≡ length source → length source ≤ source_limit → Reached source kept s place → Spelled source kept
reached_end source kept s place e h r = (s, rw (← e, r.kept_is h) (leads_here source r.tokens s place r.leads))

pub reached_all : (source : List ℕ) (kept : List Token) (s : State) (place : ℕ) → place ≡ length source → Reached source kept s place → (tokens : List Token) × Spelled source tokens
reached_all source kept s place e r = (r.tokens, (s, rw (← e) (leads_here source r.tokens s place r.leads)))

pub reached_stuck : (source : List ℕ) (kept : List Token) (s : State) (place : ℕ) → place < length source → NoneBegins s (drop place source) → Reached source kept s place → StuckAt source place
reached_stuck source kept s place l f r = record { tokens = r.tokens; state = s; before = leads_here source r.tokens s place r.leads; within = l; stuck = f }
