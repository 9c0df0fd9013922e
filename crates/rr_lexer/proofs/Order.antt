-- The spans of tokens are in order, and a blank stands before a token exactly where bytes do.
use Rattle.std.proofs.Common.{ℕ, ◌+◌, ◌<◌, ◌≤◌, ◌≡◌, ◌||◌, ◌↔◌, IsTrue, Bool, true, false, cond, List, [], ◌∷◌, length, nat_lt, refl, sym, ◌∙◌, arith}
use Rattle.std.proofs.lemmas.Bool.{lt-ltb, le-ltb, ltb-true, ltb-false, ltb_from_iff}
use Rattle.rr_lexer.specs.Tokens.{State, Tiles, AreTokensOf, start_of}
use Rattle.rr_lexer.specs.Tokens.Tiles.{stop, skip, token}
use Rattle.rr_lexer.specs.Lines.{is_dropped, spaced, joined_behind}
use Rattle.rr_lexer.specs.Laws.{AreInOrder}
use Rattle.rr_lexer.specs.Laws.AreInOrder.{done, further}
use Rattle.rr_lexer.specs.declared.kind.Token.{Token}

-- a blank that tells whether bytes stand there
as_told : (k i : ℕ) (b : Bool) → b ≡ nat_lt k i → IsTrue b ↔ (k < i)
as_told k i b e = rw e (λ h. ltb-true k i h, λ h. lt-ltb k i h)

pub tiles_in_order : {source : List ℕ} {s last : State} {i j : ℕ} {ts : List Token} (k : ℕ) → k ≤ i → s.blank ≡ nat_lt k i → Tiles source s i ts last j → AreInOrder k ts j
tiles_in_order k l e stop = done l
tiles_in_order {i = i} k l e (skip {n = n} {kind = kind} b g t) =
    let past : k < i + n = omega (arith, b.some) in
    tiles_in_order k (omega arith) (g ∙ sym (lt-ltb k (i + n) past)) t
tiles_in_order {i = i} k l e (token {n = n} {kind = kind} b g t) =
    further l (omega (arith, b.some)) (as_told k i _ e) (tiles_in_order (i + n) (omega arith) (g ∙ sym (le-ltb (i + n) (i + n) (omega arith))) t)

-- what was left out before a token, and what stood before it
gap_before : (k i start : ℕ) (b : Bool) → k ≤ i → i ≤ start → b ≡ nat_lt i start → (nat_lt k i || b) ≡ nat_lt k start
gap_before k i start b l m e = by_gap (nat_lt k i) refl where
  by_gap : (x : Bool) → nat_lt k i ≡ x → (x || b) ≡ nat_lt k start
  by_gap true h = let past : k < start = omega (arith, ltb-true k i h) in sym (lt-ltb k start past)
  by_gap false h = let same : k ≡ i = omega (arith, ltb-false k i h) in rw same e

module _ (front : List Token) (k i j : ℕ) (t : Token) (ts : List Token) where
  kept_or_dropped : (x : Bool) → k ≤ i → i ≤ t.start → t.start < t.end → (IsTrue t.blank ↔ (i < t.start))
      → AreInOrder k (joined_behind front true ts) j → AreInOrder t.end (joined_behind (spaced (nat_lt k i) t ∷ front) false ts) j
      → AreInOrder k (cond x (joined_behind front true ts) (spaced (nat_lt k i) t ∷ joined_behind (spaced (nat_lt k i) t ∷ front) false ts)) j
  kept_or_dropped true l h m b dropped kept = dropped
  kept_or_dropped false l h m b dropped kept = further (omega arith) m (as_told k t.start _ (gap_before k i t.start t.blank l h (ltb_from_iff b))) kept

joined_in_order : {i j : ℕ} {ts : List Token} (front : List Token) (k : ℕ) (gap : Bool) → k ≤ i → gap ≡ nat_lt k i → AreInOrder i ts j → AreInOrder k (joined_behind front gap ts) j
joined_in_order front k gap l e (done h) = done (omega arith)
joined_in_order front k gap l e (further {i} {j} {t} {ts} h m b o) =
    let past : k < t.end = omega arith in
    rw e (kept_or_dropped front k i j t ts (is_dropped front t.kind ts) l h m b
    (joined_in_order front k true (omega arith) (sym (lt-ltb k t.end past)) o)
    (joined_in_order (spaced (nat_lt k i) t ∷ front) t.end false (omega arith) (sym (le-ltb t.end t.end (omega arith))) o))

pub in_order : (source : List ℕ) (tokens : List Token) → AreTokensOf source tokens → AreInOrder (start_of source) tokens (length source)
in_order source tokens t =
    let start = start_of source in
    let none : false ≡ nat_lt start start = sym (le-ltb start start (omega arith)) in
    rw t.joined_is (joined_in_order [] start false (omega arith) none (tiles_in_order start (omega arith) none t.spelled.1))
