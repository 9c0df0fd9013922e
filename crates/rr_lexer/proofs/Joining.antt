-- Line ends left out in place: the tokens that are kept move to the front.
use Rattle.std.proofs.Common.{ℕ, ◌+◌, ◌<◌, ◌≤◌, ◌≡◌, Bool, true, false, cond, List, [], ◌∷◌, ◌++◌, length, length-set, reverse, get_or, set, suc, take, drop, refl, ap, sym, ◌∙◌, arith, append_assoc, append-nil, length-drop, ◌-◌}
use Rattle.std.proofs.Math.Seq.{drop-cons}
use native.Mathlib.Numerals.{unary_clauses}
use Rattle.std.proofs.lemmas.List.{take_more_set, drop-set-lt, take_all, drop_all, reverse-append}
use Rattle.rr_lexer.specs.Lines.{is_dropped, spaced, joined, joined_behind}
use Rattle.rr_lexer.specs.declared.kind.Token.{Token}

-- the kept tokens, the last one first
abbrev pub front_of : List Token → ℕ → List Token
front_of items kept = reverse (take kept items)

-- Of the old tokens those up to place i are read, and what is kept of them stands in front; the rest stands where it stood.
pub record Joins (old items : List Token) (kept i : ℕ) (gap : Bool) : Type 0 where
  pub size : length items ≡ length old
  pub room : kept ≤ i
  pub split : joined old ≡ take kept items ++ joined_behind (front_of items kept) gap (drop i items)

abbrev pub next_of : Bool → List Token → Bool → Token → List Token → List Token
next_of dropped front gap t ts = cond dropped (joined_behind front true ts) (spaced gap t ∷ joined_behind (spaced gap t ∷ front) false ts)

reads : (front : List Token) (gap : Bool) (t : Token) (ts : List Token) (dropped : Bool) → is_dropped front t.kind ts ≡ dropped
    → joined_behind front gap (t ∷ ts) ≡ next_of dropped front gap t ts
reads front gap t ts dropped e = rw e refl

pub joins_dropped : (old items : List Token) (kept i : ℕ) (gap : Bool) (t : Token) → drop i items ≡ t ∷ drop (i + 1) items
    → is_dropped (front_of items kept) t.kind (drop (i + 1) items) ≡ true → Joins old items kept i gap → Joins old items kept (i + 1) true
joins_dropped old items kept i gap t e d j =
    let now : joined_behind (front_of items kept) gap (drop i items) ≡ joined_behind (front_of items kept) true (drop (i + 1) items) =
    rw e (reads (front_of items kept) gap t (drop (i + 1) items) true d) in
    record { size = j.size; room = omega (arith, j.room); split = rw (← now) j.split }

front_more : (items : List Token) (kept : ℕ) (t : Token) → kept < length items → front_of (set items kept t) (kept + 1) ≡ t ∷ front_of items kept
front_more items kept t lt = rw (take_more_set items kept t lt) (reverse-append (take kept items) (t ∷ []))

pub joins_kept : (old items : List Token) (kept i : ℕ) (gap : Bool) (t : Token) → i < length items → drop i items ≡ t ∷ drop (i + 1) items
    → is_dropped (front_of items kept) t.kind (drop (i + 1) items) ≡ false → Joins old items kept i gap
    → Joins old (set items kept (spaced gap t)) (kept + 1) (i + 1) false
joins_kept old items kept i gap t lt e d j =
    let u = spaced gap t in
    let front = front_of items kept in
    let more = joined_behind (u ∷ front) false (drop (i + 1) items) in
    let now : joined_behind front gap (drop i items) ≡ u ∷ more = rw e (reads front gap t (drop (i + 1) items) false d) in
    let here : joined old ≡ take kept items ++ u ∷ more = rw (← now) j.split in
    let within : kept < length items = omega (arith, j.room, lt) in
    record {
      size = rw (length-set items kept u) j.size;
      room = omega (arith, j.room);
      split = rw (front_more items kept u within, take_more_set items kept u within, drop-set-lt (i + 1) items kept u (omega (arith, j.room)), append_assoc (take kept items) (u ∷ []) more) here;
    }

pub begins_with : (items : List Token) (i : ℕ) (t : Token) → i < length items → t ≡ get_or items i t → drop i items ≡ t ∷ drop (i + 1) items
begins_with items i t lt e = simp unary_clauses (drop-cons items i t lt ∙ ap (λ x. x ∷ drop (suc i) items) (sym e))

pub all_behind : (items : List Token) (i : ℕ) → take (length items - i) (drop i items) ≡ drop i items
all_behind items i = take_all _ _ (omega (arith, length-drop i items))

pub joins_all : (old items : List Token) (kept i : ℕ) (gap : Bool) → length items ≤ i → Joins old items kept i gap → take kept items ≡ joined old
joins_all old items kept i gap le j =
    let none : joined_behind (front_of items kept) gap (drop i items) ≡ [] = rw (drop_all i items le) refl in
    sym (j.split ∙ ap (λ x. take kept items ++ x) none ∙ append-nil (take kept items))
