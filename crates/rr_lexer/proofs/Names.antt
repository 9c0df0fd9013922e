-- What a word is.
use Rattle.std.proofs.Common.{ℕ, zero, suc, ◌+◌, ◌<◌, ◌≤◌, ◌≡◌, ◌==◌, ◌≢◌, ◌⊎◌, inl, inr, ◌||◌, not, Bool, true, false, cond, List, [], ◌∷◌, ◌++◌, length, take, drop, get_or, refl, ap, sym, ◌∙◌, arith, Option, Some, None, length-take, length-drop, length-append}
use Rattle.std.proofs.lemmas.Slice.Eq.{bytes_eq-Decides}
use Rattle.std.proofs.lemmas.Bool.{false≢true, eqb-true, eqb-false, ne_eqb}
use Rattle.std.specs.Str.{bytes_eq}
use Rattle.std.specs.List.{prefix_len}
use Rattle.rr_lexer.specs.Bytes.{class_of, goes_on, is_word_byte}
use Rattle.rr_lexer.specs.Words.{keyword_text, is_left_out, takes_mark, takes_colon}
use Rattle.rr_lexer.specs.Scans.{keyword_among, keyword_from, keywords_of_size, reserved_or_name, word_kind, unless_left_out, sized, lower_at, upper_at}
use Rattle.rr_lexer.specs.Tokens.{State, IsWord, IsPlain, IsMarked, IsLabel, IsPrefixed, IsFree, Spells}
use Rattle.rr_lexer.specs.declared.class.Class.{Class}
use Rattle.rr_lexer.specs.declared.class.Class.TheVariants as classes
use Rattle.rr_lexer.specs.declared.kind.Keyword.{Keyword}
use Rattle.rr_lexer.specs.declared.kind.Keyword.TheVariants as keywords
use Rattle.rr_lexer.specs.declared.kind.Kind.{Kind}
use Rattle.rr_lexer.specs.declared.kind.Kind.TheVariants as kinds
use Rattle.rr_lexer.proofs.Heads.{chosen, some_same, same_head, head_is, size_is, cut, whole, and_true, or_true, byte_within, split, one_longer, ended, at_drop, at_drops, here}
use Rattle.rr_lexer.proofs.Prefixes.{prefix_unique, prefix_stops, prefix_passes, prefix_within}
use Rattle.rr_lexer.proofs.Classes.{no_word_byte}

-- the table of keywords

among_sound : (word : List ℕ) (ks : List Keyword) (k : Keyword) → keyword_among word ks ≡ Some k → word ≡ keyword_text k
among_sound word [] k h = absurd cc
among_sound word (j ∷ ks) k h = elim (chosen (bytes_eq word (keyword_text j)) (Some j) (keyword_among word ks) (Some k) h) [
  | inl q ↦ (bytes_eq-Decides word (keyword_text j)).0 q.0 ∙ ap keyword_text (some_same q.1)
  | inr q ↦ among_sound word ks k q.1
]

keyword_sound : (word : List ℕ) (k : Keyword) → keyword_from word ≡ Some k → word ≡ keyword_text k
unfolding keyword_from
keyword_sound word k h = among_sound word (keywords_of_size (length word)) k h

keyword_found : (k : Keyword) → keyword_from (keyword_text k) ≡ Some k
unfolding keyword_from
keyword_found keywords.And = refl
keyword_found keywords.Begin = refl
keyword_found keywords.Break = refl
keyword_found keywords.Class = refl
keyword_found keywords.Def = refl
keyword_found keywords.Do = refl
keyword_found keywords.Else = refl
keyword_found keywords.Elsif = refl
keyword_found keywords.End = refl
keyword_found keywords.Ensure = refl
keyword_found keywords.False = refl
keyword_found keywords.If = refl
keyword_found keywords.Next = refl
keyword_found keywords.Nil = refl
keyword_found keywords.Not = refl
keyword_found keywords.Or = refl
keyword_found keywords.Rescue = refl
keyword_found keywords.Return = refl
keyword_found keywords.SelfWord = refl
keyword_found keywords.SuperWord = refl
keyword_found keywords.Then = refl
keyword_found keywords.True = refl
keyword_found keywords.Unless = refl
keyword_found keywords.Until = refl
keyword_found keywords.While = refl
keyword_found keywords.Yield = refl

none_step : (word : List ℕ) (j : Keyword) (ks : List Keyword) (b : Bool) → bytes_eq word (keyword_text j) ≡ b → ((k : Keyword) → word ≢ keyword_text k)
    → keyword_among word ks ≡ None → ◌≡◌ {A = Option Keyword} (cond b (Some j) (keyword_among word ks)) None
none_step word j ks true e h r = absurd (h j ((bytes_eq-Decides word (keyword_text j)).0 e))
none_step word j ks false e h r = r

among_none : (word : List ℕ) (ks : List Keyword) → ((k : Keyword) → word ≢ keyword_text k) → keyword_among word ks ≡ None
among_none word [] h = refl
among_none word (j ∷ ks) h = none_step word j ks (bytes_eq word (keyword_text j)) refl h (among_none word ks h)

keyword_none : (word : List ℕ) → ((k : Keyword) → word ≢ keyword_text k) → keyword_from word ≡ None
unfolding keyword_from
keyword_none word h = among_none word (keywords_of_size (length word)) h

-- what a word is, behind `.` or not
abbrev pub IsKind : Bool → List ℕ → Kind → Type 0
IsKind after_dot word kind = ((kind ≡ kinds.Name) × ((after_dot ≡ true) ⊎ IsFree word))
    ⊎ ((k : Keyword) × (kind ≡ kinds.Keyword k) × (after_dot ≡ false) × (word ≡ keyword_text k))

no_keyword : (word : List ℕ) → keyword_from word ≡ None → (k : Keyword) → word ≢ keyword_text k
no_keyword word h k e =
    let f : keyword_from word ≡ Some k = ap keyword_from e ∙ keyword_found k in
    let g : ◌≡◌ {A = Option Keyword} None (Some k) = sym h ∙ f in
    cc

reserved_sound : (word : List ℕ) (x : Option Keyword) (y : Bool) (kind : Kind) → keyword_from word ≡ x → is_left_out word ≡ y → reserved_or_name x y ≡ Some kind → IsKind false word kind
reserved_sound word (Some k) y kind e f h = let g : kinds.Keyword k ≡ kind = some_same h in inr (k, sym g, refl, keyword_sound word k e)
reserved_sound word None true kind e f h = absurd cc
reserved_sound word None false kind e f h = let g : kinds.Name ≡ kind = some_same h in inl (sym g, inr (record { no_keyword = no_keyword word e; not_left_out = f }))

kind_sound : (after_dot : Bool) (word : List ℕ) (kind : Kind) → word_kind after_dot word ≡ Some kind → IsKind after_dot word kind
kind_sound true word kind h = let g : kinds.Name ≡ kind = some_same h in inl (sym g, inl refl)
kind_sound false word kind h = reserved_sound word (keyword_from word) (is_left_out word) kind refl refl h

name_found : (after_dot : Bool) (word : List ℕ) → (after_dot ≡ true) ⊎ IsFree word → word_kind after_dot word ≡ Some kinds.Name
name_found true word h = refl
name_found false word (inl e) = absurd (false≢true e)
name_found false word (inr f) = rw (keyword_none word f.no_keyword, f.not_left_out) refl

pub keyword_kind : (after_dot : Bool) (word : List ℕ) (k : Keyword) → after_dot ≡ false → word ≡ keyword_text k → word_kind after_dot word ≡ Some (kinds.Keyword k)
keyword_kind after_dot word k e f = rw (e, f, keyword_found k) refl

sized_some : (n : ℕ) (x : Option Kind) (p : Kind × ℕ) → sized n x ≡ Some p → (x ≡ Some p.0) × (n ≡ p.1)
sized_some n None p h = absurd cc
sized_some n (Some kind) p h = let e : (kind, n) ≡ p = some_same h in (ap (λ x. Some x.0) e, ap (λ x. x.1) e)

-- what a word of another form is
unless_some : (kind found : Kind) (after_dot : Bool) (word : List ℕ) → unless_left_out kind after_dot word ≡ Some found → (found ≡ kind) × ((after_dot ≡ true) ⊎ (is_left_out word ≡ false))
unless_some kind found true word h = (sym (some_same h), inl refl)
unless_some kind found false word h = elim (chosen (is_left_out word) None (Some kind) (Some found) h) [
  | inl q ↦ absurd (let g = q.1 in cc)
  | inr q ↦ (sym (some_same q.1), inr q.0)
]

unless_found : (kind : Kind) (after_dot : Bool) (word : List ℕ) → (after_dot ≡ true) ⊎ (is_left_out word ≡ false) → unless_left_out kind after_dot word ≡ Some kind
unless_found kind true word h = refl
unless_found kind false word (inl e) = absurd (false≢true e)
unless_found kind false word (inr e) = rw e refl

-- the bytes that go with a word

not_true : (x : Bool) → not x ≡ true → x ≡ false
not_true true h = absurd cc
not_true false h = refl

mark_bytes : (b c : ℕ) → takes_mark b c ≡ true → ((b ≡ 63) ⊎ (b ≡ 33)) × ((c == 61) ≡ false)
mark_bytes b c h =
    let t = and_true (b == 63 || b == 33) (not (c == 61)) h in
    (elim (or_true (b == 63) (b == 33) t.0) [ inl e ↦ inl (eqb-true b 63 e) | inr e ↦ inr (eqb-true b 33 e) ], not_true (c == 61) t.1)

pub mark_within : (s : List ℕ) (n c : ℕ) → takes_mark (get_or s n 0) c ≡ true → n < length s
mark_within s n c h = elim (mark_bytes (get_or s n 0) c h).0 [ inl e ↦ byte_within s n (λ z. absurd (omega (arith, e, z))) | inr e ↦ byte_within s n (λ z. absurd (omega (arith, e, z))) ]

mark_no_colon : (b c : ℕ) → takes_mark b c ≡ true → takes_colon b c ≡ false
mark_no_colon b c h = elim (mark_bytes b c h).0 [ inl e ↦ rw e refl | inr e ↦ rw e refl ]

colon_bytes : (b c : ℕ) → takes_colon b c ≡ true → (b ≡ 58) × (c ≢ 58)
colon_bytes b c h =
    let t = and_true (b == 58) (not (c == 58)) h in
    (eqb-true b 58 t.0, eqb-false c 58 (not_true (c == 58) t.1))

colon_taken : (c : ℕ) → c ≢ 58 → takes_colon 58 c ≡ true
colon_taken c h = rw (ne_eqb c 58 h) refl

colon_ends : is_word_byte 58 ≡ false
unfolding class_of
colon_ends = refl

-- the run of bytes of words at the front

pub first_word_byte : (s : List ℕ) (c : Class) → class_of (get_or s 0 0) ≡ c → goes_on c ≡ true → 0 < prefix_len is_word_byte s
unfolding class_of
first_word_byte [] c e g = let h = rw (← e) at g in absurd cc
first_word_byte (x ∷ xs) c e g = rw (e, g) (omega arith)

word_here : (s : List ℕ) (c : Class) (after : List ℕ) → class_of (get_or s 0 0) ≡ c → goes_on c ≡ true → is_word_byte (get_or after 0 0) ≡ false
    → IsWord c (take (prefix_len is_word_byte s) s) after
word_here s c after e g w = record {
  starts = rw (same_head s (prefix_len is_word_byte s) (first_word_byte s c e g)) e;
  goes = prefix_passes is_word_byte s;
  whole = w;
}

-- The word at the front spells what the scan finds.
pub record WordFound (st : State) (s : List ℕ) (p : Kind × ℕ) : Type 0 where
  pub some : 0 < p.1
  pub within : p.1 ≤ length s
  pub spelled : Spells st p.0 (take p.1 s) (drop p.1 s)

at_place : (st : State) (s : List ℕ) (q p : Kind × ℕ) → q ≡ p → WordFound st s q → WordFound st s p
at_place st s q p e f = rw (← e) f

the_label : (s : List ℕ) (c : Class) → class_of (get_or s 0 0) ≡ c → goes_on c ≡ true → (c ≡ classes.Lower) ⊎ (c ≡ classes.Upper)
    → takes_colon (get_or s (prefix_len is_word_byte s) 0) (get_or s (prefix_len is_word_byte s + 1) 0) ≡ true
    → (prefix_len is_word_byte s < length s) × IsLabel (take (prefix_len is_word_byte s + 1) s) (drop (prefix_len is_word_byte s + 1) s)
the_label s c e g k h =
    let n = prefix_len is_word_byte s in
    let b = colon_bytes (get_or s n 0) (get_or s (n + 1) 0) h in
    let l : n < length s = byte_within s n (λ z. absurd (omega (arith, b.0, z))) in
    let w = word_here s c (58 ∷ drop (n + 1) s) e g colon_ends in (
      l,
      record {
        front = take n s;
        word_is = one_longer s n l ∙ ap (λ x. take n s ++ x ∷ []) b.0;
        is_word = elim k [ inl t ↦ inl (rw (← t) w) | inr t ↦ inr (rw (← t) w) ];
        free = rw (here s (n + 1)) b.1;
      },
    )

label_found : (st : State) (s : List ℕ) (c : Class) (p : Kind × ℕ) → class_of (get_or s 0 0) ≡ c → goes_on c ≡ true → (c ≡ classes.Lower) ⊎ (c ≡ classes.Upper)
    → takes_colon (get_or s (prefix_len is_word_byte s) 0) (get_or s (prefix_len is_word_byte s + 1) 0) ≡ true
    → ◌≡◌ {A = Option (Kind × ℕ)} (Some (kinds.Label, prefix_len is_word_byte s + 1)) (Some p) → WordFound st s p
label_found st s c p e g k h q =
    let f = the_label s c e g k h in
    at_place st s _ p (some_same q) (record { some = omega arith; within = omega (arith, f.0); spelled = f.1 })

marked_found : (st : State) (s : List ℕ) (p : Kind × ℕ) → class_of (get_or s 0 0) ≡ classes.Lower
    → takes_mark (get_or s (prefix_len is_word_byte s) 0) (get_or s (prefix_len is_word_byte s + 1) 0) ≡ true
    → sized (prefix_len is_word_byte s + 1) (unless_left_out kinds.Name st.after_dot (take (prefix_len is_word_byte s + 1) s)) ≡ Some p → WordFound st s p
marked_found st s p e h q =
    let n = prefix_len is_word_byte s in
    let l = mark_within s n (get_or s (n + 1) 0) h in
    let f = sized_some (n + 1) (unless_left_out kinds.Name st.after_dot (take (n + 1) s)) p q in
    let u = unless_some kinds.Name p.0 st.after_dot (take (n + 1) s) f.0 in
    let stops : is_word_byte (get_or s n 0) ≡ false = rw (← here s n) (prefix_stops is_word_byte no_word_byte s) in
    let m : IsMarked (take (n + 1) s) (drop (n + 1) s) = record {
      front = take n s;
      mark = get_or s n 0;
      word_is = one_longer s n l;
      is_word = word_here s classes.Lower (get_or s n 0 ∷ drop (n + 1) s) e refl stops;
      marked = rw (here s (n + 1)) h;
    } in
    record {
      some = rw (← f.1) (omega arith);
      within = rw (← f.1) (omega (arith, l));
      spelled = rw (← f.1, u.0) (inr (m, u.1));
    }

the_plain : (s : List ℕ) → class_of (get_or s 0 0) ≡ classes.Lower
    → takes_mark (get_or s (prefix_len is_word_byte s) 0) (get_or s (prefix_len is_word_byte s + 1) 0) ≡ false
    → IsPlain (take (prefix_len is_word_byte s) s) (drop (prefix_len is_word_byte s) s)
the_plain s e h =
    let n = prefix_len is_word_byte s in
    record {
      is_word = word_here s classes.Lower (drop n s) e refl (prefix_stops is_word_byte no_word_byte s);
      unmarked = rw (here s n, at_drop s n 1) h;
    }

spells_word : (st : State) (kind : Kind) (word after : List ℕ) → IsPlain word after → IsKind st.after_dot word kind → Spells st kind word after
spells_word st kind word after w (inl k) = rw k.0 (inl (w, k.1))
spells_word st kind word after w (inr k) = rw k.1 (k.2, w, k.3)

plain_found : (st : State) (s : List ℕ) (p : Kind × ℕ) → class_of (get_or s 0 0) ≡ classes.Lower
    → takes_mark (get_or s (prefix_len is_word_byte s) 0) (get_or s (prefix_len is_word_byte s + 1) 0) ≡ false
    → sized (prefix_len is_word_byte s) (word_kind st.after_dot (take (prefix_len is_word_byte s) s)) ≡ Some p → WordFound st s p
plain_found st s p e h q =
    let n = prefix_len is_word_byte s in
    let f = sized_some n (word_kind st.after_dot (take n s)) p q in
    record {
      some = rw (← f.1) (first_word_byte s classes.Lower e refl);
      within = rw (← f.1) (prefix_within is_word_byte s);
      spelled = rw (← f.1) (spells_word st p.0 (take n s) (drop n s) (the_plain s e h) (kind_sound st.after_dot (take n s) p.0 f.0));
    }

pub lower_sound : (st : State) (s : List ℕ) (p : Kind × ℕ) → class_of (get_or s 0 0) ≡ classes.Lower → lower_at st.after_dot s ≡ Some p → WordFound st s p
unfolding lower_at
lower_sound st s p e h =
    let n = prefix_len is_word_byte s in
    elim (chosen (takes_colon (get_or s n 0) (get_or s (n + 1) 0)) _ _ (Some p) h) [
      | inl q ↦ label_found st s classes.Lower p e refl (inl refl) q.0 q.1
      | inr q ↦ elim (chosen (takes_mark (get_or s n 0) (get_or s (n + 1) 0)) _ _ (Some p) q.1) [
        | inl t ↦ marked_found st s p e t.0 t.1
        | inr t ↦ plain_found st s p e t.0 t.1
      ]
    ]

constant_found : (st : State) (s : List ℕ) (p : Kind × ℕ) → class_of (get_or s 0 0) ≡ classes.Upper
    → sized (prefix_len is_word_byte s) (unless_left_out kinds.Constant st.after_dot (take (prefix_len is_word_byte s) s)) ≡ Some p → WordFound st s p
constant_found st s p e q =
    let n = prefix_len is_word_byte s in
    let f = sized_some n (unless_left_out kinds.Constant st.after_dot (take n s)) p q in
    let u = unless_some kinds.Constant p.0 st.after_dot (take n s) f.0 in
    record {
      some = rw (← f.1) (first_word_byte s classes.Upper e refl);
      within = rw (← f.1) (prefix_within is_word_byte s);
      spelled = rw (← f.1, u.0) (word_here s classes.Upper (drop n s) e refl (prefix_stops is_word_byte no_word_byte s), u.1);
    }

pub upper_sound : (st : State) (s : List ℕ) (p : Kind × ℕ) → class_of (get_or s 0 0) ≡ classes.Upper → upper_at st.after_dot s ≡ Some p → WordFound st s p
unfolding upper_at
upper_sound st s p e h =
    let n = prefix_len is_word_byte s in
    elim (chosen (takes_colon (get_or s n 0) (get_or s (n + 1) 0)) _ _ (Some p) h) [
      | inl q ↦ label_found st s classes.Upper p e refl (inr refl) q.0 q.1
      | inr q ↦ constant_found st s p e q.1
    ]

-- what a byte and a word behind it spell
pub the_prefixed : (s : List ℕ) (b : ℕ) (c : Class) → get_or s 0 0 ≡ b → class_of (get_or s 1 0) ≡ c → goes_on c ≡ true
    → (prefix_len is_word_byte (drop 1 s) < length s)
    × IsPrefixed b c (take (prefix_len is_word_byte (drop 1 s) + 1) s) (drop (prefix_len is_word_byte (drop 1 s) + 1) s)
the_prefixed s b c f e g =
    let t = drop 1 s in
    let n = prefix_len is_word_byte t in
    let d : class_of (get_or t 0 0) ≡ c = rw (at_drop s 1 0) e in
    let z = first_word_byte t c d g in
    let l : n < length s = omega (arith, prefix_within is_word_byte t, length-drop 1 s, z) in
    let same : get_or (drop n t) 0 0 ≡ get_or (drop (n + 1) s) 0 0 =
    at_drops s 1 n 0 ∙ ap (λ k. get_or s k 0) (omega arith) ∙ sym (here s (n + 1)) in (
      l,
      record {
        name = take n t;
        word_is = whole s n b f l;
        is_word = word_here t c (drop (n + 1) s) d g (rw (← same) (prefix_stops is_word_byte no_word_byte t));
      },
    )

-- completeness: what is spelled here is what the scan finds, or shorter

abbrev pub Beats : Option (Kind × ℕ) → Kind → ℕ → Type 0
Beats None j m = ⊥
Beats (Some p) j m = (m < p.1) ⊎ ((m ≡ p.1) × (j ≡ p.0))

word_head : (s : List ℕ) (m : ℕ) (c : Class) → goes_on c ≡ true → class_of (get_or (take m s) 0 0) ≡ c → class_of (get_or s 0 0) ≡ c
unfolding class_of
word_head [] zero c g h = h
word_head [] (suc m) c g h = h
word_head (x ∷ xs) zero c g h = let k = rw (← h) at g in absurd cc
word_head (x ∷ xs) (suc m) c g h = h

pub word_starts : (s : List ℕ) (m : ℕ) (c : Class) (after : List ℕ) → goes_on c ≡ true → IsWord c (take m s) after → class_of (get_or s 0 0) ≡ c
word_starts s m c after g w = word_head s m c g w.starts

-- a word with one byte more
pub record Ended (s : List ℕ) (m b : ℕ) (c : Class) : Type 0 where
  pub size : m ≡ prefix_len is_word_byte s + 1
  pub byte : get_or s (prefix_len is_word_byte s) 0 ≡ b
  pub next : get_or s (prefix_len is_word_byte s + 1) 0 ≡ get_or (drop m s) 0 0
  pub head : class_of (get_or s 0 0) ≡ c

ended_word : (s : List ℕ) (m : ℕ) (front : List ℕ) (b : ℕ) (c : Class) → goes_on c ≡ true → m ≤ length s → take m s ≡ front ++ b ∷ []
    → IsWord c front (b ∷ drop m s) → Ended s m b c
ended_word s m front b c g h e w =
    let sp = split s front (b ∷ drop m s) (ended s m front b e) in
    let k = length front in
    let size : m ≡ k + 1 = omega (arith, ap length e, length-take m s, length-append front (b ∷ [])) in
    let u : k ≡ prefix_len is_word_byte s = prefix_unique is_word_byte s k (omega (arith, size)) (rw sp.0 w.goes) (rw sp.1 w.whole) in
    record {
      size = rw (← u) size;
      byte = rw (← u) (sym (here s k) ∙ ap (λ x. get_or x 0 0) sp.1);
      next = rw (← u) (sym (at_drop s k 1) ∙ ap (λ x. get_or x 1 0) sp.1);
      head = word_head s k c g (rw sp.0 w.starts);
    }

label_at : (s : List ℕ) (m : ℕ) (c : Class) → Ended s m 58 c → get_or (drop m s) 0 0 ≢ 58
    → takes_colon (get_or s (prefix_len is_word_byte s) 0) (get_or s (prefix_len is_word_byte s + 1) 0) ≡ true
label_at s m c d f = rw (d.byte, d.next) (colon_taken _ f)

pub label_lower : (after_dot : Bool) (s : List ℕ) (m : ℕ) → Ended s m 58 classes.Lower → get_or (drop m s) 0 0 ≢ 58 → Beats (lower_at after_dot s) kinds.Label m
unfolding lower_at
label_lower after_dot s m d f = rw (label_at s m classes.Lower d f) (inr (d.size, refl))

pub label_upper : (after_dot : Bool) (s : List ℕ) (m : ℕ) → Ended s m 58 classes.Upper → get_or (drop m s) 0 0 ≢ 58 → Beats (upper_at after_dot s) kinds.Label m
unfolding upper_at
label_upper after_dot s m d f = rw (label_at s m classes.Upper d f) (inr (d.size, refl))

pub marked_beaten : (after_dot : Bool) (s : List ℕ) (m : ℕ) → m ≤ length s → (w : IsMarked (take m s) (drop m s)) → (after_dot ≡ true) ⊎ (is_left_out (take m s) ≡ false)
    → (class_of (get_or s 0 0) ≡ classes.Lower) × Beats (lower_at after_dot s) kinds.Name m
unfolding lower_at
marked_beaten after_dot s m h w k =
    let d = ended_word s m w.front w.mark classes.Lower refl h w.word_is w.is_word in
    let t : takes_mark (get_or s (prefix_len is_word_byte s) 0) (get_or s (prefix_len is_word_byte s + 1) 0) ≡ true = rw (d.byte, d.next) w.marked in
    let u : unless_left_out kinds.Name after_dot (take (prefix_len is_word_byte s + 1) s) ≡ Some kinds.Name = rw (← d.size) (unless_found kinds.Name after_dot (take m s) k) in
    (d.head, rw (mark_no_colon _ _ t, t, u) (inr (d.size, refl)))

colon_or : (x : Bool) (m : ℕ) (kind : Kind) → Beats (cond x (Some (kinds.Label, m + 1)) (Some (kind, m))) kind m
colon_or true m kind = inl (omega arith)
colon_or false m kind = inr (refl, refl)

pub plain_beaten : (after_dot : Bool) (s : List ℕ) (m : ℕ) (kind : Kind) → m ≤ length s → IsPlain (take m s) (drop m s) → word_kind after_dot (take m s) ≡ Some kind
    → Beats (lower_at after_dot s) kind m
unfolding lower_at
plain_beaten after_dot s m kind h w k =
    let u : m ≡ prefix_len is_word_byte s = prefix_unique is_word_byte s m h w.is_word.goes w.is_word.whole in
    let t : takes_mark (get_or s m 0) (get_or s (m + 1) 0) ≡ false = rw (← here s m, ← at_drop s m 1) w.unmarked in
    rw (← u, t, k) (colon_or (takes_colon (get_or s m 0) (get_or s (m + 1) 0)) m kind)

pub name_beaten : (after_dot : Bool) (s : List ℕ) (m : ℕ) → m ≤ length s → IsPlain (take m s) (drop m s) → (after_dot ≡ true) ⊎ IsFree (take m s)
    → Beats (lower_at after_dot s) kinds.Name m
name_beaten after_dot s m h w k = plain_beaten after_dot s m kinds.Name h w (name_found after_dot (take m s) k)

pub constant_beaten : (after_dot : Bool) (s : List ℕ) (m : ℕ) → m ≤ length s → IsWord classes.Upper (take m s) (drop m s) → (after_dot ≡ true) ⊎ (is_left_out (take m s) ≡ false)
    → Beats (upper_at after_dot s) kinds.Constant m
unfolding upper_at
constant_beaten after_dot s m h w k =
    let u : m ≡ prefix_len is_word_byte s = prefix_unique is_word_byte s m h w.goes w.whole in
    rw (← u, unless_found kinds.Constant after_dot (take m s) k) (colon_or (takes_colon (get_or s m 0) (get_or s (m + 1) 0)) m kinds.Constant)

pub label_ended : (s : List ℕ) (m : ℕ) (c : Class) (front : List ℕ) → goes_on c ≡ true → m ≤ length s → take m s ≡ front ++ 58 ∷ [] → IsWord c front (58 ∷ drop m s) → Ended s m 58 c
label_ended s m c front g h e w = ended_word s m front 58 c g h e w

pub ended_head : (s : List ℕ) (m b : ℕ) (c : Class) → Ended s m b c → class_of (get_or s 0 0) ≡ c
ended_head s m b c d = d.head

-- the first bytes and the length of a byte and a word behind it
pub record Prefixed (s : List ℕ) (m b : ℕ) (c : Class) : Type 0 where
  pub byte : get_or s 0 0 ≡ b
  pub class_is : class_of (get_or s 1 0) ≡ c
  pub size : m ≡ prefix_len is_word_byte (drop 1 s) + 1

pub prefixed_is : (s : List ℕ) (m b : ℕ) (c : Class) → goes_on c ≡ true → m ≤ length s → IsPrefixed b c (take m s) (drop m s) → Prefixed s m b c
prefixed_is s m b c g h w =
    let t = drop 1 s in
    let sp = split t w.name (drop m s) (sym (cut s m b w.name w.word_is)) in
    let size = size_is s m b w.name h w.word_is in
    let k = length w.name in
    let u : k ≡ prefix_len is_word_byte t = prefix_unique is_word_byte t k (omega (arith, size, length-drop 1 s, h)) (rw sp.0 w.is_word.goes) (rw sp.1 w.is_word.whole) in
    let e : class_of (get_or t 0 0) ≡ c = word_head t k c g (rw sp.0 w.is_word.starts) in
    record {
      byte = head_is s m b w.name w.word_is;
      class_is = rw (at_drop s 1 0) at e;
      size = rw (← u) size;
    }
