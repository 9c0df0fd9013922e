-- The scan finds the longest token at a place, or that none begins there.
use Rattle.std.proofs.Common.{ℕ, zero, suc, ◌<◌, ◌≤◌, ◌≡◌, ◌==◌, ◌≢◌, ◌⊎◌, inl, inr, not, ◌&&◌, Bool, true, false, cond, List, [], ◌∷◌, length, take, drop, get_or, refl, ap, sym, ◌∙◌, arith, Option, Some, None, MatchOption, length-take, length-drop}
use Rattle.std.proofs.Math.Nat.{eq-or-lt_of_le}
use Rattle.std.proofs.lemmas.Bool.{eqb-true}
use Rattle.std.specs.List.{prefix_len}
use Rattle.rr_lexer.specs.Bytes.{class_of}
use Rattle.rr_lexer.specs.Words.{keyword_text, is_left_out, op_text}
use Rattle.rr_lexer.specs.Texts.{IsPieceAfter, IsSingle}
use Rattle.rr_lexer.specs.Numbers.{IsInt}
use Rattle.rr_lexer.specs.Tokens.{State, Spells, IsWord, IsPlain, IsMarked, IsLabel, IsPrefixed, IsFree, IsComment, Begins, NoneBegins, is_inside}
use Rattle.rr_lexer.specs.Scans.{element_at, element_of, variable_of, colon_of, op_of, op_at, op_sized, number_at, int_sized, piece, at_quote, at_brace, quote_sized, brace_sized, single_len, single_sized, return_at, backslash_at}
use Rattle.rr_lexer.specs.declared.class.Class.{Class}
use Rattle.rr_lexer.specs.declared.class.Class.TheVariants as classes
use Rattle.rr_lexer.specs.declared.texts.Mode.TheVariants.{Plain}
use Rattle.rr_lexer.specs.declared.kind.Keyword.{Keyword}
use Rattle.rr_lexer.specs.declared.kind.Op.{Op}
use Rattle.rr_lexer.specs.declared.kind.Op.TheVariants as ops
use Rattle.rr_lexer.specs.declared.kind.Kind.{Kind}
use Rattle.rr_lexer.specs.declared.kind.Kind.TheVariants as kinds
use Rattle.rr_lexer.proofs.Heads.{at_drop, head_is, second_is, third_is, size_is, same_head, front_one, front_two, front_three, chosen, some_same, and_true}
use Rattle.rr_lexer.proofs.Prefixes.{prefix_longest, prefix_passes, prefix_within}
use Rattle.rr_lexer.proofs.Classes.{byte_of, digit_class}
use Rattle.rr_lexer.proofs.Names as names
use Rattle.rr_lexer.proofs.Names.{Beats}
use Rattle.rr_lexer.proofs.Operators as operators
use Rattle.rr_lexer.proofs.Ints.{number_sound, number_complete, first_digit}
use Rattle.rr_lexer.proofs.Pieces.{same_piece, piece_after, piece_within}
use Rattle.rr_lexer.proofs.Singles.{same_single, single_after, single_within}

abbrev pub scan : State → List ℕ → Option (Kind × ℕ)
scan st s = element_at (is_inside st.frames) st.after_dot s

at_class : (st : State) (s : List ℕ) (c : Class) → class_of (get_or s 0 0) ≡ c → scan st s ≡ element_of c (is_inside st.frames) st.after_dot s
unfolding element_at
at_class st s c e = rw e refl

-- completeness: what is spelled here is what the scan finds, or shorter

exact : (x : Option (Kind × ℕ)) (j : Kind) (m : ℕ) → x ≡ Some (j, m) → Beats x j m
exact x j m e = rw e (inr (refl, refl))

text_beaten : (st : State) (s : List ℕ) (e : Bool) (m : ℕ) → m ≤ length s → IsPieceAfter 34 e (take m s) → Beats (scan st s) (at_quote e) m
unfolding class_of
text_beaten st s e m h w =
    let c : class_of (get_or s 0 0) ≡ classes.Double = rw (head_is s m 34 w.rest w.whole) refl in
    exact _ _ m (at_class st s classes.Double c ∙ ap quote_sized (same_piece s m 34 e w) ∙ ap (λ k. Some (at_quote e, k)) (sym (size_is s m 34 w.rest h w.whole)))

brace_beaten : (st : State) (s : List ℕ) (e : Bool) (m : ℕ) → m ≤ length s → is_inside st.frames ≡ true → IsPieceAfter 125 e (take m s) → Beats (scan st s) (at_brace e) m
unfolding class_of
brace_beaten st s e m h i w =
    let c : class_of (get_or s 0 0) ≡ classes.CloseBrace = rw (head_is s m 125 w.rest w.whole) refl in
    let o : element_of classes.CloseBrace (is_inside st.frames) st.after_dot s ≡ brace_sized (piece (drop 1 s) Plain) = rw i refl in
    exact _ _ m (at_class st s classes.CloseBrace c ∙ o ∙ ap brace_sized (same_piece s m 125 e w) ∙ ap (λ k. Some (at_brace e, k)) (sym (size_is s m 125 w.rest h w.whole)))

single_beaten : (st : State) (s : List ℕ) (m : ℕ) → m ≤ length s → IsSingle (take m s) → Beats (scan st s) kinds.Single m
unfolding class_of
single_beaten st s m h w =
    let c : class_of (get_or s 0 0) ≡ classes.Single = rw (head_is s m 39 w.rest w.whole) refl in
    exact _ _ m (at_class st s classes.Single c ∙ ap single_sized (same_single s m w) ∙ ap (λ k. Some (kinds.Single, k)) (sym (size_is s m 39 w.rest h w.whole)))

op_bound : (x : Option Op) (o : Op) (m : ℕ) → m ≡ length (op_text o) → operators.Beats x o → Beats (op_sized x) (kinds.Op o) m
op_bound None o m e b = b
op_bound (Some f) o m e (inl l) = inl (omega (arith, e))
op_bound (Some f) o m e (inr q) = inr (e ∙ ap (λ x. length (op_text x)) q, ap (λ x. kinds.Op x) q)

op_head : (s : List ℕ) (o : Op) (m : ℕ) → m ≤ length s → take m s ≡ op_text o → get_or (op_text o) 0 0 ≡ get_or s 0 0
op_head s o m h w = ap (λ x. get_or x 0 0) (sym w) ∙ same_head s m (omega (arith, ap length w, length-take m s, operators.op_some o))

-- behind a colon alone no word follows
colon_one : (s : List ℕ) (x : Class) → class_of (get_or s 1 0) ≡ x → Beats (op_at s) (kinds.Op ops.Colon) 1 → Beats (colon_of x s) (kinds.Op ops.Colon) 1
colon_one s classes.Lower e r = let z = names.first_word_byte (drop 1 s) classes.Lower (rw (at_drop s 1 0) e) refl in inl (omega (arith, z))
colon_one s classes.Upper e r = let z = names.first_word_byte (drop 1 s) classes.Upper (rw (at_drop s 1 0) e) refl in inl (omega (arith, z))
colon_one s _ e r = r

mark_beaten : (st : State) (s : List ℕ) (o : Op) (m : ℕ) → m ≤ length s → take m s ≡ op_text o → Beats (op_at s) (kinds.Op o) m
    → (class_of (get_or (op_text o) 0 0) ≡ classes.Mark) ⊎ ((o ≡ ops.Colon) ⊎ (o ≡ ops.Path)) → Beats (scan st s) (kinds.Op o) m
unfolding class_of
mark_beaten st s o m h w r (inl c) =
    let d : class_of (get_or s 0 0) ≡ classes.Mark = rw (← op_head s o m h w) c in rw (at_class st s classes.Mark d) r
mark_beaten st s o m h w r (inr (inl e)) =
    let w' : take m s ≡ 58 ∷ [] = w ∙ ap op_text e in
    let d : class_of (get_or s 0 0) ≡ classes.Colon = rw (head_is s m 58 [] w') refl in
    let one : m ≡ 1 = omega (arith, size_is s m 58 [] h w') in
    let r' : Beats (op_at s) (kinds.Op ops.Colon) 1 = rw (one, e) at r in
    rw (at_class st s classes.Colon d, one, e) (colon_one s (class_of (get_or s 1 0)) refl r')
mark_beaten st s o m h w r (inr (inr e)) =
    let w' : take m s ≡ 58 ∷ 58 ∷ [] = w ∙ ap op_text e in
    let d : class_of (get_or s 0 0) ≡ classes.Colon = rw (head_is s m 58 (58 ∷ []) w') refl in
    rw (at_class st s classes.Colon d, second_is s m 58 58 [] w') r

op_beaten : (st : State) (s : List ℕ) (o : Op) (m : ℕ) → m ≤ length s → take m s ≡ op_text o → Beats (scan st s) (kinds.Op o) m
op_beaten st s o m h w =
    let b = operators.op_beaten s o m h w in
    let r = op_bound (op_of (get_or s 0 0) (get_or s 1 0) (get_or s 2 0)) o m b.0 b.1 in
    mark_beaten st s o m h w r (operators.op_class o)

int_head : (s : List ℕ) (m v : ℕ) → number_at s ≡ Some (v, m) → class_of (get_or s 0 0) ≡ classes.Digit
int_head s m v e = digit_class (get_or s 0 0) (first_digit s (v, m) e)

int_beaten : (st : State) (s : List ℕ) (m v : ℕ) → m ≤ length s → IsInt (take m s) (drop m s) v → Beats (scan st s) kinds.Int m
int_beaten st s m v h w =
    let n = number_complete s m v h w in
    exact _ _ m (at_class st s classes.Digit (int_head s m v n) ∙ ap int_sized n)

line_cases : (s : List ℕ) (x : Bool) → (get_or s 1 0 == 10) ≡ x → Beats (cond x (Some (kinds.LineEnd, 2)) (Some (kinds.Blank, 1))) kinds.Blank 1
line_cases s true e = inl (omega arith)
line_cases s false e = inr (refl, refl)

one_byte : (s : List ℕ) (m b : ℕ) → m ≤ length s → take m s ≡ b ∷ [] → m ≡ 1
one_byte s m b h e = omega (arith, size_is s m b [] h e)

blank_beaten : (st : State) (s : List ℕ) (m : ℕ) → m ≤ length s → (take m s ≡ 32 ∷ []) ⊎ ((take m s ≡ 9 ∷ []) ⊎ (take m s ≡ 13 ∷ [])) → Beats (scan st s) kinds.Blank m
unfolding class_of
blank_beaten st s m h (inl w) =
    let c : class_of (get_or s 0 0) ≡ classes.Blank = rw (head_is s m 32 [] w) refl in
    rw (one_byte s m 32 h w, at_class st s classes.Blank c) (inr (refl, refl))
blank_beaten st s m h (inr (inl w)) =
    let c : class_of (get_or s 0 0) ≡ classes.Blank = rw (head_is s m 9 [] w) refl in
    rw (one_byte s m 9 h w, at_class st s classes.Blank c) (inr (refl, refl))
blank_beaten st s m h (inr (inr w)) =
    let c : class_of (get_or s 0 0) ≡ classes.Return = rw (head_is s m 13 [] w) refl in
    rw (one_byte s m 13 h w, at_class st s classes.Return c) (line_cases s (get_or s 1 0 == 10) refl)

line_beaten : (st : State) (s : List ℕ) (m : ℕ) → m ≤ length s → (take m s ≡ 10 ∷ []) ⊎ (take m s ≡ 13 ∷ 10 ∷ []) → Beats (scan st s) kinds.LineEnd m
unfolding class_of
line_beaten st s m h (inl w) =
    let c : class_of (get_or s 0 0) ≡ classes.LineFeed = rw (head_is s m 10 [] w) refl in
    rw (one_byte s m 10 h w, at_class st s classes.LineFeed c) (inr (refl, refl))
line_beaten st s m h (inr w) =
    let c : class_of (get_or s 0 0) ≡ classes.Return = rw (head_is s m 13 (10 ∷ []) w) refl in
    let two : m ≡ 2 = omega (arith, size_is s m 13 (10 ∷ []) h w) in
    rw (two, at_class st s classes.Return c, second_is s m 13 10 [] w) (inr (refl, refl))

joined_beaten : (st : State) (s : List ℕ) (m : ℕ) → m ≤ length s → (take m s ≡ 92 ∷ 10 ∷ []) ⊎ (take m s ≡ 92 ∷ 13 ∷ 10 ∷ []) → Beats (scan st s) kinds.Joined m
unfolding class_of
joined_beaten st s m h (inl w) =
    let c : class_of (get_or s 0 0) ≡ classes.Backslash = rw (head_is s m 92 (10 ∷ []) w) refl in
    let two : m ≡ 2 = omega (arith, size_is s m 92 (10 ∷ []) h w) in
    rw (two, at_class st s classes.Backslash c, second_is s m 92 10 [] w) (inr (refl, refl))
joined_beaten st s m h (inr w) =
    let c : class_of (get_or s 0 0) ≡ classes.Backslash = rw (head_is s m 92 (13 ∷ 10 ∷ []) w) refl in
    let three : m ≡ 3 = omega (arith, size_is s m 92 (13 ∷ 10 ∷ []) h w) in
    rw (three, at_class st s classes.Backslash c, second_is s m 92 13 (10 ∷ []) w, third_is s m 92 13 10 [] w) (inr (refl, refl))

comment_head : (s : List ℕ) (m : ℕ) → get_or (take m s) 0 0 ≡ 35 → get_or s 0 0 ≡ 35
comment_head [] zero h = absurd cc
comment_head [] (suc m) h = absurd cc
comment_head (x ∷ xs) zero h = absurd cc
comment_head (x ∷ xs) (suc m) h = h

at_most : (j : Kind) (m n : ℕ) → m ≤ n → Beats (Some (j, n)) j m
at_most j m n h = elim (eq-or-lt_of_le h) [ inl e ↦ inr (e, refl) | inr l ↦ inl l ]

comment_beaten : (st : State) (s : List ℕ) (m : ℕ) → m ≤ length s → IsComment (take m s) → Beats (scan st s) kinds.Comment m
unfolding class_of
comment_beaten st s m h w =
    let c : class_of (get_or s 0 0) ≡ classes.Hash = rw (comment_head s m w.starts) refl in
    rw (at_class st s classes.Hash c) (at_most kinds.Comment m _ (prefix_longest (λ b. not (b == 10)) s m h w.goes))

brace_open_beaten : (st : State) (s : List ℕ) (m : ℕ) → m ≤ length s → take m s ≡ 123 ∷ [] → Beats (scan st s) kinds.OpenBrace m
unfolding class_of
brace_open_beaten st s m h w =
    let c : class_of (get_or s 0 0) ≡ classes.OpenBrace = rw (head_is s m 123 [] w) refl in
    rw (one_byte s m 123 h w, at_class st s classes.OpenBrace c) (inr (refl, refl))

brace_close_beaten : (st : State) (s : List ℕ) (m : ℕ) → m ≤ length s → is_inside st.frames ≡ false → take m s ≡ 125 ∷ [] → Beats (scan st s) kinds.CloseBrace m
unfolding class_of
brace_close_beaten st s m h i w =
    let c : class_of (get_or s 0 0) ≡ classes.CloseBrace = rw (head_is s m 125 [] w) refl in
    rw (one_byte s m 125 h w, at_class st s classes.CloseBrace c, i) (inr (refl, refl))

name_beaten : (st : State) (s : List ℕ) (m : ℕ) → m ≤ length s
    → (IsPlain (take m s) (drop m s) × ((st.after_dot ≡ true) ⊎ IsFree (take m s))) ⊎ (IsMarked (take m s) (drop m s) × ((st.after_dot ≡ true) ⊎ (is_left_out (take m s) ≡ false)))
    → Beats (scan st s) kinds.Name m
name_beaten st s m h (inl w) =
    rw (at_class st s classes.Lower (names.word_starts s m classes.Lower _ refl w.0.is_word)) (names.name_beaten st.after_dot s m h w.0 w.1)
name_beaten st s m h (inr w) =
    let f = names.marked_beaten st.after_dot s m h w.0 w.1 in
    rw (at_class st s classes.Lower f.0) f.1

keyword_beaten : (st : State) (s : List ℕ) (k : Keyword) (m : ℕ) → m ≤ length s → st.after_dot ≡ false → IsPlain (take m s) (drop m s) → take m s ≡ keyword_text k
    → Beats (scan st s) (kinds.Keyword k) m
keyword_beaten st s k m h d w e =
    rw (at_class st s classes.Lower (names.word_starts s m classes.Lower _ refl w.is_word))
    (names.plain_beaten st.after_dot s m (kinds.Keyword k) h w (names.keyword_kind st.after_dot (take m s) k d e))

constant_beaten : (st : State) (s : List ℕ) (m : ℕ) → m ≤ length s → IsWord classes.Upper (take m s) (drop m s) → (st.after_dot ≡ true) ⊎ (is_left_out (take m s) ≡ false)
    → Beats (scan st s) kinds.Constant m
constant_beaten st s m h w k =
    rw (at_class st s classes.Upper (names.word_starts s m classes.Upper _ refl w)) (names.constant_beaten st.after_dot s m h w k)

label_beaten : (st : State) (s : List ℕ) (m : ℕ) → m ≤ length s → IsLabel (take m s) (drop m s) → Beats (scan st s) kinds.Label m
label_beaten st s m h w = elim w.is_word [
  | inl u ↦ let d = names.label_ended s m classes.Lower w.front refl h w.word_is u in
      rw (at_class st s classes.Lower (names.ended_head s m 58 classes.Lower d)) (names.label_lower st.after_dot s m d w.free)
  | inr u ↦ let d = names.label_ended s m classes.Upper w.front refl h w.word_is u in
      rw (at_class st s classes.Upper (names.ended_head s m 58 classes.Upper d)) (names.label_upper st.after_dot s m d w.free)
]

instance_variable_beaten : (st : State) (s : List ℕ) (m : ℕ) → m ≤ length s → IsPrefixed 64 classes.Lower (take m s) (drop m s) → Beats (scan st s) kinds.InstanceVariable m
unfolding class_of
instance_variable_beaten st s m h w =
    let d = names.prefixed_is s m 64 classes.Lower refl h w in
    let c : class_of (get_or s 0 0) ≡ classes.At = rw d.byte refl in
    rw (at_class st s classes.At c, d.class_is) (inr (d.size, refl))

global_variable_beaten : (st : State) (s : List ℕ) (m : ℕ) → m ≤ length s → IsPrefixed 36 classes.Lower (take m s) (drop m s) → Beats (scan st s) kinds.GlobalVariable m
unfolding class_of
global_variable_beaten st s m h w =
    let d = names.prefixed_is s m 36 classes.Lower refl h w in
    let c : class_of (get_or s 0 0) ≡ classes.Dollar = rw d.byte refl in
    rw (at_class st s classes.Dollar c, d.class_is) (inr (d.size, refl))

symbol_beaten : (st : State) (s : List ℕ) (m : ℕ) → m ≤ length s → IsPrefixed 58 classes.Lower (take m s) (drop m s) ⊎ IsPrefixed 58 classes.Upper (take m s) (drop m s)
    → Beats (scan st s) kinds.Symbol m
unfolding class_of
symbol_beaten st s m h (inl w) =
    let d = names.prefixed_is s m 58 classes.Lower refl h w in
    let c : class_of (get_or s 0 0) ≡ classes.Colon = rw d.byte refl in
    rw (at_class st s classes.Colon c, d.class_is) (inr (d.size, refl))
symbol_beaten st s m h (inr w) =
    let d = names.prefixed_is s m 58 classes.Upper refl h w in
    let c : class_of (get_or s 0 0) ≡ classes.Colon = rw d.byte refl in
    rw (at_class st s classes.Colon c, d.class_is) (inr (d.size, refl))

pub dominates : (st : State) (s : List ℕ) (j : Kind) (m : ℕ) → m ≤ length s → Spells st j (take m s) (drop m s) → Beats (scan st s) j m
dominates st s kinds.Name m h w = name_beaten st s m h w
dominates st s kinds.Constant m h w = constant_beaten st s m h w.0 w.1
dominates st s kinds.InstanceVariable m h w = instance_variable_beaten st s m h w
dominates st s kinds.GlobalVariable m h w = global_variable_beaten st s m h w
dominates st s kinds.Symbol m h w = symbol_beaten st s m h w
dominates st s kinds.Label m h w = label_beaten st s m h w
dominates st s kinds.Int m h w = int_beaten st s m w.0 h w.1
dominates st s (kinds.Keyword k) m h w = keyword_beaten st s k m h w.0 w.1 w.2
dominates st s (kinds.Op o) m h w = op_beaten st s o m h w
dominates st s kinds.Single m h w = single_beaten st s m h w
dominates st s kinds.Text m h w = text_beaten st s false m h w
dominates st s kinds.Head m h w = text_beaten st s true m h w
dominates st s kinds.Middle m h w = brace_beaten st s true m h w.0 w.1
dominates st s kinds.Tail m h w = brace_beaten st s false m h w.0 w.1
dominates st s kinds.OpenBrace m h w = brace_open_beaten st s m h w
dominates st s kinds.CloseBrace m h w = brace_close_beaten st s m h w.0 w.1
dominates st s kinds.LineEnd m h w = line_beaten st s m h w
dominates st s kinds.Blank m h w = blank_beaten st s m h w
dominates st s kinds.Comment m h w = comment_beaten st s m h w
dominates st s kinds.Joined m h w = joined_beaten st s m h w

-- soundness

pub record Found (st : State) (s : List ℕ) (p : Kind × ℕ) : Type 0 where
  pub some : 0 < p.1
  pub within : p.1 ≤ length s
  pub spelled : Spells st p.0 (take p.1 s) (drop p.1 s)

found_at : (st : State) (s : List ℕ) (q p : Kind × ℕ) → ◌≡◌ {A = Option (Kind × ℕ)} (Some q) (Some p) → Found st s q → Found st s p
found_at st s q p h f = let e : q ≡ p = some_same h in rw (← e) f

quote_spelled : (st : State) (e : Bool) (word after : List ℕ) → IsPieceAfter 34 e word → Spells st (at_quote e) word after
quote_spelled st true word after w = w
quote_spelled st false word after w = w

brace_spelled : (st : State) (e : Bool) (word after : List ℕ) → is_inside st.frames ≡ true → IsPieceAfter 125 e word → Spells st (at_brace e) word after
brace_spelled st true word after i w = (i, w)
brace_spelled st false word after i w = (i, w)

by_quote : (st : State) (s : List ℕ) (x : Option (Bool × ℕ)) (p : Kind × ℕ) → 0 < length s → get_or s 0 0 ≡ 34 → piece (drop 1 s) Plain ≡ x → quote_sized x ≡ Some p → Found st s p
by_quote st s None p l q e h = absurd cc
by_quote st s (Some r) p l q e h =
    let w : r.1 < length s = omega (arith, piece_within (drop 1 s) r.0 r.1 e, length-drop 1 s, l) in
    found_at st s _ p h (record { some = omega arith; within = omega arith; spelled = quote_spelled st r.0 _ _ (piece_after s r.1 34 r.0 q w e) })

by_brace : (st : State) (s : List ℕ) (x : Option (Bool × ℕ)) (p : Kind × ℕ) → 0 < length s → is_inside st.frames ≡ true → get_or s 0 0 ≡ 125 → piece (drop 1 s) Plain ≡ x → brace_sized x ≡ Some p → Found st s p
by_brace st s None p l i q e h = absurd cc
by_brace st s (Some r) p l i q e h =
    let w : r.1 < length s = omega (arith, piece_within (drop 1 s) r.0 r.1 e, length-drop 1 s, l) in
    found_at st s _ p h (record { some = omega arith; within = omega arith; spelled = brace_spelled st r.0 _ _ i (piece_after s r.1 125 r.0 q w e) })

by_single : (st : State) (s : List ℕ) (x : Option ℕ) (p : Kind × ℕ) → 0 < length s → get_or s 0 0 ≡ 39 → single_len (drop 1 s) false ≡ x → single_sized x ≡ Some p → Found st s p
by_single st s None p l q e h = absurd cc
by_single st s (Some n) p l q e h =
    let w : n < length s = omega (arith, single_within (drop 1 s) n e, length-drop 1 s, l) in
    found_at st s _ p h (record { some = omega arith; within = omega arith; spelled = single_after s n q w e })

by_int : (st : State) (s : List ℕ) (x : Option (ℕ × ℕ)) (p : Kind × ℕ) → number_at s ≡ x → int_sized x ≡ Some p → Found st s p
by_int st s None p e h = absurd cc
by_int st s (Some r) p e h =
    let f = number_sound s r e in
    let g : (kinds.Int, r.1) ≡ p = some_same h in
    rw (← g) (record { some = f.some; within = f.within; spelled = (r.0, f.spelled) })

by_op : (st : State) (s : List ℕ) (p : Kind × ℕ) → 0 < length s → op_at s ≡ Some p → Found st s p
by_op st s p l h = let f = operators.op_sound s p l h in record { some = f.some; within = f.within; spelled = rw f.kind_is f.spelled }

by_names : (st : State) (s : List ℕ) (p : Kind × ℕ) → names.WordFound st s p → Found st s p
by_names st s p f = record { some = f.some; within = f.within; spelled = f.spelled }

variable_found : (st : State) (s : List ℕ) (kind : Kind) (b : ℕ) (x : Class) (p : Kind × ℕ) → get_or s 0 0 ≡ b → class_of (get_or s 1 0) ≡ x
    → ((word after : List ℕ) → IsPrefixed b classes.Lower word after → Spells st kind word after) → variable_of kind x s ≡ Some p → Found st s p
variable_found st s kind b classes.Lower p f e g h =
    let w = names.the_prefixed s b classes.Lower f e refl in
    found_at st s _ p h (record { some = omega arith; within = omega (arith, w.0); spelled = g _ _ w.1 })
variable_found st s kind b _ p f e g h = absurd cc

colon_found : (st : State) (s : List ℕ) (x : Class) (p : Kind × ℕ) → 0 < length s → get_or s 0 0 ≡ 58 → class_of (get_or s 1 0) ≡ x → colon_of x s ≡ Some p → Found st s p
colon_found st s classes.Lower p l f e h =
    let w = names.the_prefixed s 58 classes.Lower f e refl in
    found_at st s _ p h (record { some = omega arith; within = omega (arith, w.0); spelled = inl w.1 })
colon_found st s classes.Upper p l f e h =
    let w = names.the_prefixed s 58 classes.Upper f e refl in
    found_at st s _ p h (record { some = omega arith; within = omega (arith, w.0); spelled = inr w.1 })
colon_found st s _ p l f e h = by_op st s p l h

first_of_comment : (s : List ℕ) → 0 < length s → get_or s 0 0 ≡ 35 → 0 < prefix_len (λ b. not (b == 10)) s
first_of_comment [] l e = absurd (omega arith)
first_of_comment (x ∷ xs) l e = rw e (omega arith)

the_comment : (st : State) (s : List ℕ) → 0 < length s → get_or s 0 0 ≡ 35 → Found st s (kinds.Comment, prefix_len (λ b. not (b == 10)) s)
the_comment st s l e =
    let f = first_of_comment s l e in
    record {
      some = f;
      within = prefix_within (λ b. not (b == 10)) s;
      spelled = record { starts = same_head s _ f ∙ e; goes = prefix_passes (λ b. not (b == 10)) s };
    }

short_two : (s : List ℕ) → get_or s 1 0 ≢ 0 → 1 < length s
short_two [] h = absurd (h refl)
short_two (x ∷ []) h = absurd (h refl)
short_two (x ∷ y ∷ xs) h = omega arith

short_three : (s : List ℕ) → get_or s 2 0 ≢ 0 → 2 < length s
short_three [] h = absurd (h refl)
short_three (x ∷ []) h = absurd (h refl)
short_three (x ∷ y ∷ []) h = absurd (h refl)
short_three (x ∷ y ∷ z ∷ xs) h = omega arith

by_return : (st : State) (s : List ℕ) (p : Kind × ℕ) → 0 < length s → get_or s 0 0 ≡ 13 → return_at s ≡ Some p → Found st s p
by_return st s p l e h = elim (chosen (get_or s 1 0 == 10) (Some (kinds.LineEnd, 2)) (Some (kinds.Blank, 1)) (Some p) h) [
  | inl q ↦ let f = eqb-true _ 10 q.0 in
      found_at st s _ p q.1 (record { some = omega arith; within = let t = short_two s (λ z. absurd (omega (arith, f, z))) in omega arith; spelled = inr (front_two s 13 10 l (omega arith) e f) })
  | inr q ↦ found_at st s _ p q.1 (record { some = omega arith; within = omega arith; spelled = inr (inr (front_one s 13 l e)) })
]

by_backslash : (st : State) (s : List ℕ) (p : Kind × ℕ) → 0 < length s → get_or s 0 0 ≡ 92 → backslash_at s ≡ Some p → Found st s p
by_backslash st s p l e h = elim (chosen (get_or s 1 0 == 10) (Some (kinds.Joined, 2)) (cond (get_or s 1 0 == 13 && get_or s 2 0 == 10) (Some (kinds.Joined, 3)) None) (Some p) h) [
  | inl q ↦ let f = eqb-true _ 10 q.0 in
      found_at st s _ p q.1 (record { some = omega arith; within = let t = short_two s (λ z. absurd (omega (arith, f, z))) in omega arith; spelled = inl (front_two s 92 10 l (omega arith) e f) })
  | inr q ↦ elim (chosen (get_or s 1 0 == 13 && get_or s 2 0 == 10) (Some (kinds.Joined, 3)) None (Some p) q.1) [
    | inl t ↦
        let a = and_true (get_or s 1 0 == 13) (get_or s 2 0 == 10) t.0 in
        let f = eqb-true _ 13 a.0 in
        let g = eqb-true _ 10 a.1 in
        found_at st s _ p t.1 (record { some = omega arith; within = let t = short_three s (λ z. absurd (omega (arith, g, z))) in omega arith; spelled = inr (front_three s 92 13 10 l (omega arith) (omega arith) e f g) })
    | inr t ↦ absurd (let g = t.1 in cc)
  ]
]

blank_spelled : (s : List ℕ) → 0 < length s → (get_or s 0 0 ≡ 32) ⊎ (get_or s 0 0 ≡ 9) → (take 1 s ≡ 32 ∷ []) ⊎ ((take 1 s ≡ 9 ∷ []) ⊎ (take 1 s ≡ 13 ∷ []))
blank_spelled s l (inl e) = inl (front_one s 32 l e)
blank_spelled s l (inr e) = inr (inl (front_one s 9 l e))

by_close : (st : State) (s : List ℕ) (x : Bool) (p : Kind × ℕ) → 0 < length s → get_or s 0 0 ≡ 125 → is_inside st.frames ≡ x → element_of classes.CloseBrace x st.after_dot s ≡ Some p → Found st s p
by_close st s true p l e i h = by_brace st s _ p l i e refl h
by_close st s false p l e i h = found_at st s _ p h (record { some = omega arith; within = omega arith; spelled = (i, front_one s 125 l e) })

by_class : (st : State) (s : List ℕ) (c : Class) (p : Kind × ℕ) → 0 < length s → class_of (get_or s 0 0) ≡ c → element_of c (is_inside st.frames) st.after_dot s ≡ Some p → Found st s p
by_class st s classes.Lower p l c h = by_names st s p (names.lower_sound st s p c h)
by_class st s classes.Upper p l c h = by_names st s p (names.upper_sound st s p c h)
by_class st s classes.Digit p l c h = by_int st s _ p refl h
by_class st s classes.Double p l c h = by_quote st s _ p l (byte_of _ classes.Double c) refl h
by_class st s classes.Single p l c h = by_single st s _ p l (byte_of _ classes.Single c) refl h
by_class st s classes.Hash p l c h = found_at st s _ p h (the_comment st s l (byte_of _ classes.Hash c))
by_class st s classes.LineFeed p l c h = found_at st s _ p h (record { some = omega arith; within = omega arith; spelled = inl (front_one s 10 l (byte_of _ classes.LineFeed c)) })
by_class st s classes.Return p l c h = by_return st s p l (byte_of _ classes.Return c) h
by_class st s classes.Blank p l c h = found_at st s _ p h (record { some = omega arith; within = omega arith; spelled = blank_spelled s l (byte_of _ classes.Blank c) })
by_class st s classes.Backslash p l c h = by_backslash st s p l (byte_of _ classes.Backslash c) h
by_class st s classes.At p l c h = variable_found st s kinds.InstanceVariable 64 _ p (byte_of _ classes.At c) refl (λ word after w. w) h
by_class st s classes.Dollar p l c h = variable_found st s kinds.GlobalVariable 36 _ p (byte_of _ classes.Dollar c) refl (λ word after w. w) h
by_class st s classes.Colon p l c h = colon_found st s _ p l (byte_of _ classes.Colon c) refl h
by_class st s classes.OpenBrace p l c h = found_at st s _ p h (record { some = omega arith; within = omega arith; spelled = front_one s 123 l (byte_of _ classes.OpenBrace c) })
by_class st s classes.CloseBrace p l c h = by_close st s (is_inside st.frames) p l (byte_of _ classes.CloseBrace c) refl h
by_class st s classes.Mark p l c h = by_op st s p l h
by_class st s classes.Other p l c h = absurd cc

sound : (st : State) (s : List ℕ) (p : Kind × ℕ) → 0 < length s → scan st s ≡ Some p → Found st s p
sound st s p l h = by_class st s (class_of (get_or s 0 0)) p l refl (sym (at_class st s (class_of (get_or s 0 0)) refl) ∙ h)

pub begins : (st : State) (s : List ℕ) (x : Option (Kind × ℕ)) → 0 < length s → x ≡ scan st s → MatchOption x (NoneBegins st s) (λ p. Begins st s p.0 p.1)
begins st s None l e = λ j m h w. let d = dominates st s j m h w in rw (← e) at d
begins st s (Some p) l e =
    let f = sound st s p l (sym e) in
    record { some = f.some; within = f.within; spelled = f.spelled; longest = λ j m h w. let d = dominates st s j m h w in rw (← e) at d }
