-- The operator at a place is the longest.
use Rattle.std.proofs.Common.{ℕ, ◌<◌, ◌≤◌, ◌≡◌, ◌==◌, ◌⊎◌, inl, inr, Bool, true, false, cond, List, length, take, get_or, refl, ap, sym, ◌∙◌, arith, Option, Some, None, length-take}
use Rattle.std.proofs.lemmas.List.{get_or-take}
use Rattle.std.proofs.lemmas.Bool.{eqb-true}
use Rattle.rr_lexer.specs.Bytes.{class_of}
use Rattle.rr_lexer.specs.Words.{op_text}
use Rattle.rr_lexer.specs.Scans.{op_of, AreFront, op_at, op_sized}
use Rattle.rr_lexer.specs.declared.class.Class.TheVariants as classes
use Rattle.rr_lexer.specs.declared.kind.Op.{Op}
use Rattle.rr_lexer.specs.declared.kind.Op.TheVariants as ops
use Rattle.rr_lexer.specs.declared.kind.Kind.{Kind}
use Rattle.rr_lexer.specs.declared.kind.Kind.TheVariants as kinds
use Rattle.rr_lexer.proofs.Heads.{front_one, front_two, front_three, pick, some_same}

-- what was found is longer, or the same
abbrev pub Beats : Option Op → Op → Type 0
Beats None o = ⊥
Beats (Some f) o = (length (op_text o) < length (op_text f)) ⊎ (o ≡ f)

-- an operator that may be followed by one byte more, or by one of two
one_more : (x : Bool) (longer_op o : Op) → length (op_text o) < length (op_text longer_op) → Beats (cond x (Some longer_op) (Some o)) o
one_more true longer_op o l = inl l
one_more false longer_op o l = inr refl

assign_cases : (x y : Bool) → Beats (cond x (Some ops.Equal) (cond y (Some ops.Arrow) (Some ops.Assign))) ops.Assign
assign_cases true y = inl (omega arith)
assign_cases false true = inl (omega arith)
assign_cases false false = inr refl

less_cases : (x y z w : Bool) → Beats (cond x (cond y (Some ops.Compare) (Some ops.LessOrEqual)) (cond z (cond w (Some ops.ShiftAssign) (Some ops.Shift)) (Some ops.Less))) ops.Less
less_cases true true z w = inl (omega arith)
less_cases true false z w = inl (omega arith)
less_cases false y true true = inl (omega arith)
less_cases false y true false = inl (omega arith)
less_cases false y false w = inr refl

bar_cases : (x y : Bool) → Beats (cond x (cond y (Some ops.OrAssign) (Some ops.Or)) (Some ops.Bar)) ops.Bar
bar_cases true true = inl (omega arith)
bar_cases true false = inl (omega arith)
bar_cases false y = inr refl

pub beats : (s : List ℕ) (o : Op) → ((k : ℕ) → k < length (op_text o) → get_or s k 0 ≡ get_or (op_text o) k 0)
    → Beats (op_of (get_or s 0 0) (get_or s 1 0) (get_or s 2 0)) o
unfolding op_of
beats s ops.Plus r = let e0 : get_or s 0 0 ≡ 43 = r 0 (omega arith) in rw e0 (one_more (get_or s 1 0 == 61) ops.PlusAssign ops.Plus (omega arith))
beats s ops.Minus r = let e0 : get_or s 0 0 ≡ 45 = r 0 (omega arith) in rw e0 (one_more (get_or s 1 0 == 61) ops.MinusAssign ops.Minus (omega arith))
beats s ops.Star r = let e0 : get_or s 0 0 ≡ 42 = r 0 (omega arith) in rw e0 (one_more (get_or s 1 0 == 61) ops.StarAssign ops.Star (omega arith))
beats s ops.Slash r = let e0 : get_or s 0 0 ≡ 47 = r 0 (omega arith) in rw e0 (one_more (get_or s 1 0 == 61) ops.SlashAssign ops.Slash (omega arith))
beats s ops.Percent r = let e0 : get_or s 0 0 ≡ 37 = r 0 (omega arith) in rw e0 (one_more (get_or s 1 0 == 61) ops.PercentAssign ops.Percent (omega arith))
beats s ops.Assign r = let e0 : get_or s 0 0 ≡ 61 = r 0 (omega arith) in rw e0 (assign_cases (get_or s 1 0 == 61) (get_or s 1 0 == 62))
beats s ops.Equal r = let e0 : get_or s 0 0 ≡ 61 = r 0 (omega arith) in let e1 : get_or s 1 0 ≡ 61 = r 1 (omega arith) in rw (e0, e1) (inr refl)
beats s ops.Arrow r = let e0 : get_or s 0 0 ≡ 61 = r 0 (omega arith) in let e1 : get_or s 1 0 ≡ 62 = r 1 (omega arith) in rw (e0, e1) (inr refl)
beats s ops.Bang r = let e0 : get_or s 0 0 ≡ 33 = r 0 (omega arith) in rw e0 (one_more (get_or s 1 0 == 61) ops.NotEqual ops.Bang (omega arith))
beats s ops.NotEqual r = let e0 : get_or s 0 0 ≡ 33 = r 0 (omega arith) in let e1 : get_or s 1 0 ≡ 61 = r 1 (omega arith) in rw (e0, e1) (inr refl)
beats s ops.Less r = let e0 : get_or s 0 0 ≡ 60 = r 0 (omega arith) in rw e0 (less_cases (get_or s 1 0 == 61) (get_or s 2 0 == 62) (get_or s 1 0 == 60) (get_or s 2 0 == 61))
beats s ops.LessOrEqual r = let e0 : get_or s 0 0 ≡ 60 = r 0 (omega arith) in let e1 : get_or s 1 0 ≡ 61 = r 1 (omega arith) in rw (e0, e1) (one_more (get_or s 2 0 == 62) ops.Compare ops.LessOrEqual (omega arith))
beats s ops.Shift r = let e0 : get_or s 0 0 ≡ 60 = r 0 (omega arith) in let e1 : get_or s 1 0 ≡ 60 = r 1 (omega arith) in rw (e0, e1) (one_more (get_or s 2 0 == 61) ops.ShiftAssign ops.Shift (omega arith))
beats s ops.ShiftAssign r = let e0 : get_or s 0 0 ≡ 60 = r 0 (omega arith) in let e1 : get_or s 1 0 ≡ 60 = r 1 (omega arith) in let e2 : get_or s 2 0 ≡ 61 = r 2 (omega arith) in rw (e0, e1, e2) (inr refl)
beats s ops.Compare r = let e0 : get_or s 0 0 ≡ 60 = r 0 (omega arith) in let e1 : get_or s 1 0 ≡ 61 = r 1 (omega arith) in let e2 : get_or s 2 0 ≡ 62 = r 2 (omega arith) in rw (e0, e1, e2) (inr refl)
beats s ops.Greater r = let e0 : get_or s 0 0 ≡ 62 = r 0 (omega arith) in rw e0 (one_more (get_or s 1 0 == 61) ops.GreaterOrEqual ops.Greater (omega arith))
beats s ops.GreaterOrEqual r = let e0 : get_or s 0 0 ≡ 62 = r 0 (omega arith) in let e1 : get_or s 1 0 ≡ 61 = r 1 (omega arith) in rw (e0, e1) (inr refl)
beats s ops.PlusAssign r = let e0 : get_or s 0 0 ≡ 43 = r 0 (omega arith) in let e1 : get_or s 1 0 ≡ 61 = r 1 (omega arith) in rw (e0, e1) (inr refl)
beats s ops.MinusAssign r = let e0 : get_or s 0 0 ≡ 45 = r 0 (omega arith) in let e1 : get_or s 1 0 ≡ 61 = r 1 (omega arith) in rw (e0, e1) (inr refl)
beats s ops.StarAssign r = let e0 : get_or s 0 0 ≡ 42 = r 0 (omega arith) in let e1 : get_or s 1 0 ≡ 61 = r 1 (omega arith) in rw (e0, e1) (inr refl)
beats s ops.SlashAssign r = let e0 : get_or s 0 0 ≡ 47 = r 0 (omega arith) in let e1 : get_or s 1 0 ≡ 61 = r 1 (omega arith) in rw (e0, e1) (inr refl)
beats s ops.PercentAssign r = let e0 : get_or s 0 0 ≡ 37 = r 0 (omega arith) in let e1 : get_or s 1 0 ≡ 61 = r 1 (omega arith) in rw (e0, e1) (inr refl)
beats s ops.And r = let e0 : get_or s 0 0 ≡ 38 = r 0 (omega arith) in let e1 : get_or s 1 0 ≡ 38 = r 1 (omega arith) in rw (e0, e1) (one_more (get_or s 2 0 == 61) ops.AndAssign ops.And (omega arith))
beats s ops.AndAssign r = let e0 : get_or s 0 0 ≡ 38 = r 0 (omega arith) in let e1 : get_or s 1 0 ≡ 38 = r 1 (omega arith) in let e2 : get_or s 2 0 ≡ 61 = r 2 (omega arith) in rw (e0, e1, e2) (inr refl)
beats s ops.Bar r = let e0 : get_or s 0 0 ≡ 124 = r 0 (omega arith) in rw e0 (bar_cases (get_or s 1 0 == 124) (get_or s 2 0 == 61))
beats s ops.Or r = let e0 : get_or s 0 0 ≡ 124 = r 0 (omega arith) in let e1 : get_or s 1 0 ≡ 124 = r 1 (omega arith) in rw (e0, e1) (one_more (get_or s 2 0 == 61) ops.OrAssign ops.Or (omega arith))
beats s ops.OrAssign r = let e0 : get_or s 0 0 ≡ 124 = r 0 (omega arith) in let e1 : get_or s 1 0 ≡ 124 = r 1 (omega arith) in let e2 : get_or s 2 0 ≡ 61 = r 2 (omega arith) in rw (e0, e1, e2) (inr refl)
beats s ops.Question r = let e0 : get_or s 0 0 ≡ 63 = r 0 (omega arith) in rw e0 (inr refl)
beats s ops.Colon r = let e0 : get_or s 0 0 ≡ 58 = r 0 (omega arith) in rw e0 (one_more (get_or s 1 0 == 58) ops.Path ops.Colon (omega arith))
beats s ops.Path r = let e0 : get_or s 0 0 ≡ 58 = r 0 (omega arith) in let e1 : get_or s 1 0 ≡ 58 = r 1 (omega arith) in rw (e0, e1) (inr refl)
beats s ops.Dot r = let e0 : get_or s 0 0 ≡ 46 = r 0 (omega arith) in rw e0 (inr refl)
beats s ops.Comma r = let e0 : get_or s 0 0 ≡ 44 = r 0 (omega arith) in rw e0 (inr refl)
beats s ops.Semicolon r = let e0 : get_or s 0 0 ≡ 59 = r 0 (omega arith) in rw e0 (inr refl)
beats s ops.Open r = let e0 : get_or s 0 0 ≡ 40 = r 0 (omega arith) in rw e0 (inr refl)
beats s ops.Close r = let e0 : get_or s 0 0 ≡ 41 = r 0 (omega arith) in rw e0 (inr refl)
beats s ops.OpenSquare r = let e0 : get_or s 0 0 ≡ 91 = r 0 (omega arith) in rw e0 (inr refl)
beats s ops.CloseSquare r = let e0 : get_or s 0 0 ≡ 93 = r 0 (omega arith) in rw e0 (inr refl)

pub op_some : (o : Op) → 0 < length (op_text o)
op_some ops.Plus = omega arith
op_some ops.Minus = omega arith
op_some ops.Star = omega arith
op_some ops.Slash = omega arith
op_some ops.Percent = omega arith
op_some ops.Assign = omega arith
op_some ops.Equal = omega arith
op_some ops.Arrow = omega arith
op_some ops.Bang = omega arith
op_some ops.NotEqual = omega arith
op_some ops.Less = omega arith
op_some ops.LessOrEqual = omega arith
op_some ops.Shift = omega arith
op_some ops.ShiftAssign = omega arith
op_some ops.Compare = omega arith
op_some ops.Greater = omega arith
op_some ops.GreaterOrEqual = omega arith
op_some ops.PlusAssign = omega arith
op_some ops.MinusAssign = omega arith
op_some ops.StarAssign = omega arith
op_some ops.SlashAssign = omega arith
op_some ops.PercentAssign = omega arith
op_some ops.And = omega arith
op_some ops.AndAssign = omega arith
op_some ops.Bar = omega arith
op_some ops.Or = omega arith
op_some ops.OrAssign = omega arith
op_some ops.Question = omega arith
op_some ops.Colon = omega arith
op_some ops.Path = omega arith
op_some ops.Dot = omega arith
op_some ops.Comma = omega arith
op_some ops.Semicolon = omega arith
op_some ops.Open = omega arith
op_some ops.Close = omega arith
op_some ops.OpenSquare = omega arith
op_some ops.CloseSquare = omega arith

-- all operators but two begin with a byte of one class
pub op_class : (o : Op) → (class_of (get_or (op_text o) 0 0) ≡ classes.Mark) ⊎ ((o ≡ ops.Colon) ⊎ (o ≡ ops.Path))
unfolding class_of
op_class ops.Plus = inl refl
op_class ops.Minus = inl refl
op_class ops.Star = inl refl
op_class ops.Slash = inl refl
op_class ops.Percent = inl refl
op_class ops.Assign = inl refl
op_class ops.Equal = inl refl
op_class ops.Arrow = inl refl
op_class ops.Bang = inl refl
op_class ops.NotEqual = inl refl
op_class ops.Less = inl refl
op_class ops.LessOrEqual = inl refl
op_class ops.Shift = inl refl
op_class ops.ShiftAssign = inl refl
op_class ops.Compare = inl refl
op_class ops.Greater = inl refl
op_class ops.GreaterOrEqual = inl refl
op_class ops.PlusAssign = inl refl
op_class ops.MinusAssign = inl refl
op_class ops.StarAssign = inl refl
op_class ops.SlashAssign = inl refl
op_class ops.PercentAssign = inl refl
op_class ops.And = inl refl
op_class ops.AndAssign = inl refl
op_class ops.Bar = inl refl
op_class ops.Or = inl refl
op_class ops.OrAssign = inl refl
op_class ops.Question = inl refl
op_class ops.Colon = inr (inl refl)
op_class ops.Path = inr (inr refl)
op_class ops.Dot = inl refl
op_class ops.Comma = inl refl
op_class ops.Semicolon = inl refl
op_class ops.Open = inl refl
op_class ops.Close = inl refl
op_class ops.OpenSquare = inl refl
op_class ops.CloseSquare = inl refl

pub op_beaten : (s : List ℕ) (o : Op) (m : ℕ) → m ≤ length s → take m s ≡ op_text o
    → (m ≡ length (op_text o)) × Beats (op_of (get_or s 0 0) (get_or s 1 0) (get_or s 2 0)) o
op_beaten s o m h w =
    let size : m ≡ length (op_text o) = omega (arith, ap length w, length-take m s) in
    (size, beats s o (λ k l. sym (get_or-take m s k 0 (omega arith)) ∙ ap (λ x. get_or x k 0) w))

-- the bytes at the front of what was found
abbrev pub IsFrontOf : ℕ → ℕ → ℕ → Option Op → Type 0
IsFrontOf a b c None = Unit {0}
IsFrontOf a b c (Some o) = AreFront (op_text o) a b c

module _ (a b c : ℕ) where
  on : (x n : ℕ) (this other : Option Op) → (x ≡ n → IsFrontOf a b c this) → IsFrontOf a b c other → IsFrontOf a b c (cond (x == n) this other)
  on x n this other y f = pick (IsFrontOf a b c) (x == n) this other (λ h. y (eqb-true x n h)) (λ _. f)

  pub op_front : IsFrontOf a b c (op_of a b c)
  unfolding op_of
  op_front =
      on a 43 _ _ (λ p. on b 61 _ _ (λ q. (p, q)) p)
      (on a 45 _ _ (λ p. on b 61 _ _ (λ q. (p, q)) p)
      (on a 42 _ _ (λ p. on b 61 _ _ (λ q. (p, q)) p)
      (on a 47 _ _ (λ p. on b 61 _ _ (λ q. (p, q)) p)
      (on a 37 _ _ (λ p. on b 61 _ _ (λ q. (p, q)) p)
      (on a 61 _ _ (λ p. on b 61 _ _ (λ q. (p, q)) (on b 62 _ _ (λ q. (p, q)) p))
      (on a 33 _ _ (λ p. on b 61 _ _ (λ q. (p, q)) p)
      (on a 60 _ _ (λ p. on b 61 _ _ (λ q. on c 62 _ _ (λ r. (p, q, r)) (p, q)) (on b 60 _ _ (λ q. on c 61 _ _ (λ r. (p, q, r)) (p, q)) p))
      (on a 62 _ _ (λ p. on b 61 _ _ (λ q. (p, q)) p)
      (on a 38 _ _ (λ p. on b 38 _ _ (λ q. on c 61 _ _ (λ r. (p, q, r)) (p, q)) tt)
      (on a 124 _ _ (λ p. on b 124 _ _ (λ q. on c 61 _ _ (λ r. (p, q, r)) (p, q)) p)
      (on a 63 _ _ (λ p. p)
      (on a 58 _ _ (λ p. on b 58 _ _ (λ q. (p, q)) p)
      (on a 46 _ _ (λ p. p)
      (on a 44 _ _ (λ p. p)
      (on a 59 _ _ (λ p. p)
      (on a 40 _ _ (λ p. p)
      (on a 41 _ _ (λ p. p)
      (on a 91 _ _ (λ p. p)
      (on a 93 _ _ (λ p. p)
      tt)))))))))))))))))))

pub front_of : (s : List ℕ) (o : Op) → 0 < length s → AreFront (op_text o) (get_or s 0 0) (get_or s 1 0) (get_or s 2 0) → take (length (op_text o)) s ≡ op_text o
front_of s ops.Plus l h = front_one s _ l h
front_of s ops.Minus l h = front_one s _ l h
front_of s ops.Star l h = front_one s _ l h
front_of s ops.Slash l h = front_one s _ l h
front_of s ops.Percent l h = front_one s _ l h
front_of s ops.Assign l h = front_one s _ l h
front_of s ops.Equal l h = front_two s _ _ l (omega arith) h.0 h.1
front_of s ops.Arrow l h = front_two s _ _ l (omega arith) h.0 h.1
front_of s ops.Bang l h = front_one s _ l h
front_of s ops.NotEqual l h = front_two s _ _ l (omega arith) h.0 h.1
front_of s ops.Less l h = front_one s _ l h
front_of s ops.LessOrEqual l h = front_two s _ _ l (omega arith) h.0 h.1
front_of s ops.Shift l h = front_two s _ _ l (omega arith) h.0 h.1
front_of s ops.ShiftAssign l h = front_three s _ _ _ l (omega arith) (omega arith) h.0 h.1 h.2
front_of s ops.Compare l h = front_three s _ _ _ l (omega arith) (omega arith) h.0 h.1 h.2
front_of s ops.Greater l h = front_one s _ l h
front_of s ops.GreaterOrEqual l h = front_two s _ _ l (omega arith) h.0 h.1
front_of s ops.PlusAssign l h = front_two s _ _ l (omega arith) h.0 h.1
front_of s ops.MinusAssign l h = front_two s _ _ l (omega arith) h.0 h.1
front_of s ops.StarAssign l h = front_two s _ _ l (omega arith) h.0 h.1
front_of s ops.SlashAssign l h = front_two s _ _ l (omega arith) h.0 h.1
front_of s ops.PercentAssign l h = front_two s _ _ l (omega arith) h.0 h.1
front_of s ops.And l h = front_two s _ _ l (omega arith) h.0 h.1
front_of s ops.AndAssign l h = front_three s _ _ _ l (omega arith) (omega arith) h.0 h.1 h.2
front_of s ops.Bar l h = front_one s _ l h
front_of s ops.Or l h = front_two s _ _ l (omega arith) h.0 h.1
front_of s ops.OrAssign l h = front_three s _ _ _ l (omega arith) (omega arith) h.0 h.1 h.2
front_of s ops.Question l h = front_one s _ l h
front_of s ops.Colon l h = front_one s _ l h
front_of s ops.Path l h = front_two s _ _ l (omega arith) h.0 h.1
front_of s ops.Dot l h = front_one s _ l h
front_of s ops.Comma l h = front_one s _ l h
front_of s ops.Semicolon l h = front_one s _ l h
front_of s ops.Open l h = front_one s _ l h
front_of s ops.Close l h = front_one s _ l h
front_of s ops.OpenSquare l h = front_one s _ l h
front_of s ops.CloseSquare l h = front_one s _ l h

pub record OpFound (s : List ℕ) (p : Kind × ℕ) : Type 0 where
  pub op : Op
  pub kind_is : p.0 ≡ kinds.Op op
  pub some : 0 < p.1
  pub within : p.1 ≤ length s
  pub spelled : take p.1 s ≡ op_text op

op_found : (s : List ℕ) (x : Option Op) (p : Kind × ℕ) → 0 < length s → IsFrontOf (get_or s 0 0) (get_or s 1 0) (get_or s 2 0) x → op_sized x ≡ Some p → OpFound s p
op_found s None p l f h = absurd cc
op_found s (Some o) p l f h =
    let e : (kinds.Op o, length (op_text o)) ≡ p = some_same h in
    let t = front_of s o l f in
    record {
      op = o;
      kind_is = sym (ap (λ x. x.0) e);
      some = rw (← ap (λ x. x.1) e) (op_some o);
      within = rw (← ap (λ x. x.1) e) (omega (arith, ap length t, length-take (length (op_text o)) s));
      spelled = rw (← ap (λ x. x.1) e) t;
    }

pub op_sound : (s : List ℕ) (p : Kind × ℕ) → 0 < length s → op_at s ≡ Some p → OpFound s p
op_sound s p l h = op_found s (op_of (get_or s 0 0) (get_or s 1 0) (get_or s 2 0)) p l (op_front (get_or s 0 0) (get_or s 1 0) (get_or s 2 0)) h
