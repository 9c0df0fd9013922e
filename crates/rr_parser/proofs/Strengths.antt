-- How loosely words go on with what stands before them, and what stops which reader.
use Rattle.std.proofs.Common.{◌≡◌, ℕ, ◌+◌, ◌*◌, ◌<◌, inl, inr, Bool, true, false, cond, ◌==◌, List, [], ◌∷◌, Option, Some, None, refl, sym, ap, ◌∙◌, subst, arith}
use Rattle.std.proofs.lemmas.Bool.{false≢true}
use Rattle.std.proofs.lemmas.Bool.Decides.{eqb_tells}
use Rattle.std.proofs.lemmas.Option.{none-some}
use Rattle.rr_parser.specs.declared.word.Infix.{Infix}
use Rattle.rr_parser.specs.declared.word.Infix.TheVariants as infixes
use Rattle.rr_tree.specs.declared.node.BinaryOperator.TheVariants as op
use Rattle.rr_parser.specs.declared.word.Connective.{Connective}
use Rattle.rr_parser.specs.declared.word.Connective.TheVariants as connectives
use Rattle.rr_parser.specs.declared.word.Modifier.{Modifier}
use Rattle.rr_parser.specs.declared.word.Tail.{Tail}
use Rattle.rr_parser.specs.declared.word.WordKind.{WordKind}
use Rattle.rr_parser.specs.declared.word.WordKind.TheVariants as kind
use Rattle.rr_parser.specs.declared.word.Word.{Word}
use Rattle.rr_parser.specs.Places.{Known, Place, first_as, is_kind, without_separators, word, at, next, skip, separators}
use Rattle.rr_parser.specs.Grammar.Operands.{tail}
use Rattle.rr_parser.specs.Grammar.Operators.{level_of, at_level, operator_of, operator, where_level, connective_of, connective}
use Rattle.rr_parser.specs.declared.word.Sign.{Sign}
use Rattle.rr_parser.specs.Grammar.Calls.{comma, sign_of_kind, sign}
use Rattle.rr_parser.specs.Grammar.Sequences.{modifier_of, modifier}
use Rattle.rr_parser.specs.Grammar.Control.{thens, loops}
use Rattle.rr_parser.specs.Reading.Sequences.{ends, row}
use Rattle.rr_parser.proofs.Told.{Told, told_comma}
use Rattle.rr_parser.proofs.Looks.{is_tail, tail-next, seen_as, none_unless, word-next, separators-next, no_row, next-separators, thens-next, loops-next}

-- How loosely a word goes on with what stands before it: what follows an operand first, then the operators, then the conditions, `?`, the sign of an
-- assignment, the comma, the words `and` and `or`, the modifiers, and last what goes on with nothing.
abbrev pub strength : WordKind → ℕ
strength (kind.Operator o) = 3 * level_of o
strength kind.Dot = 0
strength kind.OpenSquare = 0
strength kind.Minus = 6
strength kind.And = 20
strength kind.Or = 25
strength kind.Question = 26
strength (kind.Assign q) = 27
strength kind.Comma = 28
strength kind.Arrow = 29
strength kind.AndWord = 30
strength kind.OrWord = 30
strength kind.If = 31
strength kind.Unless = 31
strength (kind.Loop until) = 31
strength _ = 32

abbrev pub strength_in : Option (WordKind × Place) → ℕ
strength_in None = 32
strength_in (Some k) = strength k.0

-- what comes goes on with nothing that is as tight as this
abbrev pub Stops : ℕ → Place → Type 0
Stops n z = n < strength_in (next z)

pub stops_by : (k : WordKind) (n : ℕ) (z m : Place) → next z ≡ Some (k, m) → n < strength k → Stops n z
stops_by k n z m e lt = subst (λ (q : ℕ). n < q) (sym (ap strength_in e)) lt

-- what is seen tells how loose the word is
pub seen_strength : {X : Type 0} (f : WordKind → Option X) (n : ℕ) → ((k : WordKind) (x : X) → f k ≡ Some x → strength k ≡ n) → (s z : Place) (x : X) → at (first_as (λ w. f w.kind)) s ≡ Some (x, z) → strength_in (next s) ≡ n
seen_strength f n tells s z x e = let w = seen_as (λ w. f w.kind) s z x e in ap strength_in w.here ∙ tells w.kind x w.told

pub unseen : {X : Type 0} (f : WordKind → Option X) (n : ℕ) → ((k : WordKind) (x : X) → f k ≡ Some x → strength k ≡ n) → (s : Place) → Stops n s → at (first_as (λ w. f w.kind)) s ≡ None
unseen f n tells s stops = none_unless (at (first_as (λ w. f w.kind)) s) (λ x z e. let never : ⊥ = omega (arith, seen_strength f n tells s z x e, stops) in never)

pub word_unseen : (k : WordKind) → Told k → (s : Place) → Stops (strength k) s → at (word k) s ≡ None
word_unseen k told s stops = none_unless (at (word k) s) (λ u z e. let never : ⊥ = omega (arith, ap strength_in (word-next k told s z u e), stops) in never)

-- ---- operators

no_operator : (b : Bool) (o x : Infix) → b ≡ false → cond b (Some o) None ≡ Some x → ⊥
no_operator true o x f e = let never : ⊥ = cc in never
no_operator false o x f e = let never : ⊥ = cc in never

at_level-is : (l : ℕ) (o x : Infix) → at_level l o ≡ Some x → level_of o ≡ l
at_level-is l o x e = elim (eqb_tells (level_of o) l) [ inl t ↦ t.1 | inr f ↦ absurd (no_operator (level_of o == l) o x f.0 e) ]

operator_tells : (l : ℕ) (k : WordKind) (x : Infix) → operator_of l k ≡ Some x → strength k ≡ 3 * l
operator_tells l (kind.Operator o) x e = ap (λ n. 3 * n) (at_level-is l o x e)
operator_tells l kind.Minus x e = ap (λ n. 3 * n) (at_level-is l (infixes.Binary op.Subtract) x e)
operator_tells l _ x e = absurd (none-some x e)

pub operator_strength : (l : ℕ) (s z : Place) (x : Infix) → at (operator l) s ≡ Some (x, z) → strength_in (next s) ≡ 3 * l
operator_strength l = seen_strength (operator_of l) (3 * l) (operator_tells l)

pub no_operator_at : (l : ℕ) (s : Place) → Stops (3 * l) s → at (operator l) s ≡ None
no_operator_at l = unseen (operator_of l) (3 * l) (operator_tells l)

no_connective : (b : Bool) (o x : Connective) → b ≡ false → cond b (Some o) None ≡ Some x → ⊥
no_connective true o x f e = let never : ⊥ = cc in never
no_connective false o x f e = let never : ⊥ = cc in never

where_level-is : (w l : ℕ) (o x : Connective) → where_level w l o ≡ Some x → w ≡ l
where_level-is w l o x e = elim (eqb_tells w l) [ inl t ↦ t.1 | inr f ↦ absurd (no_connective (w == l) o x f.0 e) ]

connective_tells : (l : ℕ) (k : WordKind) (x : Connective) → connective_of l k ≡ Some x → strength k ≡ 15 + 5 * l
connective_tells l kind.And x e = ap (λ n. 15 + 5 * n) (where_level-is 1 l connectives.And x e)
connective_tells l kind.Or x e = ap (λ n. 15 + 5 * n) (where_level-is 2 l connectives.Or x e)
connective_tells l kind.AndWord x e = ap (λ n. 15 + 5 * n) (where_level-is 3 l connectives.And x e)
connective_tells l kind.OrWord x e = ap (λ n. 15 + 5 * n) (where_level-is 3 l connectives.Or x e)
connective_tells l _ x e = absurd (none-some x e)

pub connective_strength : (l : ℕ) (s z : Place) (x : Connective) → at (connective l) s ≡ Some (x, z) → strength_in (next s) ≡ 15 + 5 * l
connective_strength l = seen_strength (connective_of l) (15 + 5 * l) (connective_tells l)

pub no_connective_at : (l : ℕ) (s : Place) → Stops (15 + 5 * l) s → at (connective l) s ≡ None
no_connective_at l = unseen (connective_of l) (15 + 5 * l) (connective_tells l)

modifier_tells : (k : WordKind) (x : Modifier) → modifier_of k ≡ Some x → strength k ≡ 31
modifier_tells kind.If x e = refl
modifier_tells kind.Unless x e = refl
modifier_tells (kind.Loop until) x e = refl
modifier_tells _ x e = absurd (none-some x e)

sign_tells : (k : WordKind) (q : Sign) → sign_of_kind k ≡ Some q → strength k ≡ 27
sign_tells (kind.Assign r) q e = refl
sign_tells _ q e = absurd (none-some q e)

pub sign_strength : (s z : Place) (q : Sign) → at sign s ≡ Some (q, z) → strength_in (next s) ≡ 27
sign_strength = seen_strength sign_of_kind 27 sign_tells

pub modifier_strength : (s z : Place) (x : Modifier) → at modifier s ≡ Some (x, z) → strength_in (next s) ≡ 31
modifier_strength = seen_strength modifier_of 31 modifier_tells

pub no_modifier_at : (s : Place) → Stops 31 s → at modifier s ≡ None
no_modifier_at = unseen modifier_of 31 modifier_tells

-- ---- what follows an operand

tail_strong : (k : WordKind) → is_tail k ≡ true → strength k ≡ 0
tail_strong kind.Dot e = refl
tail_strong kind.OpenSquare e = refl
tail_strong _ e = absurd (false≢true e)

pub tail_strength : (s z : Place) (x : Tail) → at tail s ≡ Some (x, z) → strength_in (next s) ≡ 0
tail_strength s z x e = let h = tail-next s z x e in ap strength_in h.here ∙ tail_strong h.first h.told

pub no_tail_at : (s : Place) → Stops 0 s → at tail s ≡ None
no_tail_at s stops = none_unless (at tail s) (λ x z e. let never : ⊥ = omega (arith, tail_strength s z x e, stops) in never)

-- ---- what ends statements

pub comma_strength : (s z : Place) (u : Unit {0}) → at comma s ≡ Some (u, z) → strength_in (next s) ≡ 28
comma_strength s z u e = ap strength_in (word-next kind.Comma told_comma s z u e)

pub separators_stop : (z n : Place) (u : Unit {0}) → at separators z ≡ Some (u, n) → Stops 31 z
separators_stop z n u e = let h = separators-next z n u e in stops_by kind.Separator 31 z h.0 h.1 (omega arith)

pub thens_stop : (z n : Place) (u : Unit {0}) → at thens z ≡ Some (u, n) → Stops 30 z
thens_stop z n u e = elim (thens-next z n u e) [
  | inl h ↦ stops_by kind.Then 30 z h.0 h.1 (omega arith)
  | inr h ↦ stops_by kind.Separator 30 z h.0 h.1 (omega arith)
]

pub loops_stop : (z n : Place) (u : Unit {0}) → at loops z ≡ Some (u, n) → Stops 30 z
loops_stop z n u e = elim (loops-next z n u e) [
  | inl h ↦ stops_by kind.Do 30 z h.0 h.1 (omega arith)
  | inr h ↦ omega (arith, separators_stop z n u h)
]

-- at the end of statements, behind separators
abbrev pub BeforeEnd : Place → Type 0
BeforeEnd z = Stops 31 z × (at row z ≡ None)

looser : 31 < 32
looser = omega arith

at_word : (known : Known) (k : WordKind) (b : Bool) (ws : List Word) → ends (cond (is_kind k kind.Separator) (without_separators ws) (record { kind = k; blank = b } ∷ ws)) ≡ true
    → BeforeEnd (record { known = known; rest = record { kind = k; blank = b } ∷ ws })
at_word known kind.Separator b ws e =
    let s : Place = record { known = known; rest = record { kind = kind.Separator; blank = b } ∷ ws } in
    let n : Place = record { known = known; rest = ws } in
    (looser, no_row s (skip n) tt (next-separators s n refl) e)
at_word known kind.Close b ws e = (looser, refl)
at_word known kind.CloseBrace b ws e = (looser, refl)
at_word known (kind.TextMiddle i) b ws e = (looser, refl)
at_word known (kind.TextTail i) b ws e = (looser, refl)
at_word known kind.Elsif b ws e = (looser, refl)
at_word known kind.Else b ws e = (looser, refl)
at_word known kind.Rescue b ws e = (looser, refl)
at_word known kind.Ensure b ws e = (looser, refl)
at_word known kind.End b ws e = (looser, refl)
at_word known _ b ws e = absurd (false≢true e)

before_end : (known : Known) (ws : List Word) → ends (without_separators ws) ≡ true → BeforeEnd (record { known = known; rest = ws })
before_end known [] e = (omega arith, refl)
before_end known (w ∷ ws) e = at_word known w.kind w.blank ws e

pub ends_behind : (z : Place) → ends (skip z).rest ≡ true → BeforeEnd z
ends_behind z e = before_end z.known z.rest e
