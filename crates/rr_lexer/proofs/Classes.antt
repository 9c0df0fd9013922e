-- The bytes of a class.
use Rattle.std.proofs.Common.{ℕ, ◌-◌, ◌<◌, ◌≤◌, arith, nat_le, nat_lt, ◌≡◌, ◌==◌, ◌⊎◌, inl, inr, ◌||◌, Bool, true, false, cond, refl}
use Rattle.std.proofs.lemmas.Bool.{eqb-true, ne_eqb, leb-true, ltb-true}
use Rattle.std.proofs.lemmas.Bool.Decides.{leb_tells}
use Rattle.rr_lexer.specs.Numbers.{digit_value, is_digit_of}
use Rattle.std.specs.Int.{is_in_range}
use Rattle.rr_lexer.specs.Bytes.{class_of, is_mark, is_word_byte}
use Rattle.rr_lexer.specs.declared.class.Class.{Class}
use Rattle.rr_lexer.specs.declared.class.Class.TheVariants.{Lower, Upper, Digit, Double, Single, Hash, LineFeed, Return, Blank, Backslash, At, Dollar, Colon, OpenBrace, CloseBrace, Mark, Other}
use Rattle.rr_lexer.proofs.Heads.{pick, or_true, and_true}

-- the bytes of the classes that have one or two
abbrev pub IsOfClass : ℕ → Class → Type 0
IsOfClass b Double = b ≡ 34
IsOfClass b Single = b ≡ 39
IsOfClass b Hash = b ≡ 35
IsOfClass b LineFeed = b ≡ 10
IsOfClass b Return = b ≡ 13
IsOfClass b Blank = (b ≡ 32) ⊎ (b ≡ 9)
IsOfClass b Backslash = b ≡ 92
IsOfClass b At = b ≡ 64
IsOfClass b Dollar = b ≡ 36
IsOfClass b Colon = b ≡ 58
IsOfClass b OpenBrace = b ≡ 123
IsOfClass b CloseBrace = b ≡ 125
IsOfClass b _ = Unit {0}

blank_byte : (b : ℕ) → (b == 32 || b == 9) ≡ true → (b ≡ 32) ⊎ (b ≡ 9)
blank_byte b h = elim (or_true (b == 32) (b == 9) h) [ inl e ↦ inl (eqb-true b 32 e) | inr e ↦ inr (eqb-true b 9 e) ]

of_class : (b : ℕ) → IsOfClass b (class_of b)
unfolding class_of
of_class b =
    pick (IsOfClass b) (is_in_range 97 122 b || b == 95) Lower _ (λ e. tt) (λ e.
    pick (IsOfClass b) (is_in_range 65 90 b) Upper _ (λ e. tt) (λ e.
    pick (IsOfClass b) (is_in_range 48 57 b) Digit _ (λ e. tt) (λ e.
    pick (IsOfClass b) (b == 34) Double _ (λ e. eqb-true b 34 e) (λ e.
    pick (IsOfClass b) (b == 39) Single _ (λ e. eqb-true b 39 e) (λ e.
    pick (IsOfClass b) (b == 35) Hash _ (λ e. eqb-true b 35 e) (λ e.
    pick (IsOfClass b) (b == 10) LineFeed _ (λ e. eqb-true b 10 e) (λ e.
    pick (IsOfClass b) (b == 13) Return _ (λ e. eqb-true b 13 e) (λ e.
    pick (IsOfClass b) (b == 32 || b == 9) Blank _ (λ e. blank_byte b e) (λ e.
    pick (IsOfClass b) (b == 92) Backslash _ (λ e. eqb-true b 92 e) (λ e.
    pick (IsOfClass b) (b == 64) At _ (λ e. eqb-true b 64 e) (λ e.
    pick (IsOfClass b) (b == 36) Dollar _ (λ e. eqb-true b 36 e) (λ e.
    pick (IsOfClass b) (b == 58) Colon _ (λ e. eqb-true b 58 e) (λ e.
    pick (IsOfClass b) (b == 123) OpenBrace _ (λ e. eqb-true b 123 e) (λ e.
    pick (IsOfClass b) (b == 125) CloseBrace _ (λ e. eqb-true b 125 e) (λ e.
    pick (IsOfClass b) (is_mark b) Mark Other (λ e. tt) (λ e. tt))))))))))))))))

pub byte_of : (b : ℕ) (c : Class) → class_of b ≡ c → IsOfClass b c
byte_of b c e = rw (← e) (of_class b)

pub no_word_byte : is_word_byte 0 ≡ false
unfolding class_of
no_word_byte = refl

-- a test on a range, told
in_range : (lo hi b : ℕ) → is_in_range lo hi b ≡ true → (lo ≤ b) × (b ≤ hi)
in_range lo hi b h = let t = and_true (nat_le lo b) (nat_le b hi) h in (leb-true lo b t.0, leb-true b hi t.1)

above_range : (lo hi b : ℕ) → b < lo → is_in_range lo hi b ≡ false
above_range lo hi b l = elim (leb_tells lo b) [ inl t ↦ absurd (omega (arith, t.1, l)) | inr t ↦ rw t.0 refl ]

from_tests : (b : ℕ) (x y z : Bool) → is_in_range 48 57 b ≡ x → is_in_range 97 102 b ≡ y → is_in_range 65 70 b ≡ z
    → nat_lt (cond x (b - 48) (cond y (b - 87) (cond z (b - 55) 255))) 10 ≡ true → x ≡ true
from_tests b true y z e f g h = refl
from_tests b false true z e f g h = let r = in_range 97 102 b f in let l = ltb-true (b - 87) 10 h in absurd (omega arith)
from_tests b false false true e f g h = let r = in_range 65 70 b g in let l = ltb-true (b - 55) 10 h in absurd (omega arith)
from_tests b false false false e f g h = let l = ltb-true 255 10 h in absurd (omega arith)

-- a decimal digit is a byte of the class of digits
pub digit_class : (b : ℕ) → is_digit_of 10 b ≡ true → class_of b ≡ Digit
unfolding class_of digit_value
digit_class b h =
    let d : is_in_range 48 57 b ≡ true = from_tests b (is_in_range 48 57 b) (is_in_range 97 102 b) (is_in_range 65 70 b) refl refl refl h in
    let r = in_range 48 57 b d in
    rw (above_range 97 122 b (omega (arith, r.1)), ne_eqb b 95 (λ e. absurd (omega (arith, e, r.1))), above_range 65 90 b (omega (arith, r.1)), d) refl
