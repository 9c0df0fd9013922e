-- Numbers without a sign.
use Rattle.std.specs.Prelude.{ℕ, ◌+◌, ◌-◌, ◌*◌, ◌^◌, ◌≤◌, ◌≡◌, ◌≢◌, ◌⊎◌, ◌==◌, ◌&&◌, ◌||◌, Bool, true, false, List, [], ◌∷◌, length, slice_index, nat_lt, if◌then◌else◌}
use Rattle.std.specs.Int.{is_in_range}

-- the value of a digit, letters from ten on; 255 for what is no digit
unfoldable pub digit_value : ℕ → ℕ
digit_value b = if is_in_range 48 57 b then b - 48
    else (if is_in_range 97 102 b then b - 87
    else (if is_in_range 65 70 b then b - 55
    else 255))

abbrev pub is_digit_of : ℕ → ℕ → Bool
is_digit_of base b = nat_lt (digit_value b) base

-- What stands behind a digit, and the values of the digits there. `_` stands between digits.
pub data IsRest (base : ℕ) : List ℕ → List ℕ → Type 0 where
  stop : IsRest base [] []
  digit : {d : ℕ} {rest values : List ℕ} → is_digit_of base d ≡ true → IsRest base rest values → IsRest base (d ∷ rest) (digit_value d ∷ values)
  gap : {d : ℕ} {rest values : List ℕ} → is_digit_of base d ≡ true → IsRest base rest values → IsRest base (95 ∷ d ∷ rest) (digit_value d ∷ values)

-- the number that digits of these values stand for, each at its place: the last one counts ones
abbrev pub place_value : ℕ → List ℕ → ℕ
place_value base [] = 0
place_value base (d ∷ ds) = d * base ^ length ds + place_value base ds

-- a number in this base goes on with these two bytes
abbrev pub goes_on_in : ℕ → ℕ → ℕ → Bool
goes_on_in base b c = is_digit_of base b || (b == 95 && is_digit_of base c)

-- digits in this base, the whole run of them, that spell v
pub record AreDigits (base : ℕ) (word after : List ℕ) (v : ℕ) : Type 0 where
  pub first : ℕ
  pub rest : List ℕ
  pub values : List ℕ
  pub word_is : word ≡ first ∷ rest
  pub is_first : is_digit_of base first ≡ true
  pub is_rest : IsRest base rest values
  pub value_is : v ≡ place_value base (digit_value first ∷ values)
  pub whole : goes_on_in base (slice_index after 0) (slice_index after 1) ≡ false

-- `x`, `b` and `o` behind a 0, by the base that they give, else 0
abbrev pub base_of : ℕ → ℕ
base_of b = if b == 120 then 16 else (if b == 98 then 2 else (if b == 111 then 8 else 0))

-- these two bytes behind a 0 give a base and begin a number in it
abbrev pub has_base : ℕ → ℕ → Bool
has_base b c = is_digit_of (base_of b) c

abbrev pub largest_int : ℕ
largest_int = 9223372036854775808

-- decimal digits: no zero stands before another digit, and what follows makes it no number of another base
pub record IsDecimal (word after : List ℕ) (v : ℕ) : Type 0 where
  pub digits : AreDigits 10 word after v
  pub plain : (slice_index word 0 ≢ 48) ⊎ ((word ≡ 48 ∷ []) × (has_base (slice_index after 0) (slice_index after 1) ≡ false))

-- `0x`, `0b` or `0o`, and digits in that base, with no decimal digit behind them
pub record IsBased (word after : List ℕ) (v : ℕ) : Type 0 where
  pub mark : ℕ
  pub rest : List ℕ
  pub word_is : word ≡ 48 ∷ mark ∷ rest
  pub digits : AreDigits (base_of mark) rest after v
  pub ends : goes_on_in 10 (slice_index after 0) (slice_index after 1) ≡ false

-- The word spells the number v, of at most 2 ^ 63.
pub record IsInt (word after : List ℕ) (v : ℕ) : Type 0 where
  pub spelled : IsDecimal word after v ⊎ IsBased word after v
  pub fits : v ≤ largest_int
