-- Where a select is in its rounds.
use Rattle.std.proofs.Common.{ℕ, suc, ◌≤◌, ◌<◌, ◌+◌, ◌-◌, ◌%◌, ◌≡◌, ◌⊎◌, inl, inr, Bool, true, false, List, [], ◌∷◌, ◌++◌, length, map, get_or, refl, sym, zero-add, arith, ap, ◌∙◌}
use Rattle.std.specs.List.{range_with_len}
use Rattle.std.proofs.lemmas.Bool.{cases_lt, cases_order}
use Rattle.std.proofs.lemmas.List.{length-append, get_or_append_left, get_or-append_right}
use Rattle.std.proofs.lemmas.List.FromFn.{length-map-range_with_len, get_or-map-range_with_len}
use Rattle.std.proofs.Math.Nat.{suc-mod, mod-eq_of_lt, mod_self, mod-lt}
use Rattle.rr_select.specs.declared.round.Act.{Act}
use Rattle.rr_select.specs.declared.round.Act.TheVariants.{Try, Offer, Sleep, Withdraw, End}
use Rattle.rr_select.specs.declared.round.Ending.{Ending}
use Rattle.rr_select.specs.Rounds.{round, asked}

-- the tail of a round, behind the entries
abbrev tail_of : Bool → List Act
tail_of true = Offer ∷ Sleep ∷ Withdraw ∷ []
tail_of false = Sleep ∷ []

pub round_is : (n : ℕ) (own : Bool) → round n own ≡ map Try (range_with_len 0 n) ++ tail_of own
unfolding round
round_is n true = refl
round_is n false = refl

pub round_len : (n : ℕ) (own : Bool) → length (round n own) ≡ n + length (tail_of own)
round_len n own = rw round_is (length-append (map Try (range_with_len 0 n)) (tail_of own) ∙ ap (λ x. x + length (tail_of own)) (length-map-range_with_len Try 0 n))

pub at_entry : (n : ℕ) (own : Bool) (p : ℕ) → p < n → get_or (round n own) p Sleep ≡ Try p
at_entry n own p h =
    let len : length (map Try (range_with_len 0 n)) ≡ n = length-map-range_with_len Try 0 n in
    let inside : p < length (map Try (range_with_len 0 n)) = omega arith in
    ap (λ x. get_or x p Sleep) (round_is n own) ∙ get_or_append_left (map Try (range_with_len 0 n)) (tail_of own) Sleep p inside ∙ get_or-map-range_with_len Try 0 n p p Sleep h (zero-add p)

pub at_tail : (n : ℕ) (own : Bool) (p k : ℕ) → p ≡ n + k → get_or (round n own) p Sleep ≡ get_or (tail_of own) k Sleep
at_tail n own p k h =
    let len : length (map Try (range_with_len 0 n)) ≡ n = length-map-range_with_len Try 0 n in
    let behind : n ≤ p = omega arith in
    let rest : p - n ≡ k = omega arith in
    ap (λ x. get_or x p Sleep) (round_is n own) ∙ get_or-append_right (map Try (range_with_len 0 n)) (tail_of own) n p Sleep len behind ∙ ap (λ x. get_or (tail_of own) x Sleep) rest

-- the first act that is left of a round
pub entry_left : (n : ℕ) (own : Bool) (p : ℕ) → p < n → Try p ≡ get_or (round n own) p Sleep
entry_left n own p h = sym (at_entry n own p h)

pub own_left : (n : ℕ) (own : Bool) (p : ℕ) → p ≤ n → n ≤ p → own ≡ true → Offer ≡ get_or (round n own) p Sleep
own_left n true p h k o = sym (at_tail n true p 0 (omega arith))
own_left n false p h k o = absurd (cc)

pub rest_left : (n : ℕ) (own : Bool) (p : ℕ) → p ≤ n → n ≤ p → own ≡ false → Sleep ≡ get_or (round n own) p Sleep
rest_left n true p h k o = absurd (cc)
rest_left n false p h k o = sym (at_tail n false p 0 (omega arith))

-- one more, modulo m
pub step_inside : (i m r : ℕ) → i % m ≡ r → r + 1 < m → (i + 1) % m ≡ r + 1
step_inside i m r h below =
    let one : i + 1 ≡ suc i = omega arith in
    let next : suc (i % m) ≡ r + 1 = omega arith in
    ap (λ x. x % m) one ∙ suc-mod i m ∙ ap (λ x. x % m) next ∙ mod-eq_of_lt below

pub step_around : (i m r : ℕ) → i % m ≡ r → r + 1 ≡ m → (i + 1) % m ≡ 0
step_around i m r h is =
    let one : i + 1 ≡ suc i = omega arith in
    let next : suc (i % m) ≡ m = omega arith in
    ap (λ x. x % m) one ∙ suc-mod i m ∙ ap (λ x. x % m) next ∙ mod_self m

pub asked_is : (n : ℕ) (own : Bool) (i r : ℕ) → i % length (round n own) ≡ r → asked n own i ≡ get_or (round n own) r Sleep
unfolding asked
asked_is n own i r h = ap (λ x. get_or (round n own) x Sleep) h

-- where the i-th act stands in its round, and what comes behind it
pub data Spot (n : ℕ) (own : Bool) (i : ℕ) : Type 0 where
  AtEntry : (r : ℕ) → r < n → asked n own i ≡ Try r → asked n own (i + 1) ≡ get_or (round n own) (r + 1) Sleep → Spot n own i
  AtOffer : own ≡ true → asked n own i ≡ Offer → asked n own (i + 1) ≡ Sleep → Spot n own i
  AtSleep : own ≡ true → asked n own i ≡ Sleep → asked n own (i + 1) ≡ Withdraw → Spot n own i
  AtWithdraw : own ≡ true → asked n own i ≡ Withdraw → asked n own (i + 1) ≡ get_or (round n own) 0 Sleep → Spot n own i
  AtRest : own ≡ false → asked n own i ≡ Sleep → asked n own (i + 1) ≡ get_or (round n own) 0 Sleep → Spot n own i

spot_entry : (n : ℕ) (own : Bool) (i r : ℕ) → i % length (round n own) ≡ r → r < n → 0 < length (tail_of own) → Spot n own i
spot_entry n own i r h below some =
    let len : length (round n own) ≡ n + length (tail_of own) = round_len n own in
    let inside : r + 1 < length (round n own) = omega arith in
    AtEntry r below (asked_is n own i r h ∙ at_entry n own r below) (asked_is n own (i + 1) (r + 1) (step_inside i (length (round n own)) r h inside))

spot_rest : (n i r : ℕ) → i % length (round n false) ≡ r → r ≡ n → Spot n false i
spot_rest n i r h is =
    let len : length (round n false) ≡ n + 1 = round_len n false in
    let around : r + 1 ≡ length (round n false) = omega arith in
    let here : r ≡ n + 0 = omega arith in
    AtRest refl (asked_is n false i r h ∙ at_tail n false r 0 here) (asked_is n false (i + 1) 0 (step_around i (length (round n false)) r h around))

spot_own : (n i r : ℕ) → i % length (round n true) ≡ r → (r ≡ n) ⊎ ((r ≡ n + 1) ⊎ (r ≡ n + 2)) → Spot n true i
spot_own n i r h (inl is) =
    let len : length (round n true) ≡ n + 3 = round_len n true in
    let inside : r + 1 < length (round n true) = omega arith in
    let here : r ≡ n + 0 = omega arith in
    let next : r + 1 ≡ n + 1 = omega arith in
    AtOffer refl (asked_is n true i r h ∙ at_tail n true r 0 here) (asked_is n true (i + 1) (r + 1) (step_inside i (length (round n true)) r h inside) ∙ at_tail n true (r + 1) 1 next)
spot_own n i r h (inr (inl is)) =
    let len : length (round n true) ≡ n + 3 = round_len n true in
    let inside : r + 1 < length (round n true) = omega arith in
    let next : r + 1 ≡ n + 2 = omega arith in
    AtSleep refl (asked_is n true i r h ∙ at_tail n true r 1 is) (asked_is n true (i + 1) (r + 1) (step_inside i (length (round n true)) r h inside) ∙ at_tail n true (r + 1) 2 next)
spot_own n i r h (inr (inr is)) =
    let len : length (round n true) ≡ n + 3 = round_len n true in
    let around : r + 1 ≡ length (round n true) = omega arith in
    AtWithdraw refl (asked_is n true i r h ∙ at_tail n true r 2 is) (asked_is n true (i + 1) 0 (step_around i (length (round n true)) r h around))

-- the three places behind the entries
place_of : (n r : ℕ) → n ≤ r → r < n + 3 → (r ≡ n) ⊎ ((r ≡ n + 1) ⊎ (r ≡ n + 2))
place_of n r from below =
    elim (cases_order r (n + 1)) [
      | inl is ↦ inr (inl is)
      | inr (inl less) ↦ inl (omega arith)
      | inr (inr more) ↦ inr (inr (omega arith))
    ]

pub spot : (n : ℕ) (own : Bool) (i : ℕ) → Spot n own i
spot n true i =
    let len : length (round n true) ≡ n + 3 = round_len n true in
    let some : 0 < length (round n true) = omega arith in
    let below : i % length (round n true) < length (round n true) = mod-lt i some in
    elim (cases_lt (i % length (round n true)) n) [
      | inl less ↦ spot_entry n true i (i % length (round n true)) refl less (omega arith)
      | inr from ↦ spot_own n i (i % length (round n true)) refl (place_of n (i % length (round n true)) from (omega arith))
    ]
spot n false i =
    let len : length (round n false) ≡ n + 1 = round_len n false in
    let some : 0 < length (round n false) = omega arith in
    let below : i % length (round n false) < length (round n false) = mod-lt i some in
    elim (cases_lt (i % length (round n false)) n) [
      | inl less ↦ spot_entry n false i (i % length (round n false)) refl less (omega arith)
      | inr from ↦ spot_rest n i (i % length (round n false)) refl (omega arith)
    ]

-- what follows each act
pub behind_try : (n : ℕ) (own : Bool) (i k : ℕ) → Try k ≡ asked n own i → get_or (round n own) (k + 1) Sleep ≡ asked n own (i + 1)
behind_try n own i k is = elim (spot n own i) [
  | AtEntry r below here next ↦ cc
  | AtOffer o here next ↦ cc
  | AtSleep o here next ↦ cc
  | AtWithdraw o here next ↦ cc
  | AtRest o here next ↦ cc
]

pub behind_offer : (n : ℕ) (own : Bool) (i : ℕ) → Offer ≡ asked n own i → Sleep ≡ asked n own (i + 1)
behind_offer n own i is = elim (spot n own i) [
  | AtEntry r below here next ↦ cc
  | AtOffer o here next ↦ cc
  | AtSleep o here next ↦ cc
  | AtWithdraw o here next ↦ cc
  | AtRest o here next ↦ cc
]

pub behind_sleep : (n : ℕ) (own : Bool) (i : ℕ) → Sleep ≡ asked n own i → own ≡ true → Withdraw ≡ asked n own (i + 1)
behind_sleep n own i is with_own = elim (spot n own i) [
  | AtEntry r below here next ↦ cc
  | AtOffer o here next ↦ cc
  | AtSleep o here next ↦ cc
  | AtWithdraw o here next ↦ cc
  | AtRest o here next ↦ cc
]

pub behind_rest : (n : ℕ) (own : Bool) (i : ℕ) → Sleep ≡ asked n own i → own ≡ false → get_or (round n own) 0 Sleep ≡ asked n own (i + 1)
behind_rest n own i is without = elim (spot n own i) [
  | AtEntry r below here next ↦ cc
  | AtOffer o here next ↦ cc
  | AtSleep o here next ↦ cc
  | AtWithdraw o here next ↦ cc
  | AtRest o here next ↦ cc
]

pub behind_withdraw : (n : ℕ) (own : Bool) (i : ℕ) → Withdraw ≡ asked n own i → get_or (round n own) 0 Sleep ≡ asked n own (i + 1)
behind_withdraw n own i is = elim (spot n own i) [
  | AtEntry r below here next ↦ cc
  | AtOffer o here next ↦ cc
  | AtSleep o here next ↦ cc
  | AtWithdraw o here next ↦ cc
  | AtRest o here next ↦ cc
]

pub asks_no_end : (n : ℕ) (own : Bool) (i : ℕ) (e : Ending) → End e ≡ asked n own i → ⊥
asks_no_end n own i e is = elim (spot n own i) [
  | AtEntry r below here next ↦ cc
  | AtOffer o here next ↦ cc
  | AtSleep o here next ↦ cc
  | AtWithdraw o here next ↦ cc
  | AtRest o here next ↦ cc
]

pub tries_within : (n : ℕ) (own : Bool) (i k : ℕ) → Try k ≡ asked n own i → k < n
tries_within n own i k is = elim (spot n own i) [
  | AtEntry r below here next ↦ let same : k ≡ r = cc in omega arith
  | AtOffer o here next ↦ absurd (cc)
  | AtSleep o here next ↦ absurd (cc)
  | AtWithdraw o here next ↦ absurd (cc)
  | AtRest o here next ↦ absurd (cc)
]
