-- Numbers of one digit.
use Rattle.std.proofs.Common.{◌≡◌, ℕ, zero, suc, ◌+◌, ◌-◌, ◌<◌, ◌≤◌, List, [], ◌∷◌, length, get_or, arith, refl, sym, ap, ◌∙◌}
use Rattle.std.specs.Prelude.{Some}
use Rattle.rr_lexer.specs.Contents.{int_value_of}
use Rattle.rr_lexer.specs.Scans.{number_at}
use Rattle.rr_lexer.specs.Numbers.{digit_value}

digit_spelled : (d : ℕ) → d < 10 → int_value_of ((48 + d) ∷ []) ≡ Some d
unfolding int_value_of number_at digit_value
digit_spelled zero lt = refl
digit_spelled (suc zero) lt = refl
digit_spelled (suc (suc zero)) lt = refl
digit_spelled (suc (suc (suc zero))) lt = refl
digit_spelled (suc (suc (suc (suc zero)))) lt = refl
digit_spelled (suc (suc (suc (suc (suc zero))))) lt = refl
digit_spelled (suc (suc (suc (suc (suc (suc zero)))))) lt = refl
digit_spelled (suc (suc (suc (suc (suc (suc (suc zero))))))) lt = refl
digit_spelled (suc (suc (suc (suc (suc (suc (suc (suc zero)))))))) lt = refl
digit_spelled (suc (suc (suc (suc (suc (suc (suc (suc (suc zero))))))))) lt = refl
digit_spelled (suc (suc (suc (suc (suc (suc (suc (suc (suc (suc d)))))))))) lt = let never : ⊥ = omega (arith, lt) in absurd never

digit_alone : (b : ℕ) → 48 ≤ b → b ≤ 57 → int_value_of (b ∷ []) ≡ Some (b - 48)
digit_alone b low high =
    let is : b ≡ 48 + (b - 48) = omega (arith, low) in
    ap (λ (n : ℕ). int_value_of (n ∷ [])) is ∙ digit_spelled (b - 48) (omega (arith, low, high))

pub digit_of_word : (ws : List ℕ) (v : ℕ) → 1 ≤ length ws → length ws < 2 → 48 ≤ get_or ws 0 0 → get_or ws 0 0 ≤ 57 → v ≡ get_or ws 0 0 - 48 → Some v ≡ int_value_of ws
digit_of_word [] v some one low high e = let never : ⊥ = omega (arith, some) in absurd never
digit_of_word (b ∷ []) v some one low high e = ap Some e ∙ sym (digit_alone b low high)
digit_of_word (b ∷ c ∷ ws) v some one low high e = let never : ⊥ = omega (arith, one) in absurd never
