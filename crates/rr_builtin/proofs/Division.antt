-- The quotient rounds down, and the modulus is what it leaves.
use Rattle.std.proofs.Common.{◌≡◌, ◌≢◌, ℕ, zero, suc, ◌+◌, ◌*◌, ◌/◌, ℤ, pos, negsuc, refl, inl, inr, arith}
use Rattle.std.proofs.Math.IntN.{pos-*ℤ-pos, negsuc-*ℤ-pos, pos-*ℤ-negsuc, negsuc-*ℤ-negsuc}
use Rattle.std.proofs.lemmas.Nat.{div-add-mod'}
use Rattle.std.proofs.lemmas.Int.{ints}
use Rattle.rr_builtin.specs.Floor.{floored, modulus, IsDivision}

suc_times : (q s : ℕ) → suc q * s ≡ q * s + s
suc_times q s = omega arith

pub division : (a b : ℤ) → b ≢ pos 0 → IsDivision a b (floored a b) (modulus a b)
division (pos m) (pos zero) h = absurd (h refl)
division (negsuc m) (pos zero) h = absurd (h refl)
division (pos m) (pos (suc n)) h =
    let e = pos-*ℤ-pos (m / suc n) (suc n) in
    let d = div-add-mod' m (suc n) in
    (omega (arith, ints, e, d), inl (omega (arith, ints), omega (arith, ints)))
division (negsuc m) (pos (suc n)) h =
    let e = negsuc-*ℤ-pos (m / suc n) (suc n) in
    let d = div-add-mod' m (suc n) in
    let t = suc_times (m / suc n) (suc n) in
    (omega (arith, ints, e, d, t), inl (omega (arith, ints), omega (arith, ints)))
division (pos zero) (negsuc n) h = (omega (arith, ints, pos-*ℤ-negsuc 0 n), inr (omega (arith, ints), omega (arith, ints)))
division (pos (suc m)) (negsuc n) h =
    let e = negsuc-*ℤ-negsuc (m / suc n) n in
    let d = div-add-mod' m (suc n) in
    let t = suc_times (m / suc n) (suc n) in
    (omega (arith, ints, e, d, t), inr (omega (arith, ints), omega (arith, ints)))
division (negsuc m) (negsuc n) h =
    let e = pos-*ℤ-negsuc (suc m / suc n) n in
    let d = div-add-mod' (suc m) (suc n) in
    (omega (arith, ints, e, d), inr (omega (arith, ints), omega (arith, ints)))
