-- The order of uses.
use Rattle.std.proofs.Common.{◌≡◌, ℕ, true, false, arith}
use Rattle.std.proofs.lemmas.Bool.Decides.{nat_tests}
use Rattle.std.specs.Cmp.{IsStrictWeakOrder}
use Rattle.rr_isolation.specs.Outer.{is_earlier}

-- any two uses compare
pub earlier_order : IsStrictWeakOrder is_earlier
earlier_order = record {
  one_way = λ x y h. grind (arith, nat_tests);
  chain = λ x y z h k. grind (arith, nat_tests);
}

-- of two uses of different names one is the earlier
pub earlier_else : (u v : ℕ × ℕ) → (u.0 ≡ v.0 → ⊥) → is_earlier v u ≡ false → is_earlier u v ≡ true
earlier_else u v differ h = grind (arith, nat_tests)
