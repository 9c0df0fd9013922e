-- The measure of a search: a node weighs more than its parts together.
use Rattle.std.proofs.Common.{◌≡◌, ◌∙◌, sym, ap, refl, arith, ℕ, zero, suc, ◌+◌, ◌*◌, ◌<◌, ◌≤◌, List, [], ◌∷◌, ◌++◌, length, All, get_or, sum_by, true, false, nat_lt}
use Rattle.std.proofs.lemmas.Bool.Decides.{nat_tests}
use Rattle.std.proofs.lemmas.List.Sums.{sum_by-le, sum_by-append, sum_by-cons}
use Rattle.std.proofs.Math.Nat.{mul-le-mul_right}
use Rattle.rr_isolation.specs.Numbers.{spots}
use Rattle.rr_isolation.specs.declared.search.Spot.{Spot}
use Rattle.rr_isolation.proofs.Spots.{spot}

-- the parts are at most three and those of a list, which stand before the node
unfoldable pub weight : ℕ → ℕ
weight zero = 1
weight (suc i) = suc ((i + 4) * weight i)

unfoldable pub weights : List Spot → ℕ
weights ss = sum_by (λ s. weight s.node) ss

weight-more : (i : ℕ) → weight i ≤ weight (suc i)
unfolding weight
weight-more i = let more : 1 * weight i ≤ (i + 4) * weight i = mul-le-mul_right (weight i) (omega arith) in omega arith

weight-monotone : (k m : ℕ) → k ≤ m → weight k ≤ weight m
weight-monotone k zero h = let e : k ≡ 0 = omega arith in rw e (omega arith)
weight-monotone k (suc m) h = elim (nat_lt k (suc m)) as (λ b. nat_lt k (suc m) ≡ b → weight k ≤ weight (suc m)) [
  | true ↦ λ e. let below : k ≤ m = grind (arith, nat_tests) in omega (arith, weight-monotone k m below, weight-more m)
  | false ↦ λ e. let same : k ≡ suc m = grind (arith, nat_tests) in rw same (omega arith)
] refl

weights-spots : (b : ℕ) (xs : List ℕ) → weights (spots b xs) ≡ sum_by weight xs
unfolding weights
weights-spots b [] = refl
weights-spots b (x ∷ xs) =
    sum_by-cons (λ (s : Spot). weight s.node) (spot b x) (spots b xs) ∙ ap (λ n. weight x + n) (weights-spots b xs) ∙ sym (sum_by-cons weight x xs)

-- parts that stand before a node weigh less than the node
lighter : (i b : ℕ) (xs : List ℕ) → All (λ k. k < i) xs → length xs ≤ i + 3 → weights (spots b xs) < weight i
unfolding weight weights
lighter zero b [] all few = omega arith
lighter zero b (x ∷ xs) all few = let h : x < 0 = all zero x (omega arith) in absurd (omega arith)
lighter (suc m) b xs all few =
    let most : sum_by weight xs ≤ length xs * weight m = sum_by-le weight (weight m) xs (λ k d lt. weight-monotone (get_or xs k d) m (let h = all k d lt in omega arith)) in
    let more : length xs * weight m ≤ (m + 4) * weight m = mul-le-mul_right (weight m) (omega arith) in
    let same = weights-spots b xs in
    omega arith

-- a spot gives way to the spots of its parts
pub weights_fall : (rest : List Spot) (s : Spot) (b : ℕ) (xs : List ℕ) → All (λ k. k < s.node) xs → length xs ≤ s.node + 3 → weights (rest ++ spots b xs) < weights (rest ++ s ∷ [])
unfolding weights
weights_fall rest s b xs all few =
    let light = lighter s.node b xs all few in
    let left = sum_by-append (λ (q : Spot). weight q.node) rest (spots b xs) in
    let right = sum_by-append (λ (q : Spot). weight q.node) rest (s ∷ []) in
    let one = sum_by-cons (λ (q : Spot). weight q.node) s [] in
    omega arith
