-- Names find the iterations that have them.
use Rattle.std.proofs.Common.{◌≡◌, ℕ, zero, suc, Bool, true, false, List, [], ◌∷◌, Vec, Option, Some, None, map, slice_index_or, if◌then◌else◌, refl, ap}
use Rattle.std.specs.Str.{bytes_eq}
use Rattle.std.proofs.lemmas.Slice.Eq.{bytes_eq-Decides}
use Rattle.rr_builtin.specs.declared.iterations.Iteration.{Iteration}
use Rattle.rr_builtin.specs.declared.iterations.Iteration.TheVariants.{Times, Upto, Each, EachWithIndex, Map, Select}
use Rattle.rr_builtin.specs.Iterations.{iteration_name, iteration_named, iteration_among, all_iterations, IterationNamesAreOne, IterationNamesAreMet, IterationsAreApart, IterationsAreByName}
use Rattle.rr_builtin.specs.Methods.{method_named}

pub names_are_one : IterationNamesAreOne
unfolding iteration_named
names_are_one Times = refl
names_are_one Upto = refl
names_are_one Each = refl
names_are_one EachWithIndex = refl
names_are_one Map = refl
names_are_one Select = refl

-- an iteration that is taken only where a test holds
taken : (b : Bool) (i j : Iteration) (rest : Option Iteration) (P : Type 0) → (b ≡ true → i ≡ j → P) → (rest ≡ Some j → P) → (if b then Some i else rest) ≡ Some j → P
taken true i j rest P here there e = let same : i ≡ j = cc in here refl same
taken false i j rest P here there e = there e

met_among : (name : List ℕ) (is : List Iteration) (i : Iteration) → iteration_among name is ≡ Some i → iteration_name i ≡ name
met_among name [] i e = let none : ⊥ = cc in absurd none
met_among name (k ∷ is) i e =
    taken (bytes_eq name (iteration_name k)) k i (iteration_among name is) (iteration_name i ≡ name)
    (λ same is_it. let met : name ≡ iteration_name k = (bytes_eq-Decides name (iteration_name k)).0 same in let turned : iteration_name k ≡ iteration_name i = ap iteration_name is_it in cc)
    (met_among name is i) e

pub names_are_met : IterationNamesAreMet
unfolding iteration_named
names_are_met name i e = met_among name all_iterations i e

pub names_are_apart : IterationsAreApart
unfolding method_named
names_are_apart Times = refl
names_are_apart Upto = refl
names_are_apart Each = refl
names_are_apart EachWithIndex = refl
names_are_apart Map = refl
names_are_apart Select = refl

at_name : {A : Type 0} (ss : List (Vec ℕ A)) (n : ℕ) → slice_index_or (map (λ s. iteration_named s.items) ss) n None ≡ iteration_named (slice_index_or (map (λ s. s.items) ss) n [])
unfolding iteration_named
at_name [] n = refl
at_name (s ∷ ss) zero = refl
at_name (s ∷ ss) (suc n) = at_name ss n

pub table_is_by_name : IterationsAreByName
table_is_by_name p n = at_name p.symbols.items n
