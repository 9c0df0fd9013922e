-- Objects without fields.
use Rattle.std.proofs.Common.{◌≡◌, ℕ, List, [], map, nat_eq, subst, sym}
use Rattle.std.specs.List.{IsDistinct}

apart_none : IsDistinct nat_eq []
unfolding IsDistinct
apart_none = tt

-- no two of no fields have one name
pub none_twice : {A : Type 0} (name : A → ℕ) (fields : List A) → fields ≡ [] → IsDistinct nat_eq (map name fields)
none_twice name fields none = subst (λ xs. IsDistinct nat_eq (map name xs)) (sym none) apart_none
