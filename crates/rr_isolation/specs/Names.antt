-- The outer names of a block as a list, and whether it yields, as they are counted: what `IsOuterName` and `UsesYield` say.
use Rattle.std.specs.Prelude.{◌≡◌, ℕ, zero, suc, ◌+◌, nat_eq, nat_lt, Bool, true, false, ◌||◌, if◌then◌else◌, List, [], ◌∷◌, ◌++◌, map, IsTrue}
use Rattle.std.specs.List.{flat_map, list_any}
use Rattle.rr_base.specs.declared.fault.Fault.{Fault}
use Rattle.rr_base.specs.declared.fault.Fault.TheVariants as fault
use Rattle.rr_tree.specs.Tree.{Tree, local, assign, block, super, forwarding_super, yield}
use Rattle.rr_isolation.specs.Outer.{is_earlier}
use Rattle.rr_isolation.specs.Parts.{parts, opened}

-- the use of a variable that so many scopes outside made, or more: its name, and how many words stand behind it
abbrev pub use_at : ℕ → Tree → List (ℕ × ℕ)
use_at scopes (local depth slot x words) = if nat_lt depth scopes then [] else (x, words) ∷ []
use_at scopes (assign depth slot x words value) = if nat_lt depth scopes then [] else (x, words) ∷ []
use_at scopes _ = []

-- The uses in a tree of variables made outside, where so many blocks stand round it. The tree is looked through down to a depth: a tree of
-- a program is not deeper than the program has nodes.
abbrev pub uses_in : ℕ → ℕ → Tree → List (ℕ × ℕ)
uses_in zero blocks t = []
uses_in (suc depth) blocks t = use_at blocks t ++ flat_map (λ p. uses_in depth (opened t + blocks) p) (parts t)

-- a use among others, in their order
abbrev pub put_use : ℕ × ℕ → List (ℕ × ℕ) → List (ℕ × ℕ)
put_use u [] = u ∷ []
put_use u (v ∷ vs) = if is_earlier v u then v ∷ put_use u vs else u ∷ v ∷ vs

abbrev pub in_order : List (ℕ × ℕ) → List (ℕ × ℕ)
in_order [] = []
in_order (u ∷ us) = put_use u (in_order us)

-- the uses of other names
abbrev pub others : ℕ → List (ℕ × ℕ) → List (ℕ × ℕ)
others x [] = []
others x (u ∷ us) = if nat_eq x u.0 then others x us else u ∷ others x us

-- of each name the use that stands first
abbrev pub each_once : List (ℕ × ℕ) → List (ℕ × ℕ)
each_once [] = []
each_once (u ∷ us) = u ∷ others u.0 (each_once us)

-- the names of uses, each once, in the order of their first uses
abbrev pub names_used : List (ℕ × ℕ) → List ℕ
names_used us = map (λ u. u.0) (each_once (in_order us))

-- the outer names of a block, each once, in the order of their first uses
abbrev pub outer_names : ℕ → Tree → List ℕ
outer_names depth (block scope parameters size body) = names_used (uses_in depth 0 (block scope parameters size body))
outer_names depth _ = []

abbrev pub is_yield : Tree → Bool
is_yield (yield l) = true
is_yield (super l) = true
is_yield forwarding_super = true
is_yield _ = false

-- whether `yield` or `super` stands in a tree
abbrev pub yields_in : ℕ → Tree → Bool
yields_in zero t = false
yields_in (suc depth) t = is_yield t || list_any (λ p. yields_in depth p) (parts t)

abbrev pub uses_yield : ℕ → Tree → Bool
uses_yield depth (block scope parameters size body) = yields_in depth (block scope parameters size body)
uses_yield depth _ = false

-- what a fault tells of a block that cannot be a ractor's
abbrev pub IsTold : ℕ → Tree → Fault → Type 0
IsTold depth t (fault.UsesOuter names) = (map (λ s. s.0) names.items ≡ outer_names depth t) × (outer_names depth t ≡ [] → ⊥)
IsTold depth t fault.UsesYield = (outer_names depth t ≡ []) × IsTrue (uses_yield depth t)
IsTold depth t _ = Unit {0}
