-- What is known of a block while it is searched.
use Rattle.std.specs.Prelude.{◌≡◌, ◌↔◌, ℕ, ◌≤◌, IsTrue, List, Contains, Option, Some, nat_eq}
use Rattle.indexmap.specs.IndexMap.{get}
use Rattle.rr_tree.specs.Tree.{Tree}
use Rattle.rr_isolation.specs.Outer.{LeadsOut, IsYield, IsOuterUse, UsesYield}
use Rattle.rr_isolation.specs.declared.found.Found.{Found}

-- the words behind the first use of a name that was found
abbrev pub first_of : Found → ℕ → Option ℕ
first_of f name = get nat_eq f.first name

-- a name with a use was found
pub record HasUse (f : Found) (name behind : ℕ) : Type 0 where
  pub first : ℕ
  pub is : first_of f name ≡ Some first
  pub before : behind ≤ first

-- what a tree tells with so many blocks round it was found
pub record Knows (f : Found) (blocks : ℕ) (t : Tree) : Type 0 where
  pub uses : (name behind : ℕ) → LeadsOut blocks t name behind → HasUse f name behind
  pub yields : IsYield t → IsTrue f.yields

-- all that a block tells was found, and nothing else
pub record Describes (f : Found) (t : Tree) : Type 0 where
  pub sound : (name behind : ℕ) → first_of f name ≡ Some behind → IsOuterUse t name behind
  pub complete : (name behind : ℕ) → IsOuterUse t name behind → HasUse f name behind
  pub yields : IsTrue f.yields ↔ UsesYield t

-- a list has the uses in a block that lead out of it
abbrev pub AreUses : Tree → List (ℕ × ℕ) → Type 0
AreUses t us = (name behind : ℕ) → Contains us (name, behind) ↔ IsOuterUse t name behind
