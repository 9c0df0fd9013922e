-- The outer names of a block, and what a block is that a ractor can have.
use Rattle.std.specs.Prelude.{◌≡◌, ◌↔◌, ℕ, ◌≤◌, Bool, ◌&&◌, ◌||◌, IsTrue, List, [], map, Contains, nat_eq, nat_lt}
use Rattle.std.specs.List.{AllPairs, IsDistinct}
use Rattle.rr_base.specs.declared.fault.Fault.{Fault}
use Rattle.rr_base.specs.declared.fault.Fault.TheVariants as fault
use Rattle.rr_tree.specs.Tree.{Tree, local, assign, block, super, forwarding_super, yield}
use Rattle.rr_isolation.specs.Parts.{Within}

-- a tree that reads or sets a local variable which so many scopes outside made, or more: its name, and how many words of the
-- source stand behind
abbrev pub LeadsOut : ℕ → Tree → ℕ → ℕ → Type 0
LeadsOut scopes (local depth slot x words) name behind = (x ≡ name) × (words ≡ behind) × (scopes ≤ depth)
LeadsOut scopes (assign depth slot x words value) name behind = (x ≡ name) × (words ≡ behind) × (scopes ≤ depth)
LeadsOut scopes _ name behind = ⊥

abbrev pub IsBlock : Tree → Type 0
IsBlock (block scope parameters size body) = Unit {0}
IsBlock _ = ⊥

abbrev pub IsYield : Tree → Type 0
IsYield (yield l) = Unit {0}
IsYield (super l) = Unit {0}
IsYield forwarding_super = Unit {0}
IsYield _ = ⊥

-- a use of a variable in a block that leads out of every block round it, this one included: a scope outside made the variable
pub record IsOuterUse (t : Tree) (name behind : ℕ) : Type 0 where
  pub block : IsBlock t
  pub blocks : ℕ
  pub at : Tree
  pub stands : Within blocks at t
  pub leads_out : LeadsOut blocks at name behind

abbrev pub IsOuterName : Tree → ℕ → Type 0
IsOuterName t name = (behind : ℕ) × IsOuterUse t name behind

-- the outer use of a name that stands before all others
abbrev pub IsFirstUse : Tree → ℕ → ℕ → Type 0
IsFirstUse t name behind = IsOuterUse t name behind × ((other : ℕ) → IsOuterUse t name other → other ≤ behind)

-- Whether a use, its name and the words behind it, is earlier than another: more words stand behind it. Of two that stand at one place, as in
-- no source, the one with the smaller number of a name counts as the earlier.
abbrev pub is_earlier : ℕ × ℕ → ℕ × ℕ → Bool
is_earlier u v = nat_lt v.1 u.1 || (nat_eq u.1 v.1 && nat_lt u.0 v.0)

-- the first use of a name is earlier than that of another
abbrev pub IsUsedBefore : Tree → ℕ → ℕ → Type 0
IsUsedBefore t x y = (a b : ℕ) → IsFirstUse t x a → IsFirstUse t y b → IsTrue (is_earlier (x, a) (y, b))

-- the outer names of a block, each once, in the order of their first uses
pub record AreOuterNames (t : Tree) (names : List ℕ) : Type 0 where
  pub exact : (x : ℕ) → Contains names x ↔ IsOuterName t x
  pub once : IsDistinct nat_eq names
  pub in_order : AllPairs (IsUsedBefore t) names

-- `yield` or `super` stands in the block
pub record UsesYield (t : Tree) : Type 0 where
  pub block : IsBlock t
  pub blocks : ℕ
  pub at : Tree
  pub stands : Within blocks at t
  pub yields : IsYield at

-- nothing in the block leads out of it
pub record IsIsolated (t : Tree) : Type 0 where
  pub no_names : (x : ℕ) → IsOuterName t x → ⊥
  pub no_yield : UsesYield t → ⊥

-- why a block cannot be a ractor's: its outer names where it has any, else that it yields
abbrev pub IsRefused : Tree → Fault → Type 0
IsRefused t fault.Memory = Unit {0}
IsRefused t (fault.UsesOuter names) = (names.items ≡ [] → ⊥) × AreOuterNames t (map (λ s. s.0) names.items)
IsRefused t fault.UsesYield = UsesYield t × ((x : ℕ) → IsOuterName t x → ⊥)
IsRefused t _ = ⊥
