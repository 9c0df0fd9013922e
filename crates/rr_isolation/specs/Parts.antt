-- What stands in a tree, and how many blocks stand round it there.
use Rattle.std.specs.Prelude.{ℕ, ◌+◌, List, [], ◌∷◌, ◌++◌, Contains}
use Rattle.rr_tree.specs.Tree.{Tree, Trees, empty, then_one, set_constant, assign, set_field, set_global, array, hash, pairs, interpolation}
use Rattle.rr_tree.specs.Tree.{logical_and, logical_or, logical_not, negate, binary, append, choose, repeat, sequence, call, send, with_block, block}
use Rattle.rr_tree.specs.Tree.{super, yield, break, next, return, rescue, clause, ensure, operator_assign, append_assign, or_assign, and_assign}
use Rattle.rr_tree.specs.Tree.{index, set_index, set_attribute, multiple_assign, splat, pair}

-- the trees of a list
abbrev pub each : Trees → List Tree
each empty = []
each (then_one l t) = each l ++ t ∷ []

-- the trees that a tree is made of. A method and a class see no variable of what stands round them: they have none here.
abbrev pub parts : Tree → List Tree
parts (set_constant x a) = a ∷ []
parts (assign depth slot x behind a) = a ∷ []
parts (set_field x a) = a ∷ []
parts (set_global x a) = a ∷ []
parts (array l) = each l
parts (hash l) = each l
parts (pairs l) = each l
parts (interpolation l) = each l
parts (logical_and a b) = a ∷ b ∷ []
parts (logical_or a b) = a ∷ b ∷ []
parts (logical_not a) = a ∷ []
parts (negate a) = a ∷ []
parts (binary o a b) = a ∷ b ∷ []
parts (append a b) = a ∷ b ∷ []
parts (choose a b d) = a ∷ b ∷ d ∷ []
parts (repeat until a b) = a ∷ b ∷ []
parts (sequence l) = each l
parts (call x l) = each l
parts (send a x l) = a ∷ each l
parts (with_block a b) = a ∷ b ∷ []
parts (block scope parameters size a) = a ∷ []
parts (super l) = each l
parts (yield l) = each l
parts (break a) = a ∷ []
parts (next a) = a ∷ []
parts (return a) = a ∷ []
parts (rescue a l b) = a ∷ b ∷ each l
parts (clause l a b) = a ∷ b ∷ each l
parts (ensure a b) = a ∷ b ∷ []
parts (operator_assign o a b) = a ∷ b ∷ []
parts (append_assign a b) = a ∷ b ∷ []
parts (or_assign a b) = a ∷ b ∷ []
parts (and_assign a b) = a ∷ b ∷ []
parts (index a b) = a ∷ b ∷ []
parts (set_index a b d) = a ∷ b ∷ d ∷ []
parts (set_attribute a x b) = a ∷ b ∷ []
parts (multiple_assign l a) = a ∷ each l
parts (splat a) = a ∷ []
parts (pair a b) = a ∷ b ∷ []
parts _ = []

-- how many blocks a tree puts round its parts
abbrev pub opened : Tree → ℕ
opened (block scope parameters size a) = 1
opened _ = 0

-- a tree stands in another, with this many blocks round it there, the other one included if it is a block
pub data Within : ℕ → Tree → Tree → Type 0 where
  itself : (t : Tree) → Within 0 t t
  in_part : (k : ℕ) (u p t : Tree) → Contains (parts t) p → Within k u p → Within (opened t + k) u t
