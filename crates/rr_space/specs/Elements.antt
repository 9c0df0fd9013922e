-- The elements of an array, by where they are kept.
use Rattle.std.specs.Prelude.{List, [], ◌∷◌}
use Rattle.rr_space.specs.declared.refer.Ref.{Ref}
use Rattle.rr_space.specs.declared.items.Kept.{Kept}
use Rattle.rr_space.specs.declared.items.Kept.TheVariants.{Empty, One, Two, Many, Late}

abbrev pub kept_items : Kept → List Ref
kept_items (Empty alloc) = []
kept_items (One alloc a) = a ∷ []
kept_items (Two alloc a b) = a ∷ b ∷ []
kept_items (Many items) = items.items
kept_items (Late items) = items
