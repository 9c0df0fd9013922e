-- What follows from a reading of a World.
use Rattle.std.specs.Prelude.{◌≡◌, ◌↔◌, ℕ, length, Some, slice_get}
use Rattle.rr_space.specs.Parts.{value_of, below_ref, IsWithin}
use Rattle.rr_space.specs.Readings.{Space, Objects, Naming, Knows}
use Rattle.rr_space.specs.Sound.{IsWell}
use Rattle.rr_space.specs.Tables.{resolve}
use Rattle.rr_space.specs.declared.refer.Ref.{Ref}
use Rattle.rr_world.specs.Views.{Member, Assembly, seen_slots}
use Rattle.rr_world.specs.Layouts.{IsRead, layout}
use Rattle.rr_world.specs.Readings.{root_in}

-- two values of one ractor are one in its space, in which the slots of a published plan are forwards already, exactly where they
-- have one name in the whole graph
abbrev pub OneValueIsOneName : Type 0
OneValueIsOneName = (w : Assembly) (names : Naming) (bound : ℕ) (g : Objects) (k : ℕ) (m : Member) (a b : Ref) → IsRead w names bound g → slice_get w.ractors k ≡ Some m → IsWell m.space
    → IsWithin (length m.space.slots) a → IsWithin (length m.space.slots) b → Knows (below_ref a) (layout w) → Knows (below_ref b) (layout w)
    → (resolve (seen_slots m) (value_of a) ≡ resolve (seen_slots m) (value_of b)) ↔ (root_in names (Space k) a ≡ root_in names (Space k) b)
