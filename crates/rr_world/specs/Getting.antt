-- The values that every ractor may have, and what one that was got leaves of a ractor.
use Rattle.std.specs.Prelude.{◌≡◌, ℕ, ◌++◌, ◌∷◌, [], length, Some}
use Rattle.rr_space.specs.Graph.{Own, At}
use Rattle.rr_space.specs.Parts.{value_of, IsWithin}
use Rattle.rr_space.specs.Tables.{resolve}
use Rattle.rr_space.specs.Views.{IsKnownFrom}
use Rattle.rr_base.specs.declared.fault.Fault.TheVariants.{Memory}
use Rattle.rr_space.specs.declared.refer.Ref.{Ref}
use Rattle.rr_world.specs.Views.{Member}
use Rattle.rr_world.specs.Packing.{named_ref}
use Rattle.rr_world.specs.declared.step.Operand.{Operand}
use Rattle.rr_world.specs.declared.outcome.Outcome.{Outcome}
use Rattle.rr_world.specs.declared.outcome.Outcome.TheVariants.{Done, Refused}

-- what the operand names is an immediate, or a published object: the reference r, once its forwards are followed
pub record IsPublicRef (m : Member) (op : Operand) (r : Ref) : Type 0 where
  pub value : Ref
  pub named : named_ref m.roots op ≡ Some value
  pub resolves : value_of r ≡ resolve m.space.slots (value_of value)
  pub public : IsWithin 0 r
  pub known : IsKnownFrom m.space value r

-- the value leads to an object that the ractor has itself
abbrev pub IsOwnRef : Member → Ref → Type 0
IsOwnRef m v = IsWithin (length m.space.slots) v × ((i : ℕ) × (resolve m.space.slots (value_of v) ≡ At (Own i)))

-- the value comes last in the roots, or a growth was refused
abbrev pub Joins : Ref → Outcome → Member → Member → Type 0
Joins v Done old now = now ≡ record old { roots = old.roots ++ v ∷ [] }
Joins v (Refused f) old now = (f ≡ Memory) × (now ≡ old)
Joins v _ old now = ⊥
