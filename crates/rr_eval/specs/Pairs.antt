-- New arrays of two values.
use Rattle.std.specs.Prelude.{false, [], ◌∷◌, ◌++◌, length, map}
use Rattle.rr_base.specs.declared.name.TheConstants.ClassId.{ARRAY}
use Rattle.rr_space.specs.Graph.{Object, array, Place}
use Rattle.rr_space.specs.Parts.{Parts, value_triple, below_parts}
use Rattle.rr_space.specs.Tables.{Table, Here}
use Rattle.rr_space.specs.declared.refer.Ref.{Ref}
use Rattle.rr_space.specs.declared.refer.Ref.TheVariants.{Local}
use Rattle.rr_eval.specs.Script.{Script, See, Do}

-- what an array of two values leads to
abbrev pub both_parts : Ref → Ref → Parts
both_parts v w = (Place 0, v) ∷ (Place 1, w) ∷ []

abbrev pub both_object : Ref → Ref → Object
both_object v w = record { kind = array; class = ARRAY.0; bytes = []; frozen = false; triples = map value_triple (both_parts v w) }

-- the objects with one array more
abbrev pub with_both : Ref → Ref → Table → Table
with_both v w t = record t {
  slots = t.slots ++ Here (both_object v w) ∷ [];
  below = t.below ++ below_parts (both_parts v w) ∷ [];
  keys = t.keys ++ [] ∷ [];
}

-- a new array of two values is made
abbrev pub paired : Ref → Ref → (Ref → Script) → Script
paired v w next = See (λ m. Do (λ k. record k { table = with_both v w k.table }) (next (Local (length m.table.slots))))
