-- The elements of arrays, and the methods of arrays that make one or put one.
use Rattle.std.specs.Prelude.{ℕ, ◌++◌, Option, Some, None, if◌then◌else◌}
use Rattle.rr_space.specs.Tables.{Table}
use Rattle.rr_space.specs.Parts.{value_of}
use Rattle.rr_space.specs.Kinds.{kind_at, class_at}
use Rattle.rr_space.specs.declared.refer.Ref.{Ref}
use Rattle.rr_space.specs.declared.refer.Ref.TheVariants as ref
use Rattle.rr_builtin.specs.declared.problem.Problem.TheVariants.{WrongType, IndexOutOfRange}
use Rattle.rr_builtin.specs.Acts.{Act, Answers, MakesArray, Puts, Raises}
use Rattle.rr_builtin.specs.Contents.{place_of}
use Rattle.rr_builtin.specs.Kinds.{is_array_kind}
use Rattle.rr_builtin.specs.Elements.{count_at, elements_of}

-- the elements of both
abbrev pub array_sum : Ref → Ref → Table → Act
array_sum v a t = if is_array_kind (kind_at t a) then MakesArray (elements_of t v ++ elements_of t a) else Answers (Raises (WrongType (class_at t a)))

abbrev pub placed : Option ℕ → Ref → Act
placed (Some k) x = Puts k (value_of x)
placed None x = Answers (Raises IndexOutOfRange)

-- a value is put under the place that an index names
abbrev pub array_put : Ref → Ref → Ref → Table → Act
array_put v (ref.Int z) x t = placed (place_of z (count_at t v)) x
array_put v a x t = Answers (Raises (WrongType (class_at t a)))
