-- The methods of arrays and hashes, and those of texts among them.
use Rattle.std.specs.Prelude.{◌-◌, true, false}
use Rattle.rr_base.specs.declared.limits.TheConstants.Limits.{DEFAULT}
use Rattle.rr_space.specs.Tables.{Table, Below, graph_of, resolve}
use Rattle.rr_space.specs.Parts.{value_of}
use Rattle.rr_space.specs.declared.kind.Kind.{Kind}
use Rattle.rr_space.specs.declared.kind.Kind.TheVariants as kind
use Rattle.rr_space.specs.declared.refer.Ref.{Ref}
use Rattle.rr_builtin.specs.declared.method.ContentMethod.{ContentMethod}
use Rattle.rr_builtin.specs.declared.method.ContentMethod.TheVariants.{Size, Length, IsEmpty, First, Last, At as AtMethod, SetAt, Append, Push, Pop, Shift, Includes, Keys, Values, HasKey, Delete, Sum, Sort, Join}
use Rattle.rr_text.specs.Walk.{Walked, Wrote, Differs, Deep, Circular, Shell}
use Rattle.rr_text.specs.Forms.{Names}
use Rattle.rr_text.specs.Same.{triples_in}
use Rattle.rr_text.specs.Keys.{reading}
use Rattle.rr_text.specs.Comparing.{values_in, searched}
use Rattle.rr_builtin.specs.declared.problem.Problem.TheVariants.{Moved, TooDeep, Circular as CircularProblem}
use Rattle.rr_builtin.specs.Acts.{Act, Answers, MakesArray, Pushes, Gives, Raises, Lacks, element_at}
use Rattle.rr_builtin.specs.Objects.{truth}
use Rattle.rr_builtin.specs.Contents.{size_act, is_empty, indexed, unless_frozen, taken, popped, text_content}
use Rattle.rr_builtin.specs.Arrays.{array_put}
use Rattle.rr_builtin.specs.Hashes.{hash_read, hash_has, hash_put, hash_delete}
use Rattle.rr_builtin.specs.Sums.{sum_act}
use Rattle.rr_builtin.specs.Sorts.{sort_act}
use Rattle.rr_builtin.specs.Joins.{join_act}
use Rattle.rr_builtin.specs.Elements.{count_at, names_of_hash, values_of_hash}

-- a method of arrays
abbrev pub array_content : Below → ContentMethod → Ref → Ref → Ref → Table → Act
array_content below Size v a b t = size_act kind.Array v t
array_content below Length v a b t = size_act kind.Array v t
array_content below IsEmpty v a b t = truth (is_empty kind.Array t v)
array_content below First v a b t = Answers (Gives (element_at t v 0))
array_content below Last v a b t = Answers (Gives (element_at t v (count_at t v - 1)))
array_content below AtMethod v a b t = Answers (indexed v a t)
array_content below Append v a b t = unless_frozen v t (Pushes (value_of a))
array_content below Push v a b t = unless_frozen v t (Pushes (value_of a))
array_content below Pop v a b t = popped v t
array_content below Shift v a b t = taken v 0 t
array_content below SetAt v a b t = unless_frozen v t (array_put v a b t)
array_content below Sum v a b t = sum_act below v t
array_content below Sort v a b t = sort_act below v t
array_content below _ v a b t = Answers Lacks

-- whether an array has an element that is equal to a value, with the limit of levels that scripts have
unfoldable pub searched_at : Below → Table → Ref → Ref → Walked
searched_at below t v a =
    searched (reading t below) DEFAULT.levels (resolve t.slots (value_of a)) (values_in (triples_in (graph_of t.slots below) (resolve t.slots (value_of v))))

abbrev pub found_act : Walked → Act
found_act (Wrote s) = truth true
found_act Differs = truth false
found_act Deep = Answers (Raises TooDeep)
found_act Circular = Answers (Raises CircularProblem)
found_act Shell = Answers (Raises Moved)

-- a method of arrays, `include?` and `join` among them
abbrev pub array_method : Names → Below → ContentMethod → Ref → Ref → Ref → Table → Act
array_method names below Includes v a b t = found_act (searched_at below t v a)
array_method names below Join v a b t = join_act names below v a t
array_method names below m v a b t = array_content below m v a b t

-- a method of hashes
abbrev pub hash_content : Below → ContentMethod → Ref → Ref → Ref → Table → Act
hash_content below Size v a b t = size_act kind.Hash v t
hash_content below Length v a b t = size_act kind.Hash v t
hash_content below IsEmpty v a b t = truth (is_empty kind.Hash t v)
hash_content below AtMethod v a b t = hash_read below v a t
hash_content below SetAt v a b t = hash_put below v a b t
hash_content below HasKey v a b t = hash_has below v a t
hash_content below Delete v a b t = hash_delete below v a t
hash_content below Keys v a b t = MakesArray (names_of_hash t v)
hash_content below Values v a b t = MakesArray (values_of_hash t v)
hash_content below _ v a b t = Answers Lacks

-- a method of texts, arrays and hashes, by the kind of the receiver
abbrev pub content_act : Names → Below → Kind → ContentMethod → Ref → Ref → Ref → Table → Act
content_act names below kind.Text m v a b t = text_content m v a t
content_act names below kind.Array m v a b t = array_method names below m v a b t
content_act names below kind.Hash m v a b t = hash_content below m v a b t
content_act names below _ m v a b t = Answers Lacks
