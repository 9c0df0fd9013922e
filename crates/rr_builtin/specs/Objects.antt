-- The methods of all values but shells.
use Rattle.std.specs.Prelude.{ℕ, Bool, true, false, not, ◌&&◌, List, [], if◌then◌else◌}
use Rattle.std.specs.Str.{bytes_eq}
use Rattle.rr_base.specs.declared.limits.TheConstants.Limits.{DEFAULT}
use Rattle.rr_space.specs.Graph.{Truth, ClassNo, Plain}
use Rattle.rr_space.specs.Tables.{Table, Below, graph_of, resolve}
use Rattle.rr_space.specs.Parts.{value_of}
use Rattle.rr_space.specs.Views.{text_at, frozen_at}
use Rattle.rr_space.specs.Kinds.{kind_at, class_at}
use Rattle.rr_space.specs.declared.kind.Kind.{Kind}
use Rattle.rr_space.specs.declared.kind.Kind.TheVariants as kind
use Rattle.rr_space.specs.declared.refer.Ref.{Ref}
use Rattle.rr_space.specs.declared.refer.Ref.TheVariants as ref
use Rattle.rr_text.specs.Walk.{Walked, Wrote, Differs, Deep, Circular, Shell}
use Rattle.rr_text.specs.Forms.{Names, Way, spoken, inspected, printed}
use Rattle.rr_builtin.specs.declared.problem.Problem.TheVariants.{Moved, TooDeep, WrongType, Circular as CircularProblem}
use Rattle.rr_builtin.specs.declared.method.ObjectMethod.{ObjectMethod}
use Rattle.rr_builtin.specs.declared.method.ObjectMethod.TheVariants.{Class, IsA, KindOf, IsNil, IsIdentical, Not, Freeze, IsFrozen, ToS, Inspect, Dup}
use Rattle.rr_tree.specs.declared.program.Program.{Program}
use Rattle.rr_text.specs.Names.{names_of}
use Rattle.rr_text.specs.Same.{same_value}
pub use Rattle.rr_builtin.specs.Kinds.{is_text_kind}
use Rattle.rr_tree.specs.Ancestors.{descends}
use Rattle.rr_builtin.specs.Acts.{Act, Answers, Makes, MakesArray, MakesObject, Freezes, Gives, Raises}
use Rattle.rr_builtin.specs.Elements.{elements_of}
use Rattle.rr_builtin.specs.Copies.{plain_copy, exception_copy, hash_copy, hash_copy_keys}

-- one immediate or one object of the table, forwards followed
unfoldable pub identical : Table → Ref → Ref → Bool
identical t v w = same_value (resolve t.slots (value_of v)) (resolve t.slots (value_of w))

-- whether a value counts as true
abbrev pub is_truthy : Ref → Bool
is_truthy ref.Nil = false
is_truthy ref.False = false
is_truthy ref.True = true
is_truthy _ = true

abbrev pub is_nil : Ref → Bool
is_nil ref.Nil = true
is_nil _ = false

-- classes and ractors answer that they are not frozen, and all other immediates that they are
abbrev pub answers_frozen : Table → Ref → Bool
answers_frozen t (ref.Class c) = false
answers_frozen t (ref.Ractor r) = false
answers_frozen t v = frozen_at t v

-- the text of a value, with the limit of levels that scripts have
unfoldable pub printed_text : Names → Below → Way → Table → Ref → Walked
printed_text names below way t v = printed names (graph_of t.slots below) DEFAULT.levels way (resolve t.slots (value_of v))

-- a text that was written is a new object
abbrev pub told : Walked → Act
told (Wrote s) = Makes s
told Differs = Answers (Raises Moved)
told Deep = Answers (Raises TooDeep)
told Circular = Answers (Raises CircularProblem)
told Shell = Answers (Raises Moved)

-- a text is its own `to_s`
abbrev pub spoken_act : Names → Below → Ref → Table → Act
spoken_act names below v t = if is_text_kind (kind_at t v) then Answers (Gives (value_of v)) else told (printed_text names below spoken t v)

abbrev pub truth : Bool → Act
truth b = Answers (Gives (Plain (Truth b)))

-- whether the class of a value is the class, or one below it
abbrev pub kind_of_act : Program → Ref → Ref → Table → Act
kind_of_act p v (ref.Class c) t = truth (descends p (class_at t v).0 c.0)
kind_of_act p v a t = Answers (Raises (WrongType (class_at t a)))

-- a text, an array, a hash, an object and an exception anew, not frozen, and any other value itself
abbrev pub copy_act : Below → Kind → Ref → Table → Act
copy_act below kind.Text v t = Makes (text_at t v)
copy_act below kind.Array v t = MakesArray (elements_of t v)
copy_act below kind.Hash v t = MakesObject (hash_copy below t v) (hash_copy_keys below t v)
copy_act below kind.Object v t = MakesObject (plain_copy t v) []
copy_act below kind.Exception v t = MakesObject (exception_copy t v) []
copy_act below _ v t = Answers (Gives (value_of v))

-- a method of all values, with its argument
abbrev pub object_act : Program → Below → ObjectMethod → Ref → Ref → Table → Act
object_act p below Class v a t = Answers (Gives (Plain (ClassNo (class_at t v).0)))
object_act p below IsA v a t = kind_of_act p v a t
object_act p below KindOf v a t = kind_of_act p v a t
object_act p below IsNil v a t = truth (is_nil v)
object_act p below IsIdentical v a t = truth (identical t v a)
object_act p below Not v a t = truth (not (is_truthy v))
object_act p below Freeze v a t = Freezes
object_act p below IsFrozen v a t = truth (answers_frozen t v)
object_act p below ToS v a t = spoken_act (names_of p) below v t
object_act p below Dup v a t = copy_act below (kind_at t v) v t
object_act p below Inspect v a t = told (printed_text (names_of p) below inspected t v)

-- ---- Equality of values that are no containers.

abbrev pub same_texts : Bool → List ℕ → List ℕ → Bool → Bool
same_texts true a b same = bytes_eq a b
same_texts false a b same = same

-- texts are equal by their bytes, and all else is where it is the same
abbrev pub equals : Table → Ref → Ref → Bool
equals t v w = same_texts (is_text_kind (kind_at t v) && is_text_kind (kind_at t w)) (text_at t v) (text_at t w) (identical t v w)
