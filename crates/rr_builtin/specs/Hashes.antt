-- Which pair of a hash a key has, and what is read by keys.
use Rattle.std.specs.Prelude.{ℕ, ◌+◌, ◌*◌, Option, Some, None, if◌then◌else◌}
use Rattle.std.specs.Option.{is_some}
use Rattle.rr_base.specs.declared.name.ClassId.{ClassId}
use Rattle.rr_space.specs.Graph.{Plain, Nil}
use Rattle.rr_space.specs.Tables.{Table, Below, HashKey}
use Rattle.rr_space.specs.Parts.{value_of}
use Rattle.rr_space.specs.Views.{object_at, frozen_at, text_at}
use Rattle.rr_space.specs.Lookups.{key_of_object, key_of_plain}
use Rattle.rr_space.specs.Kinds.{class_at}
use Rattle.rr_space.specs.declared.refer.Ref.{Ref}
use Rattle.rr_space.specs.declared.refer.Ref.TheVariants.{Local, Shared}
use Rattle.rr_builtin.specs.declared.problem.Problem.TheVariants.{WrongType}
use Rattle.rr_builtin.specs.Acts.{Act, Answers, SetsValue, AddsPair, AddsText, TakesPair, Outcome, Gives, Raises, element_at}
use Rattle.rr_builtin.specs.Contents.{unless_frozen}
use Rattle.rr_text.specs.Keys.{pair_with}
use Rattle.rr_builtin.specs.Objects.{truth}

-- the key that an argument is: an immediate, or the bytes of a text
abbrev pub key_given : Table → Ref → Option HashKey
key_given t (Local n) = key_of_object (object_at t (Local n))
key_given t (Shared p c) = key_of_object (object_at t (Shared p c))
key_given t r = key_of_plain (value_of r)

-- what is done with a key; no other value is one
abbrev pub keyed : Option HashKey → ClassId → (HashKey → Act) → Act
keyed (Some key) class act = act key
keyed None class act = Answers (Raises (WrongType class))

-- the value of a pair, or nil
abbrev pub value_at : Table → Ref → Option ℕ → Outcome
value_at t v (Some i) = Gives (element_at t v (2 * i + 1))
value_at t v None = Gives (Plain Nil)

abbrev pub hash_read : Below → Ref → Ref → Table → Act
hash_read below v a t = keyed (key_given t a) (class_at t a) (λ key. Answers (value_at t v (pair_with below t v key)))

-- a present key keeps its place and its key object; an unfrozen text is copied and frozen
abbrev pub stored : HashKey → Option ℕ → Ref → Ref → Table → Act
stored key (Some i) a x t = SetsValue i (value_of x)
stored key None a x t = if frozen_at t a then AddsPair (value_of a) key (value_of x) else AddsText (text_at t a) (value_of x)

abbrev pub hash_put : Below → Ref → Ref → Ref → Table → Act
hash_put below v a x t = unless_frozen v t (keyed (key_given t a) (class_at t a) (λ key. stored key (pair_with below t v key) a x t))

-- a pair is taken out; nil where the key has none
abbrev pub removed : Option ℕ → Act
removed (Some i) = TakesPair i
removed None = Answers (Gives (Plain Nil))

abbrev pub hash_delete : Below → Ref → Ref → Table → Act
hash_delete below v a t = unless_frozen v t (keyed (key_given t a) (class_at t a) (λ key. removed (pair_with below t v key)))

abbrev pub hash_has : Below → Ref → Ref → Table → Act
hash_has below v a t = keyed (key_given t a) (class_at t a) (λ key. truth (is_some (pair_with below t v key)))
