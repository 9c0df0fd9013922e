-- New objects: empty hashes, and what `new` of a class makes.
use Rattle.std.specs.Prelude.{ℕ, Bool, true, false, not, ◌||◌, nat_eq, nat_lt, [], ◌∷◌}
use Rattle.rr_base.specs.declared.name.TheConstants.ClassId.{EXCEPTION, HASH, OBJECT}
use Rattle.rr_space.specs.Graph.{Value, Plain, Nil, Object, hash, plain, exception, Message, Cause, Ractor}
use Rattle.rr_space.specs.Parts.{value_of}
use Rattle.rr_space.specs.declared.refer.Ref.{Ref}
use Rattle.rr_space.specs.declared.refer.Ref.TheVariants as ref
use Rattle.rr_tree.specs.declared.program.Program.{Program}
use Rattle.rr_builtin.specs.Acts.{Act, Answers, MakesObject, Lacks}
use Rattle.rr_tree.specs.Ancestors.{descends}

-- a hash without pairs, not frozen
abbrev pub empty_hash : Object
empty_hash = record { kind = hash; class = HASH.0; bytes = []; frozen = false; triples = [] }

-- an exception with a message and no cause, not frozen
abbrev pub new_exception : ℕ → Value → Object
new_exception c message = record { kind = exception; class = c; bytes = []; frozen = false; triples = (Message, message) ∷ (Cause, Plain Nil) ∷ (Ractor, Plain Nil) ∷ [] }

-- an object without fields, not frozen
abbrev pub new_plain : ℕ → Object
new_plain c = record { kind = plain; class = c; bytes = []; frozen = false; triples = [] }

abbrev pub new_object : Bool → ℕ → Value → Object
new_object true c message = new_exception c message
new_object false c message = new_plain c

abbrev pub is_exception_class : Program → ℕ → Bool
is_exception_class p c = descends p c EXCEPTION.0

-- whether `new` makes an object of the class: of Object, of the program's classes and of exception classes
abbrev pub is_made : Program → ℕ → Bool
is_made p c = is_exception_class p c || nat_eq c OBJECT.0 || not (nat_lt c 32)

abbrev pub may_make : Program → Ref → Bool
may_make p (ref.Class c) = is_made p c.0
may_make p _ = false

-- an exception takes its message
abbrev pub takes_message : Program → Ref → Bool
takes_message p (ref.Class c) = is_exception_class p c.0
takes_message p _ = false

-- `new` of a class
abbrev pub new_act : Program → Ref → Ref → Act
new_act p (ref.Class c) a = MakesObject (new_object (is_exception_class p c.0) c.0 (value_of a)) []
new_act p _ a = Answers Lacks
