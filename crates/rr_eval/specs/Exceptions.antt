-- Exceptions as objects.
use Rattle.std.specs.Prelude.{◌≡◌, ◌⊎◌, ℕ, false, List, [], ◌∷◌, ◌++◌, codes, map, Contains}
use Rattle.rr_base.specs.Classes.{class_id, class_name}
use Rattle.rr_base.specs.declared.class.BuiltInClass.{BuiltInClass}
use Rattle.rr_base.specs.declared.name.ClassId.{ClassId}
use Rattle.rr_space.specs.Graph.{Value, Object, exception, Message, Cause, Ractor}
use Rattle.rr_space.specs.Kinds.{class_at, kind_at}
use Rattle.rr_space.specs.declared.kind.Kind.{Kind}
use Rattle.rr_space.specs.declared.kind.Kind.TheVariants.{Text}
use Rattle.rr_space.specs.Labels.{triples_at, IsFirstUnder}
use Rattle.rr_space.specs.Parts.{Parts, value_of, value_triple, below_parts}
use Rattle.rr_space.specs.Tables.{Table, Here}
use Rattle.rr_space.specs.Views.{text_at}
use Rattle.rr_space.specs.declared.refer.Ref.{Ref}
use Rattle.rr_space.specs.declared.refer.Ref.TheVariants.{Nil}

-- what a new exception leads to: its message, its cause, no ractor
abbrev pub exception_parts : Ref → Ref → Parts
exception_parts message cause = (Message, message) ∷ (Cause, cause) ∷ (Ractor, Nil) ∷ []

-- a new exception
abbrev pub exception_object : ClassId → Ref → Ref → Object
exception_object class message cause = record { kind = exception; class = class.0; bytes = []; frozen = false; triples = map value_triple (exception_parts message cause) }

-- the objects with one exception more
abbrev pub with_exception : ClassId → Ref → Ref → Table → Table
with_exception class message cause t = record t {
  slots = t.slots ++ Here (exception_object class message cause) ∷ [];
  below = t.below ++ below_parts (exception_parts message cause) ∷ [];
  keys = t.keys ++ [] ∷ [];
}

-- what is told of a message: the bytes of a text; and the name of the class where it is none
abbrev pub told_message : List ℕ → Kind → List ℕ → List ℕ
told_message class Text bytes = bytes
told_message class _ bytes = class

-- what is told of the message of an exception, whose class has this name
abbrev pub HasMessage : Table → Ref → List ℕ → List ℕ → Type 0
HasMessage t v class bytes =
    ((r : Ref) × IsFirstUnder (triples_at t v) Message (value_of r) × (bytes ≡ told_message class (kind_at t r) (text_at t r)))
    ⊎ (((x : Value) → Contains (triples_at t v) (Message, x) → ⊥) × (bytes ≡ class))

-- What is told of an exception that nothing rescues: `MESSAGE (CLASS)`.
pub record IsTold (t : Table) (v : Ref) (told : List ℕ) : Type 0 where
  pub message : List ℕ
  pub class : List ℕ
  pub read : HasMessage t v class message
  pub named : (c : BuiltInClass) → class_id c ≡ class_at t v → class ≡ class_name c
  pub spells : told ≡ message ++ codes " (" ++ class ++ codes ")"
