-- The message of an exception, set anew.
use Rattle.std.specs.Prelude.{Bool, ◌&&◌, if◌then◌else◌, slice_set}
use Rattle.rr_space.specs.Graph.{Value, Message, Object}
use Rattle.rr_space.specs.Tables.{Table}
use Rattle.rr_space.specs.Kinds.{kind_at, class_at}
use Rattle.rr_space.specs.Parts.{value_of}
use Rattle.rr_space.specs.Views.{can_write_at}
use Rattle.rr_space.specs.declared.refer.Ref.{Ref}
use Rattle.rr_builtin.specs.declared.problem.Problem.TheVariants.{Frozen, Moved}
use Rattle.rr_builtin.specs.Acts.{Outcome, Gives, Raises, changed}
use Rattle.rr_builtin.specs.Kinds.{is_shell_kind, is_exception}

-- an exception leads to its message first
abbrev pub with_message : Value → Object → Object
with_message x o = record o { triples = slice_set o.triples 0 (Message, x) }

-- an exception that may be written
abbrev pub is_open_exception : Table → Ref → Bool
is_open_exception t v = is_exception (kind_at t v) && can_write_at t v

-- the message of an exception is another one, and the exception is given; what is no exception counts as frozen
abbrev pub write_message : Value → Ref → Table → Outcome × Table
write_message x v t =
    if is_shell_kind (kind_at t v) then (Raises Moved, t)
    else (if is_open_exception t v then (Gives (value_of v), changed (with_message x) v t) else (Raises (Frozen (class_at t v)), t))
