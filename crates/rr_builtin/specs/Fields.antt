-- Instance variables: what one holds, and what sets one.
use Rattle.std.specs.Prelude.{ℕ, Bool, true, false, nat_eq, ◌&&◌, if◌then◌else◌, List, [], ◌∷◌, Option, find}
use Rattle.std.specs.Option.{option_map}
use Rattle.rr_space.specs.Graph.{Value, Label, Field, Object}
use Rattle.rr_space.specs.Tables.{Table}
use Rattle.rr_space.specs.Kinds.{kind_at, class_at}
use Rattle.rr_space.specs.Labels.{triples_at}
use Rattle.rr_space.specs.Views.{can_write_at}
use Rattle.rr_space.specs.declared.kind.Kind.{Kind}
use Rattle.rr_space.specs.declared.kind.Kind.TheVariants as kind
use Rattle.rr_space.specs.declared.refer.Ref.{Ref}
use Rattle.rr_text.specs.Comparing.{part_value}
use Rattle.rr_builtin.specs.declared.problem.Problem.TheVariants.{Frozen, Moved}
use Rattle.rr_builtin.specs.Acts.{Outcome, Gives, Raises, changed}
use Rattle.rr_builtin.specs.Kinds.{is_shell_kind}
use Rattle.rr_builtin.specs.Rounds.{Read, ReadsNone, IsMoved, found}

abbrev pub is_field : ℕ → Label → Bool
is_field name (Field n) = nat_eq n name
is_field name _ = false

-- whether the value is that of a field of the name
abbrev pub is_under : ℕ → Label × Value → Bool
is_under name t = is_field name t.0

-- the value of the first field of the name, if there is one
abbrev pub field_in : ℕ → List (Label × Value) → Option Value
field_in name ts = option_map part_value (find (is_under name) ts)

-- plain objects and exceptions have fields
abbrev pub has_fields : Kind → Bool
has_fields kind.Object = true
has_fields kind.Exception = true
has_fields _ = false

-- what an instance variable of an object holds
abbrev pub field_at : Table → Ref → ℕ → Read
field_at t v name =
    if is_shell_kind (kind_at t v) then IsMoved
    else (if has_fields (kind_at t v) then found (field_in name (triples_at t v)) else ReadsNone)

-- the value in the first field of the name, or in a new one behind all
abbrev pub with_field_in : ℕ → Value → List (Label × Value) → List (Label × Value)
with_field_in name x [] = (Field name, x) ∷ []
with_field_in name x (t ∷ ts) = if is_field name t.0 then (Field name, x) ∷ ts else t ∷ with_field_in name x ts

abbrev pub with_field : ℕ → Value → Object → Object
with_field name x o = record o { triples = with_field_in name x o.triples }

-- whether the instance variables of an object may be set
abbrev pub can_set : Table → Ref → Bool
can_set t v = has_fields (kind_at t v) && can_write_at t v

-- an instance variable of an object is set, and the value given; what has none counts as frozen
abbrev pub set_field : ℕ → Value → Ref → Table → Outcome × Table
set_field name x v t =
    if is_shell_kind (kind_at t v) then (Raises Moved, t)
    else (if can_set t v then (Gives x, changed (with_field name x) v t) else (Raises (Frozen (class_at t v)), t))
