-- The cause of an exception that is raised.
use Rattle.std.specs.Prelude.{ℕ, zero, suc, nat_eq, Bool, true, false, not, ◌&&◌, ◌||◌, length, slice_set, if◌then◌else◌}
use Rattle.rr_space.specs.Graph.{Value, Plain, At, Own, Nil, Cause, Object}
use Rattle.rr_space.specs.Tables.{Table}
use Rattle.rr_space.specs.declared.refer.Ref.{Ref}
use Rattle.rr_space.specs.declared.refer.Ref.TheVariants.{Local}
use Rattle.rr_builtin.specs.Acts.{changed, element_at}
use Rattle.rr_builtin.specs.Messages.{is_open_exception}

-- an exception leads to its cause second
abbrev pub with_cause : Value → Object → Object
with_cause x o = record o { triples = slice_set o.triples 1 (Cause, x) }

abbrev pub is_nil : Value → Bool
is_nil (Plain Nil) = true
is_nil x = false

-- whether an exception is that of a slot, or its cause is, or the cause of that, and so on up to so many
abbrev pub leads : ℕ → Table → Value → ℕ → Bool
leads zero t x n = false
leads (suc k) t (At (Own m)) n = nat_eq m n || leads k t (element_at t (Local m) 1) n
leads (suc k) t x n = false

-- An exception gets a cause that may be written and has none yet, where it is not that cause itself, nor behind it. No more causes stand
-- behind one another than there are slots.
abbrev pub takes_cause : Table → Value → Ref → Bool
takes_cause t x (Local n) = is_open_exception t (Local n) && (is_nil (element_at t (Local n) 1) && not (leads (length t.slots) t x n))
takes_cause t x v = false

abbrev pub caused : Value → Ref → Table → Table
caused x v t = if takes_cause t x v then changed (with_cause x) v t else t
