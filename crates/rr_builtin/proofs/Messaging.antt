-- Messages of exceptions that are set.
use Rattle.std.proofs.Common.{◌≡◌, ◌∙◌, Bool, true, false, if◌then◌else◌, length, refl, sym, ap, subst}
use Rattle.std.proofs.lemmas.Bool.{false≢true}
use Rattle.std.proofs.lemmas.Option.{slice_get_within}
use Rattle.rr_space.specs.Graph.{Value}
use Rattle.rr_space.specs.Tables.{Table, Here}
use Rattle.rr_space.specs.Parts.{value_of, IsWithin}
use Rattle.rr_space.specs.Kinds.{kind_at, class_at}
use Rattle.rr_space.specs.declared.kind.Kind.{Kind}
use Rattle.rr_space.specs.declared.kind.Kind.TheVariants as kind
use Rattle.rr_space.specs.declared.refer.Ref.{Ref}
use Rattle.rr_builtin.specs.declared.problem.Problem.TheVariants.{Frozen, Moved}
use Rattle.rr_builtin.specs.Acts.{Gives, Raises, changed}
use Rattle.rr_builtin.specs.Kinds.{is_shell_kind, is_exception}
use Rattle.rr_builtin.specs.Messages.{is_open_exception, with_message, write_message}
use Rattle.rr_builtin.proofs.Performing.{IsWritable}

pub exception_is : (k : Kind) → is_exception k ≡ true → k ≡ kind.Exception
exception_is kind.Exception e = refl
exception_is kind.Nil e = absurd (false≢true e)
exception_is kind.Truth e = absurd (false≢true e)
exception_is kind.Integer e = absurd (false≢true e)
exception_is kind.Symbol e = absurd (false≢true e)
exception_is kind.Class e = absurd (false≢true e)
exception_is kind.Ractor e = absurd (false≢true e)
exception_is kind.Text e = absurd (false≢true e)
exception_is kind.Array e = absurd (false≢true e)
exception_is kind.Hash e = absurd (false≢true e)
exception_is kind.Object e = absurd (false≢true e)
exception_is kind.Shell e = absurd (false≢true e)

pub writable_within : (t : Table) (v : Ref) → IsWritable t v → IsWithin (length t.slots) v
writable_within t v w = subst (λ (r : Ref). IsWithin (length t.slots) r) (sym w.named) (slice_get_within t.slots w.slot (Here w.object) w.here)

module _ (x : Value) (v : Ref) (t : Table) where
  pub message_moved : is_shell_kind (kind_at t v) ≡ true → write_message x v t ≡ (Raises Moved, t)
  message_moved e = ap (λ (b : Bool). if b then (Raises Moved, t) else (if is_open_exception t v then (Gives (value_of v), changed (with_message x) v t) else (Raises (Frozen (class_at t v)), t))) e

  pub message_written : is_shell_kind (kind_at t v) ≡ false → is_open_exception t v ≡ true → write_message x v t ≡ (Gives (value_of v), changed (with_message x) v t)
  message_written e can =
      ap (λ (b : Bool). if b then (Raises Moved, t) else (if is_open_exception t v then (Gives (value_of v), changed (with_message x) v t) else (Raises (Frozen (class_at t v)), t))) e
      ∙ ap (λ (b : Bool). if b then (Gives (value_of v), changed (with_message x) v t) else (Raises (Frozen (class_at t v)), t)) can

  pub message_frozen : is_shell_kind (kind_at t v) ≡ false → is_open_exception t v ≡ false → write_message x v t ≡ (Raises (Frozen (class_at t v)), t)
  message_frozen e can =
      ap (λ (b : Bool). if b then (Raises Moved, t) else (if is_open_exception t v then (Gives (value_of v), changed (with_message x) v t) else (Raises (Frozen (class_at t v)), t))) e
      ∙ ap (λ (b : Bool). if b then (Gives (value_of v), changed (with_message x) v t) else (Raises (Frozen (class_at t v)), t)) can
