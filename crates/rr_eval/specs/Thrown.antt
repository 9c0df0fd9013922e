-- What an exception that is thrown leaves, and what is told of it.
use Rattle.std.specs.Prelude.{ℕ, List, ◌++◌, codes, length}
use Rattle.rr_base.specs.Classes.{class_id, class_name}
use Rattle.rr_space.specs.Tables.{Table}
use Rattle.rr_space.specs.declared.refer.Ref.{Ref}
use Rattle.rr_space.specs.declared.refer.Ref.TheVariants.{Local}
use Rattle.rr_eval.specs.declared.problem.Problem.{Problem}
use Rattle.rr_eval.specs.Context.{Context}
use Rattle.rr_eval.specs.Exceptions.{with_exception}
use Rattle.rr_eval.specs.Messages.{message, exception_class}
use Rattle.rr_builtin.specs.Acts.{with_text}

-- the objects with the message and the exception of a problem, whose cause is the exception that is being rescued
abbrev pub thrown : Context → Problem → Ref → Table → Table
thrown c e cause t = with_exception (class_id (exception_class e)) (Local (length t.slots)) cause (with_text (message c e) t)

-- that exception
abbrev pub thrown_at : Context → Problem → Table → Ref
thrown_at c e t = Local (length (with_text (message c e) t).slots)

-- `MESSAGE (CLASS)`
abbrev pub report : Context → Problem → List ℕ
report c e = message c e ++ codes " (" ++ class_name (exception_class e) ++ codes ")"
