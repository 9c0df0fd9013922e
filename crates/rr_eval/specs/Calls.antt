-- The reply to a call of a method.
use Rattle.std.specs.Prelude.{List, ◌∷◌, Option, Some, None, if◌then◌else◌}
use Rattle.rr_space.specs.Kinds.{kind_at}
use Rattle.rr_space.specs.Tables.{Table, Below}
use Rattle.rr_space.specs.declared.refer.Ref.{Ref}
use Rattle.rr_builtin.specs.Acts.{Outcome, Raises, Lacks}
use Rattle.rr_builtin.specs.Calls.{called}
use Rattle.rr_builtin.specs.Kinds.{is_shell_kind}
use Rattle.rr_builtin.specs.declared.method.BuiltInMethod.{BuiltInMethod}
use Rattle.rr_builtin.specs.declared.problem.Problem.TheVariants.{Moved}
use Rattle.rr_eval.specs.declared.call.Callee.{Callee}
use Rattle.rr_eval.specs.declared.problem.Problem.{Problem}
use Rattle.rr_eval.specs.declared.problem.Problem.TheVariants.{MissingMethod}
use Rattle.rr_eval.specs.Callees.{method_of}
use Rattle.rr_eval.specs.Context.{Context}
use Rattle.rr_eval.specs.Effects.{Effect, said_of, led}
use Rattle.rr_eval.specs.Responses.{receiver_of}

-- what a call comes to, and the table then, where no built-in method has the name, or one has it
abbrev pub sent : Context → Below → Ref → Option BuiltInMethod → List Ref → Table → Outcome × Table
sent c below v None args t = (if is_shell_kind (kind_at t v) then Raises Moved else Lacks, t)
sent c below v (Some m) args t = called c.program below v m args t

-- what is replied, where `missing` is the problem of a method that the receiver lacks
abbrev pub reply_with : Problem → Outcome × Table → Effect
reply_with missing done = record { said = said_of missing done.0; table = done.1 }

-- the clusters are those that the objects, the receiver and the arguments lead to
abbrev pub call_reply : Context → Ref → Callee → List Ref → Table → Effect
call_reply c v callee args t = reply_with (MissingMethod callee (receiver_of t v)) (sent c (led t (v ∷ args)) v (method_of c callee) args t)
