-- Instance variables of `self`.
use Rattle.std.specs.Prelude.{[], ◌∷◌, Option, Some, None}
use Rattle.rr_base.specs.declared.name.Sym.{Sym}
use Rattle.rr_space.specs.Tables.{Table}
use Rattle.rr_space.specs.declared.refer.Ref.{Ref}
use Rattle.rr_space.specs.declared.refer.Ref.TheVariants.{Nil}
use Rattle.rr_builtin.specs.Fields.{field_at}
use Rattle.rr_builtin.specs.Rounds.{Read, Reads, ReadsNone, IsMoved}
use Rattle.rr_builtin.specs.declared.problem.Problem.TheVariants.{Moved}
use Rattle.rr_eval.specs.declared.call.Task.TheVariants.{SetField}
use Rattle.rr_eval.specs.declared.problem.Problem.TheVariants.{BuiltIn, NotHere}
use Rattle.rr_eval.specs.declared.problem.Response.{Response}
use Rattle.rr_eval.specs.declared.problem.Response.TheVariants.{Gives, Fails}
use Rattle.rr_eval.specs.Basics.{settled}
use Rattle.rr_eval.specs.Blocks.{running}
use Rattle.rr_eval.specs.Context.{Context}
use Rattle.rr_eval.specs.Responses.{own_of}
use Rattle.rr_eval.specs.Script.{Script, See, Ask, Does}

-- what is published and not known is not given yet
abbrev pub own_response : Option Ref → Response
own_response None = Fails NotHere
own_response (Some v) = Gives v

-- what an instance variable holds; nil where it is unset
abbrev pub field_response : Table → Read → Response
field_response t (Reads x) = own_response (own_of t x)
field_response t ReadsNone = Gives Nil
field_response t IsMoved = Fails (BuiltIn Moved)

abbrev pub field_rule : Context → Sym → Script
field_rule c x = See (λ m. settled c (field_response m.table (field_at m.table (running m.calls.frames).itself x.0)))

-- an instance variable of `self` gets a value, which is the value of the assignment
abbrev pub set_field_rule : Context → Sym → Ref → Script
set_field_rule c x v = See (λ m. Ask (Does (SetField x) ((running m.calls.frames).itself ∷ v ∷ []) m.table) (settled c))
