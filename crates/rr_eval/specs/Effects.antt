-- What a request comes to, whichever references its reply has.
use Rattle.std.specs.Prelude.{List, [], ◌∷◌, ◌++◌}
use Rattle.rr_space.specs.Graph.{Value}
use Rattle.rr_space.specs.Parts.{value_of, below_ref}
use Rattle.rr_space.specs.Tables.{Below, Table, joined}
use Rattle.rr_space.specs.declared.refer.Ref.{Ref}
use Rattle.rr_builtin.specs.Acts.{Outcome, Gives, Raises, Lacks}
use Rattle.rr_eval.specs.declared.problem.Problem.{Problem}
use Rattle.rr_eval.specs.declared.problem.Problem.TheVariants.{BuiltIn}
use Rattle.rr_eval.specs.declared.problem.Response.{Response}
use Rattle.rr_eval.specs.declared.problem.Response.TheVariants as response

-- what a reply says: it gives a value, or raises an exception, or there is a problem
pub data Said : Type 0 where
  Says : (value : Value) → Said
  SaysRaised : (exception : Value) → Said
  SaysFailed : (problem : Problem) → Said

abbrev pub said : Response → Said
said (response.Gives r) = Says (value_of r)
said (response.Throws e) = SaysRaised (value_of e)
said (response.Fails problem) = SaysFailed problem

-- what a call came to, where `missing` is the problem of a method that the receiver lacks
abbrev pub said_of : Problem → Outcome → Said
said_of missing (Gives x) = Says x
said_of missing (Raises p) = SaysFailed (BuiltIn p)
said_of missing Lacks = SaysFailed missing

-- What a reply says, and the objects and keys that are left. Which clusters each object leads to is not told: that is told by what
-- references there are.
pub record Effect : Type 0 where
  pub said : Said
  pub table : Table

-- the clusters that values lead to
abbrev pub below_values : List Ref → Below
below_values [] = []
below_values (v ∷ vs) = below_ref v ++ below_values vs

-- the clusters that a table and values lead to
abbrev pub led : Table → List Ref → Below
led t vs = joined t.below ++ below_values vs
