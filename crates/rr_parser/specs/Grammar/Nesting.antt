-- What is spelled one level of nesting further in.
use Rattle.std.specs.Prelude.{List, Bool}
use Rattle.rr_base.specs.declared.name.Sym.{Sym}
use Rattle.rr_tree.specs.Tree.{Tree}
use Rattle.rr_parser.specs.declared.word.Part.{Part}
use Rattle.rr_parser.specs.Places.{Place}

pub record Nested : Type 1 where
  -- what is one construct more
  pub part : Part → Place → Tree → Place → Type 0
  -- the arguments behind the bracket of a call, with the bracket that closes them
  pub bracketed : Place → List Tree → Place → Type 0
  -- a command that is the argument of a command, from behind its receiver and its name
  pub ordered : Tree → Sym → Place → Tree → Place → Type 0
  -- the right side of an assignment, where a command may stand or not
  pub value : Bool → Place → Tree → Place → Type 0
  -- the right side of an assignment to several targets
  pub values : Place → Tree → Place → Type 0
