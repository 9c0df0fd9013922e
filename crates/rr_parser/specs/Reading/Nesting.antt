-- What is read one level of nesting further in.
use Rattle.std.specs.Prelude.{List, Bool}
use Rattle.rr_base.specs.declared.name.Sym.{Sym}
use Rattle.rr_tree.specs.Tree.{Tree}
use Rattle.rr_parser.specs.declared.word.Part.{Part}
use Rattle.rr_parser.specs.Reading.Answers.{Parse}

pub record Readers : Type 0 where
  pub part : Part → Parse Tree
  pub bracketed : Parse (List Tree)
  pub ordered : Tree → Sym → Parse Tree
  pub value : Bool → Parse Tree
  pub values : Parse Tree
