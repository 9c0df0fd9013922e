-- Programs: classes, definitions and statements.
use Rattle.std.specs.Prelude.{◌≡◌, List, [], ◌∷◌, ◌++◌, Option, Some}
use Rattle.rr_base.specs.declared.name.ClassId.{ClassId}
use Rattle.rr_base.specs.declared.name.Sym.{Sym}
use Rattle.rr_tree.specs.declared.node.Path.{Path}
use Rattle.rr_tree.specs.Tree.{Tree, sequence, listed}
use Rattle.rr_parser.specs.declared.word.Opening.TheVariants as openings
use Rattle.rr_parser.specs.declared.word.Part.TheVariants as parts
use Rattle.rr_parser.specs.declared.word.WordKind.TheVariants as kind
use Rattle.rr_parser.specs.Places.{Place, at, next, skip, separators}
use Rattle.rr_parser.specs.Grammar.Chains.{Chain}
use Rattle.rr_parser.specs.Grammar.Nesting.{Nested}
use Rattle.rr_parser.specs.Grammar.Sequences.{Statement}
use Rattle.rr_parser.specs.Grammar.Classes.{class_head}

-- a row of a program: what it defines, or what it does
pub data Entry : Type 0 where
  defines : Tree → Entry
  does : Tree → Entry

pub data Row (N : Nested) : Place → Entry → Place → Type 0 where
  a_definition : {s m z : Place} {t : Tree} → next s ≡ Some (kind.Def, m) → N.part parts.Definition m t z → Row N s (defines t) z
  a_class : {s m n z : Place} {c : ClassId} {x : Sym × Option Path} {t : Tree} → next s ≡ Some (kind.Class (openings.Below c), m) → at class_head m ≡ Some (x, n) → N.part (parts.Class x.0 c) n t z → Row N s (defines t) z
  a_statement : {s z : Place} {t : Tree} → Statement N s t z → Row N s (does t) z

-- the definitions of a program and its statements, each in their order
abbrev pub Outline : Type 0
Outline = List Tree × List Tree

abbrev pub with_entry : Unit {0} → Outline → Entry → Outline
with_entry u o (defines t) = (o.0 ++ t ∷ [], o.1)
with_entry u o (does t) = (o.0, o.1 ++ t ∷ [])

abbrev pub first_entry : Entry → Outline
first_entry e = with_entry tt ([], []) e

abbrev pub Entries : Nested → Place → Outline → Place → Type 0
Entries N = Chain separators first_entry with_entry (Row N)

-- the definitions, and the tree of the statements
abbrev pub Main : Type 0
Main = List Tree × Tree

abbrev pub main_of : Outline → Main
main_of o = (o.0, sequence (listed o.1))

-- Separators may stand before and behind the rows too.
pub data Program (N : Nested) : Place → Outline → Place → Type 0 where
  no_rows : {s : Place} → Program N s ([], []) (skip s)
  some_rows : {s m : Place} {o : Outline} → Entries N (skip s) o m → Program N s o (skip m)
