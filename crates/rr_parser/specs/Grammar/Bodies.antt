-- Statements with the clauses that rescue them, and with those that always follow.
use Rattle.std.specs.Prelude.{◌≡◌, Bool, List, [], ◌∷◌, Option, Some, None}
use Rattle.rr_base.specs.declared.name.Sym.{Sym}
use Rattle.rr_tree.specs.declared.node.Path.{Path}
use Rattle.rr_tree.specs.declared.node.Path.TheVariants as paths
use Rattle.rr_tree.specs.Tree.{Tree, nil, constant, rescue, clause, ensure, listed}
use Rattle.rr_parser.specs.declared.word.Caught.{Caught}
use Rattle.rr_parser.specs.declared.word.Fence.{Fence}
use Rattle.rr_parser.specs.declared.word.Fence.TheVariants as fences
use Rattle.rr_parser.specs.declared.word.WordKind.{WordKind}
use Rattle.rr_parser.specs.declared.word.WordKind.TheVariants as kind
use Rattle.rr_parser.specs.declared.word.Word.{Word}
use Rattle.rr_parser.specs.Places.{Place, Look, first_as, word, at, next}
use Rattle.rr_parser.specs.Grammar.Chains.{Chain, one_of, and_one}
use Rattle.rr_parser.specs.Grammar.Nesting.{Nested}
use Rattle.rr_parser.specs.Grammar.Names.{told_behind, local_tree, variable_of, with_local, variable}
use Rattle.rr_parser.specs.Grammar.Operands.{inner_constant}
use Rattle.rr_parser.specs.Grammar.Calls.{comma}
use Rattle.rr_parser.specs.Grammar.Sequences.{Statements}
use Rattle.rr_parser.specs.Grammar.Control.{thens, Otherwise}

-- ---- classes

abbrev pub path_from : Sym → List Word → Option (Sym × List Word) → Path × List Word
path_from x ws None = (paths.Plain x, ws)
path_from x ws (Some r) = (paths.Ractor r.0, r.1)

abbrev pub path_of_kind : WordKind → List Word → Option (Path × List Word)
path_of_kind (kind.Constant x outer) ws = Some (path_from x ws (inner_constant outer ws))
path_of_kind _ ws = None

-- the path of a constant
abbrev pub path : Look Path
path [] = None
path (w ∷ ws) = path_of_kind w.kind ws

pub data Class : Place → Tree → Place → Type 0 where
  a_class : {s z : Place} {x : Path} → at path s ≡ Some (x, z) → Class s (constant x) z

-- classes with commas between them, or none
pub data Classes : Place → List Tree → Place → Type 0 where
  no_classes : {s : Place} → at path s ≡ None → Classes s [] s
  some_classes : {s z : Place} {l : List Tree} → Chain comma one_of and_one Class s l z → Classes s l z

-- ---- clauses

abbrev pub before_thens : Option Caught → Option (Unit {0} × List Word) → Option (Option Caught × List Word)
before_thens x None = None
before_thens x (Some r) = Some (x, r.1)

abbrev pub named_thens : Option (Sym × List Word) → Option (Option Caught × List Word)
named_thens None = None
named_thens (Some x) = before_thens (Some (record { name = x.0; behind = told_behind x.1 })) (thens x.1)

abbrev pub behind_arrow : List Word → Option (Unit {0} × List Word) → Option (Option Caught × List Word)
behind_arrow ws None = before_thens None (thens ws)
behind_arrow ws (Some r) = named_thens (variable r.1)

-- An arrow and the variable that gets the exception, or neither; and what stands before the statements.
abbrev pub caught : Look (Option Caught)
caught ws = behind_arrow ws (word kind.Arrow ws)

-- the place, where that variable is known
abbrev pub with_caught : Option Caught → Place → Place
with_caught None s = s
with_caught (Some x) s = with_local x.name s

-- the variable as it is seen there, and nil where there is none
abbrev pub caught_tree : Option Caught → Place → Tree
caught_tree None s = nil
caught_tree (Some x) s = local_tree x.name (variable_of x.name s) x.behind

-- a clause, behind the word `rescue`
pub data Clause (N : Nested) : Place → Tree → Place → Type 0 where
  a_clause : {s m n z : Place} {l : List Tree} {x : Option Caught} {t : Tree} → Classes s l m → at caught m ≡ Some (x, n) → Statements N (with_caught x n) t z → Clause N s (clause (listed l) (caught_tree x (with_caught x n)) t) z

abbrev pub rescues : Look (Unit {0})
rescues = word kind.Rescue

abbrev pub Clauses : Nested → Place → List Tree → Place → Type 0
Clauses N = Chain rescues one_of and_one (Clause N)

-- Statements, and the clauses that rescue them. What stands behind `else` follows where nothing was raised.
pub data Rescued (N : Nested) : Place → Tree → Place → Type 0 where
  no_rescue : {s z : Place} {t : Tree} → Statements N s t z → Rescued N s t z
  a_rescue : {s m n o z : Place} {t e : Tree} {l : List Tree} → Statements N s t m → next m ≡ Some (kind.Rescue, n) → Clauses N n l o → Otherwise N o e z → Rescued N s (rescue t (listed l) e) z

-- the same, and what always follows
pub data Body (N : Nested) : Place → Tree → Place → Type 0 where
  no_ensure : {s z : Place} {t : Tree} → Rescued N s t z → Body N s t z
  an_ensure : {s m n z : Place} {t e : Tree} → Rescued N s t m → next m ≡ Some (kind.Ensure, n) → Statements N n e z → Body N s (ensure t e) z

-- what begins a loop, as a modifier too
abbrev pub loop_of_kind : WordKind → Option Bool
loop_of_kind (kind.Loop until) = Some until
loop_of_kind _ = None

abbrev pub loop_word : Look Bool
loop_word = first_as (λ w. loop_of_kind w.kind)

-- What stands behind `begin`, with its `end`. A loop modifier does not stand directly behind that.
pub data Begun (N : Nested) : Place → Tree → Place → Type 0 where
  a_begun : {s m z : Place} {t : Tree} → Body N s t m → next m ≡ Some (kind.End, z) → at loop_word z ≡ None → Begun N s t z

-- What a block holds: between braces nothing is rescued.
pub data Held (N : Nested) : Fence → Place → Tree → Place → Type 0 where
  between_braces : {s z : Place} {t : Tree} → Statements N s t z → Held N fences.Brace s t z
  until_end : {s z : Place} {t : Tree} → Body N s t z → Held N fences.Do s t z
