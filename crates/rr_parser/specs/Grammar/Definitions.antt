-- Definitions of methods, and the scopes that they are.
use Rattle.std.specs.Prelude.{◌≡◌, ◌+◌, ℕ, List, [], length, drop, false, true, Option, Some, None}
use Rattle.rr_base.specs.declared.name.Sym.{Sym}
use Rattle.rr_tree.specs.Tree.{Tree, method}
use Rattle.rr_parser.specs.declared.word.WordKind.{WordKind}
use Rattle.rr_parser.specs.declared.word.WordKind.TheVariants as kind
use Rattle.rr_parser.specs.declared.word.Word.{Word}
use Rattle.rr_parser.specs.Places.{Known, Place, Look, first_as, word, at, next}
use Rattle.rr_parser.specs.Grammar.Nesting.{Nested}
use Rattle.rr_parser.specs.Grammar.Blocks.{names_to, with_parameters}
use Rattle.rr_parser.specs.Grammar.Bodies.{Body}

-- the name that a word begins, and how many words more it has
abbrev pub naming_of_kind : WordKind → Option (Sym × ℕ)
naming_of_kind (kind.MethodName x n) = Some (x, n)
naming_of_kind _ = None

abbrev pub naming : Look (Sym × ℕ)
naming = first_as (λ w. naming_of_kind w.kind)

abbrev pub past_name : Option ((Sym × ℕ) × List Word) → Option (Sym × List Word)
past_name None = None
past_name (Some r) = Some (r.0.0, drop r.0.1 r.1)

-- the name of a method, with all its words
abbrev pub method_name : Look Sym
method_name ws = past_name (naming ws)

abbrev pub names_unless : WordKind → List Word → Option (Unit {0} × List Word) → Option (List Sym × List Word)
names_unless k ws None = names_to k ws
names_unless k ws (Some r) = Some ([], r.1)

-- names with commas between them, or none, and a word of this kind behind them
abbrev pub some_names : WordKind → Look (List Sym)
some_names k ws = names_unless k ws (word k ws)

abbrev pub with_separator : List Sym → Option (Unit {0} × List Word) → Option (List Sym × List Word)
with_separator xs None = None
with_separator xs (Some r) = Some (xs, r.1)

abbrev pub separated : Option (List Sym × List Word) → Option (List Sym × List Word)
separated None = None
separated (Some r) = with_separator r.0 (word kind.Separator r.1)

abbrev pub behind_bracket : List Word → Option (Unit {0} × List Word) → Option (List Sym × List Word)
behind_bracket ws None = some_names kind.Separator ws
behind_bracket ws (Some r) = separated (some_names kind.Close r.1)

-- the parameters of a method, in brackets or not, with the separator behind them
abbrev pub formals : Look (List Sym)
formals ws = behind_bracket ws (word kind.Open ws)

-- the scope of a method, which sees no variables outside and has none yet, and in which no jump but `return` may stand
abbrev pub apart : Known → Known
apart k = record { locals = []; level = 0; count = 0; begun = k.begun + 1; in_loop = false; in_method = true; takes_do = true }

-- the place as the first one of a method with these parameters
abbrev pub defined : List Sym → Place → Place
defined xs s = record { known = with_parameters xs (apart s.known); rest = s.rest }

-- Behind a method that was begun at s all is known that was known there.
abbrev pub rejoined : Known → Known → Known
rejoined k n = record { locals = k.locals; level = k.level; count = k.count; begun = n.begun; in_loop = k.in_loop; in_method = k.in_method; takes_do = k.takes_do }

abbrev pub rejoining : Place → Place → Place
rejoining s n = record { known = rejoined s.known n.known; rest = n.rest }

-- a method: its name, its number among the scopes, its parameters, how many variables it has at its end, and its body
abbrev pub method_tree : Sym → List Sym → Place → Place → Tree → Tree
method_tree x xs m n t = method x.0 (defined xs m).known.begun (length xs) n.known.count t

-- the definition of a method, behind the word `def`
pub data Definition (N : Nested) : Place → Tree → Place → Type 0 where
  of_method : {s m n o z : Place} {x : Sym} {xs : List Sym} {t : Tree} → at method_name s ≡ Some (x, m) → at formals m ≡ Some (xs, n) → Body N (defined xs n) t o → next o ≡ Some (kind.End, z)
      → Definition N s (method_tree x xs n z t) (rejoining s z)
