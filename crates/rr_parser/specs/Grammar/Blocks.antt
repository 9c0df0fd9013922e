-- Blocks, and the scopes that they are.
use Rattle.std.specs.Prelude.{◌≡◌, ◌+◌, List, [], ◌∷◌, length, take, true, Option, Some, None, if◌then◌else◌}
use Rattle.rr_base.specs.declared.name.Sym.{Sym}
use Rattle.rr_tree.specs.Tree.{Tree, block}
use Rattle.rr_parser.specs.declared.word.Fence.{Fence}
use Rattle.rr_parser.specs.declared.word.WordKind.{WordKind}
use Rattle.rr_parser.specs.declared.word.WordKind.TheVariants as kind
use Rattle.rr_parser.specs.declared.word.Word.{Word}
use Rattle.rr_parser.specs.Places.{Known, Place, Look, is_kind, word, at, next}
use Rattle.rr_parser.specs.Grammar.Nesting.{Nested}
use Rattle.rr_parser.specs.Grammar.Fences.{fence_end}
use Rattle.rr_parser.specs.Grammar.Names.{with_variable, variable_of_kind}
use Rattle.rr_parser.specs.Grammar.Bodies.{Held}

-- a name before others
abbrev pub before_names : Option Sym → Option (List Sym × List Word) → Option (List Sym × List Word)
before_names None o = None
before_names (Some x) None = None
before_names (Some x) (Some r) = Some (x ∷ r.0, r.1)

abbrev pub no_more : WordKind → Word → List Word → Option (List Sym × List Word)
no_more k v ws = if is_kind v.kind k then Some ([], ws) else None

-- what may stand behind a name: a comma and more names, or a word of this kind
abbrev pub more_names : WordKind → Look (List Sym)
more_names k [] = None
more_names k (v ∷ []) = if is_kind v.kind kind.Comma then None else no_more k v []
more_names k (v ∷ w ∷ ws) = if is_kind v.kind kind.Comma then before_names (variable_of_kind w.kind) (more_names k ws) else no_more k v (w ∷ ws)

-- names with commas between them, and a word of this kind behind them
abbrev pub names_to : WordKind → Look (List Sym)
names_to k [] = None
names_to k (w ∷ ws) = before_names (variable_of_kind w.kind) (more_names k ws)

abbrev pub behind_bar : List Word → Option (Unit {0} × List Word) → Option (List Sym × List Word)
behind_bar ws None = Some ([], ws)
behind_bar ws (Some r) = names_to kind.Bar r.1

-- the parameters of a block, between bars, or none
abbrev pub parameters : Look (List Sym)
parameters ws = behind_bar ws (word kind.Bar ws)

-- each name is a new variable, which hides those before it
abbrev pub with_parameters : List Sym → Known → Known
with_parameters [] k = k
with_parameters (x ∷ xs) k = with_parameters xs (with_variable k x None)

-- a scope inside the present one, which has no variables yet, and in which jumps may stand
abbrev pub inner : Known → Known
inner k = record { locals = k.locals; level = k.level + 1; count = 0; begun = k.begun + 1; in_loop = true; in_method = k.in_method; takes_do = k.takes_do }

-- the place as the first one of a scope with these parameters
abbrev pub entered : List Sym → Place → Place
entered xs s = record { known = with_parameters xs (inner s.known); rest = s.rest }

-- Behind a scope that was begun at s the variables are known that were known there.
abbrev pub left_to : Known → Known → Known
left_to k n = record { locals = take (length k.locals) n.locals; level = k.level; count = k.count; begun = n.begun; in_loop = k.in_loop; in_method = n.in_method; takes_do = n.takes_do }

abbrev pub leaving : Place → Place → Place
leaving s n = record { known = left_to s.known n.known; rest = n.rest }

-- a block: its number among the scopes, its parameters, how many variables it has at its end, and what it holds
abbrev pub block_tree : List Sym → Place → Place → Tree → Tree
block_tree xs m n t = block (entered xs m).known.begun (length xs) n.known.count t

pub data Block (N : Nested) (f : Fence) : Place → Tree → Place → Type 0 where
  of_statements : {s m n z : Place} {xs : List Sym} {t : Tree} → at parameters s ≡ Some (xs, m) → Held N f (entered xs m) t n → next n ≡ Some (fence_end f, z) → Block N f s (block_tree xs m z t) (leaving s z)
