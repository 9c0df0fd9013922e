-- Choices and loops.
use Rattle.std.specs.Prelude.{◌≡◌, List, [], ◌∷◌, Bool, true, false, Option, Some, None}
use Rattle.rr_tree.specs.Tree.{Tree, nil, choose, repeat}
use Rattle.rr_parser.specs.declared.word.WordKind.TheVariants as kind
use Rattle.rr_parser.specs.declared.word.Word.{Word}
use Rattle.rr_parser.specs.Places.{Place, Look, word, at, next, separators}
use Rattle.rr_parser.specs.Grammar.Chains.{Chain, one_of, and_one}
use Rattle.rr_parser.specs.Grammar.Nesting.{Nested}
use Rattle.rr_parser.specs.Grammar.Fences.{Taking}
use Rattle.rr_parser.specs.Grammar.Names.{with_loop}
use Rattle.rr_parser.specs.Grammar.Sequences.{Expression, Statements}

abbrev pub behind_word : List Word → Option (Unit {0} × List Word) → List Word
behind_word ws None = ws
behind_word ws (Some x) = x.1

abbrev pub then_or_separators : Option (Unit {0} × List Word) → Option (Unit {0} × List Word) → Option (Unit {0} × List Word)
then_or_separators (Some x) o = Some x
then_or_separators None None = None
then_or_separators None (Some x) = Some (tt, behind_word x.1 (word kind.Then x.1))

-- separators, the word `then`, or both
abbrev pub thens : Look (Unit {0})
thens ws = then_or_separators (word kind.Then ws) (separators ws)

abbrev pub either : Option (Unit {0} × List Word) → Option (Unit {0} × List Word) → Option (Unit {0} × List Word)
either (Some x) o = Some x
either None o = o

-- the word `do`, or separators
abbrev pub loops : Look (Unit {0})
loops ws = either (word kind.Do ws) (separators ws)

-- a condition, and what is done where it holds
pub data Branch (N : Nested) : Place → Tree × Tree → Place → Type 0 where
  a_branch : {s m n z : Place} {c t : Tree} {u : Unit {0}} → Expression N s c m → at thens m ≡ Some (u, n) → Statements N n t z → Branch N s (c, t) z

abbrev pub elsif : Look (Unit {0})
elsif = word kind.Elsif

abbrev pub Branches : Nested → Place → List (Tree × Tree) → Place → Type 0
Branches N = Chain elsif one_of and_one (Branch N)

pub data Otherwise (N : Nested) : Place → Tree → Place → Type 0 where
  no_else : {s : Place} → Otherwise N s nil s
  an_else : {s m z : Place} {t : Tree} → next s ≡ Some (kind.Else, m) → Statements N m t z → Otherwise N s t z

-- the first branch whose condition holds, else what is left
abbrev pub chosen : List (Tree × Tree) → Tree → Tree
chosen [] e = e
chosen (b ∷ bs) e = choose b.0 b.1 (chosen bs e)

pub data Choice (N : Nested) : Place → Tree → Place → Type 0 where
  a_choice : {s m n z : Place} {l : List (Tree × Tree)} {e : Tree} → Branches N s l m → Otherwise N m e n → next n ≡ Some (kind.End, z) → Choice N s (chosen l e) z

-- what is done unless the condition holds
abbrev pub unless_chosen : Tree × Tree → Tree → Tree
unless_chosen b e = choose b.0 e b.1

pub data Unless (N : Nested) : Place → Tree → Place → Type 0 where
  an_unless : {s m n z : Place} {b : Tree × Tree} {e : Tree} → Branch N s b m → Otherwise N m e n → next n ≡ Some (kind.End, z) → Unless N s (unless_chosen b e) z

-- The word `do` behind its condition is the loop's.
pub data Loop (N : Nested) (until : Bool) : Place → Tree → Place → Type 0 where
  a_loop : {s m n o z : Place} {c t : Tree} {u : Unit {0}} → Taking false (Expression N) s c m → at loops m ≡ Some (u, n) → Statements N n t o → next o ≡ Some (kind.End, z) → Loop N until s (repeat until c t) z

abbrev pub looping : Place → Place
looping s = record { known = with_loop true s.known; rest = s.rest }

-- Behind a loop jumps may stand where they could before it.
abbrev pub outside_loop : Place → Place → Place
outside_loop s n = record { known = with_loop s.known.in_loop n.known; rest = n.rest }

-- a loop, in which jumps may stand
pub data Looped (N : Nested) (until : Bool) : Place → Tree → Place → Type 0 where
  of_loop : {s z : Place} {t : Tree} → Loop N until (looping s) t z → Looped N until s t (outside_loop s z)
