-- Text literals with parts that are evaluated.
use Rattle.std.specs.Prelude.{◌≡◌, ℕ, List, [], ◌∷◌, ◌++◌, Option, Some, None}
use Rattle.rr_tree.specs.Tree.{Tree, text, interpolation, listed}
use Rattle.rr_parser.specs.declared.word.WordKind.{WordKind}
use Rattle.rr_parser.specs.declared.word.WordKind.TheVariants as kind
use Rattle.rr_parser.specs.Places.{Place, Look, first_as, at}
use Rattle.rr_parser.specs.Grammar.Chains.{Chain}
use Rattle.rr_parser.specs.Grammar.Nesting.{Nested}
use Rattle.rr_parser.specs.Grammar.Sequences.{Statements}

abbrev pub middle_of_kind : WordKind → Option ℕ
middle_of_kind (kind.TextMiddle i) = Some i
middle_of_kind _ = None

-- the piece of text that stands between two parts
abbrev pub text_middle : Look ℕ
text_middle = first_as (λ w. middle_of_kind w.kind)

abbrev pub tail_of_kind : WordKind → Option ℕ
tail_of_kind (kind.TextTail i) = Some i
tail_of_kind _ = None

-- the piece of text that ends the literal
abbrev pub text_tail : Look ℕ
text_tail = first_as (λ w. tail_of_kind w.kind)

abbrev pub first_piece : ℕ → Tree → List Tree
first_piece i t = text i ∷ t ∷ []

abbrev pub and_piece : ℕ → List Tree → Tree → List Tree
and_piece i l t = l ++ text i ∷ t ∷ []

-- pieces of text, each with the statements behind it, where the first piece has this number
abbrev pub Pieces : Nested → ℕ → Place → List Tree → Place → Type 0
Pieces N i = Chain text_middle (first_piece i) and_piece (Statements N)

-- such pieces, and the one that ends the literal
pub data Interpolation (N : Nested) (i : ℕ) : Place → Tree → Place → Type 0 where
  an_interpolation : {s m z : Place} {l : List Tree} {j : ℕ} → Pieces N i s l m → at text_tail m ≡ Some (j, z) → Interpolation N i s (interpolation (listed (l ++ text j ∷ []))) z
