-- The grammar: a relation between the place before a construct, its tree, and the place behind it.
use Rattle.std.specs.Prelude.{◌≡◌, ℕ, zero, suc, Bool, true, false, List, []}
use Rattle.rr_tree.specs.Tree.{Tree}
use Rattle.rr_lexer.specs.declared.kind.Token.{Token}
use Rattle.rr_parser.specs.declared.word.Part.{Part}
use Rattle.rr_parser.specs.declared.word.Part.TheVariants as parts
use Rattle.rr_parser.specs.declared.word.Listed.TheVariants as listings
use Rattle.rr_parser.specs.declared.word.Word.{Word}
use Rattle.rr_parser.specs.Words.{words_of}
use Rattle.rr_parser.specs.Places.{Place, start}
use Rattle.rr_parser.specs.Grammar.Nesting.{Nested}
use Rattle.rr_parser.specs.Grammar.Fences.{Taking}
use Rattle.rr_parser.specs.Grammar.Operands.{Bang, Minus}
use Rattle.rr_parser.specs.Grammar.Calls.{Argument, Array, Hash, Index, Bracketed, Command, Ordered, Value}
use Rattle.rr_parser.specs.Grammar.Several.{Rights}
use Rattle.rr_parser.specs.Grammar.Sequences.{Negation, Group}
use Rattle.rr_parser.specs.Grammar.Interpolations.{Interpolation}
use Rattle.rr_parser.specs.Grammar.Control.{Choice, Unless, Looped}
use Rattle.rr_parser.specs.Grammar.Bodies.{Begun}
use Rattle.rr_parser.specs.Grammar.Blocks.{Block}
use Rattle.rr_parser.specs.Grammar.Definitions.{Definition}
use Rattle.rr_parser.specs.Grammar.Classes.{ClassBody}
use Rattle.rr_parser.specs.Grammar.Programs.{Outline, Main, main_of, Program}
pub mod Chains
pub mod Nesting
pub mod Fences
pub mod Names
pub mod Operands
pub mod Operators
pub mod Calls
pub mod Several
pub mod Sequences
pub mod Interpolations
pub mod Control
pub mod Bodies
pub mod Blocks
pub mod Definitions
pub mod Classes
pub mod Programs

-- what each part is, without its own say about `do`
abbrev pub FormOf : Nested → Part → Place → Tree → Place → Type 0
FormOf N parts.Group = Group N
FormOf N parts.Array = Array N
FormOf N parts.Hash = Hash N
FormOf N parts.Index = Index N
FormOf N parts.Choice = Choice N
FormOf N parts.Unless = Unless N
FormOf N (parts.Loop until) = Looped N until
FormOf N parts.Begin = Begun N
FormOf N parts.Minus = Minus N
FormOf N parts.Bang = Bang N
FormOf N parts.Not = Negation N
FormOf N parts.Command = Command N
FormOf N parts.Branch = Argument N
FormOf N (parts.Interpolation i) = Interpolation N i
FormOf N (parts.Block f) = Block N f
FormOf N parts.Definition = Definition N
FormOf N (parts.Class x c) = ClassBody N x c

-- what ends with a word of its own, so that calls in it take the word `do`
abbrev pub is_enclosed : Part → Bool
is_enclosed parts.Minus = false
is_enclosed parts.Bang = false
is_enclosed parts.Not = false
is_enclosed parts.Command = false
is_enclosed parts.Branch = false
is_enclosed _ = true

abbrev pub Enclosed : {A : Type 0} → Bool → (Place → A → Place → Type 0) → Place → A → Place → Type 0
Enclosed true P = Taking true P
Enclosed false P = P

-- what each part is
abbrev pub PartOf : Nested → Part → Place → Tree → Place → Type 0
PartOf N p = Enclosed (is_enclosed p) (FormOf N p)

-- What nests no deeper than a number inside the right side of an assignment. There, each further right side counts.
unfoldable pub inside : ℕ → Nested
inside zero = record { part = λ p s t z. ⊥; bracketed = λ s l z. ⊥; ordered = λ r x s t z. ⊥; value = λ b s t z. ⊥; values = λ s t z. ⊥ }
inside (suc d) = record { part = PartOf (inside d); bracketed = Taking true (Bracketed (inside d) listings.Call); ordered = Ordered (inside d); value = Value (inside d); values = Rights (inside d) }

-- The same outside of all right sides. A right side there does not count.
unfoldable pub outside : ℕ → Nested
outside zero = record { part = λ p s t z. ⊥; bracketed = λ s l z. ⊥; ordered = λ r x s t z. ⊥; value = Value (inside zero); values = Rights (inside zero) }
outside (suc d) = record { part = PartOf (outside d); bracketed = Taking true (Bracketed (outside d) listings.Call); ordered = Ordered (outside d); value = Value (inside (suc d)); values = Rights (inside (suc d)) }

-- the words spell a program, with constructs nested no deeper than a number
abbrev pub WordsSpell : ℕ → List Word → Main → Type 0
WordsSpell d ws t = (z : Place) × (o : Outline) × Program (outside d) (start ws) o z × (z.rest ≡ []) × (t ≡ main_of o)

-- The tokens of a source spell a program, with constructs nested no deeper than a number: its definitions, in their order, and the
-- tree of its statements.
abbrev pub SpellsProgram : ℕ → List ℕ → List Token → List Tree → Tree → Type 0
SpellsProgram d source tokens definitions t = WordsSpell d (words_of source tokens) (definitions, t)

-- the tokens of a source spell the tree of the statements
abbrev pub SpellsWithin : ℕ → List ℕ → List Token → Tree → Type 0
SpellsWithin d source tokens t = (definitions : List Tree) × SpellsProgram d source tokens definitions t

-- the same for some number
abbrev pub Spells : List ℕ → List Token → Tree → Type 0
Spells source tokens t = (d : ℕ) × SpellsWithin d source tokens t
