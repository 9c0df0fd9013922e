-- Reading from left to right, as a function of the place.
use Rattle.std.specs.Prelude.{ℕ, zero, suc, List, [], ◌∷◌, Bool, true, false, Result, Ok, Err}
use Rattle.rr_tree.specs.Tree.{Tree}
use Rattle.rr_parser.specs.declared.word.Part.{Part}
use Rattle.rr_parser.specs.declared.word.Part.TheVariants as parts
use Rattle.rr_parser.specs.declared.word.Listed.TheVariants as listings
use Rattle.rr_parser.specs.declared.word.Word.{Word}
use Rattle.rr_parser.specs.Places.{start}
use Rattle.rr_parser.specs.Reading.Answers.{◌>>=◌, Refused, wrong, deep, Parse, taking_of, enclosed_of}
use Rattle.rr_parser.specs.Reading.Nesting.{Readers}
use Rattle.rr_parser.specs.Reading.Operands.{bang_of, minus_of}
use Rattle.rr_parser.specs.Reading.Calls.{argument_of, bracketed_of, array_of, hash_of, index_of, command_of, ordered_of, value_of}
use Rattle.rr_parser.specs.Reading.Several.{rights_of}
use Rattle.rr_parser.specs.Reading.Sequences.{negation_of, group_of}
use Rattle.rr_parser.specs.Reading.Interpolations.{interpolation_of}
use Rattle.rr_parser.specs.Reading.Control.{choice_of, unless_of, looped_of}
use Rattle.rr_parser.specs.Reading.Bodies.{begun_of}
use Rattle.rr_parser.specs.Reading.Blocks.{block_of}
use Rattle.rr_parser.specs.Reading.Definitions.{definition_of}
use Rattle.rr_parser.specs.Reading.Classes.{class_body_of}
use Rattle.rr_parser.specs.Reading.Programs.{outline_of}
use Rattle.rr_parser.specs.Grammar.Programs.{Outline, Main, main_of}
use Rattle.rr_parser.specs.Grammar.{is_enclosed}
pub mod Answers
pub mod Nesting
pub mod Operands
pub mod Operators
pub mod Calls
pub mod Several
pub mod Sequences
pub mod Interpolations
pub mod Control
pub mod Bodies
pub mod Blocks
pub mod Definitions
pub mod Classes
pub mod Programs

-- a part, without its own say about `do`
abbrev pub form_of : Readers → Part → Parse Tree
form_of N parts.Group = group_of N
form_of N parts.Array = array_of N
form_of N parts.Hash = hash_of N
form_of N parts.Index = index_of N
form_of N parts.Choice = choice_of N
form_of N parts.Unless = unless_of N
form_of N (parts.Loop until) = looped_of N until
form_of N parts.Begin = begun_of N
form_of N parts.Minus = minus_of N
form_of N parts.Bang = bang_of N
form_of N parts.Not = negation_of N
form_of N parts.Command = command_of N
form_of N parts.Branch = argument_of N
form_of N (parts.Interpolation i) = interpolation_of N i
form_of N (parts.Block f) = block_of N f
form_of N parts.Definition = definition_of N
form_of N (parts.Class x c) = class_body_of N x c

abbrev pub part_of : Readers → Part → Parse Tree
part_of N p = enclosed_of (is_enclosed p) (form_of N p)

unfoldable pub readers_inside : ℕ → Readers
readers_inside zero = record { part = λ p s. Err deep; bracketed = λ s. Err deep; ordered = λ r x s. Err deep; value = λ b s. Err deep; values = λ s. Err deep }
readers_inside (suc d) = record { part = part_of (readers_inside d); bracketed = taking_of true (bracketed_of (readers_inside d) listings.Call); ordered = ordered_of (readers_inside d); value = value_of (readers_inside d); values = rights_of (readers_inside d) }

unfoldable pub readers_outside : ℕ → Readers
readers_outside zero = record { part = λ p s. Err deep; bracketed = λ s. Err deep; ordered = λ r x s. Err deep; value = value_of (readers_inside zero); values = rights_of (readers_inside zero) }
readers_outside (suc d) = record { part = part_of (readers_outside d); bracketed = taking_of true (bracketed_of (readers_outside d) listings.Call); ordered = ordered_of (readers_outside d); value = value_of (readers_inside (suc d)); values = rights_of (readers_inside (suc d)) }

-- inside the right side of an assignment or not, with constructs nested no deeper than a number
abbrev pub readers : Bool → ℕ → Readers
readers true d = readers_inside d
readers false d = readers_outside d

abbrev pub whole_of : Outline → List Word → Result Main Refused
whole_of o [] = Ok (main_of o)
whole_of o (w ∷ ws) = Err wrong

-- the definitions and the statements of all words
unfoldable pub program_of : ℕ → List Word → Result Main Refused
program_of d ws = outline_of (readers false d) (start ws) >>= λ r. whole_of r.0 r.1.rest
