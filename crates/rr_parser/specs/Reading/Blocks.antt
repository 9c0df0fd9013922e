-- Reading blocks.
use Rattle.std.specs.Prelude.{List, Option, Some, None, Ok, Err}
use Rattle.rr_base.specs.declared.name.Sym.{Sym}
use Rattle.rr_tree.specs.Tree.{Tree}
use Rattle.rr_parser.specs.declared.word.Fence.{Fence}
use Rattle.rr_parser.specs.Places.{Place, at}
use Rattle.rr_parser.specs.Grammar.Fences.{fence_end}
use Rattle.rr_parser.specs.Grammar.Blocks.{parameters, entered, leaving, block_tree}
use Rattle.rr_parser.specs.Reading.Answers.{◌>>=◌, wrong, Answer, Parse, closed}
use Rattle.rr_parser.specs.Reading.Nesting.{Readers}
use Rattle.rr_parser.specs.Reading.Bodies.{held_of}

-- the block that has these parameters and holds this
abbrev pub left_block : Place → List Sym → Place → Answer Tree → Answer Tree
left_block s xs m r = r >>= λ t. Ok (block_tree xs m t.1 t.0, leaving s t.1)

abbrev pub block_or : Readers → Fence → Place → Option (List Sym × Place) → Answer Tree
block_or N f s None = Err wrong
block_or N f s (Some x) = left_block s x.0 x.1 (closed (fence_end f) (held_of N f (entered x.0 x.1)))

unfoldable pub block_of : Readers → Fence → Parse Tree
block_of N f s = block_or N f s (at parameters s)
