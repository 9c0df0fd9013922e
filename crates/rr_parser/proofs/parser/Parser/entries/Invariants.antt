use Rattle.std.proofs.Common.{false, length}
use Rattle.rr_parser.specs.Grammar.Programs.{with_entry}
use Rattle.rr_parser.specs.Reading.Answers.{chain_on}
use Rattle.rr_parser.specs.Reading.Sequences.{row}
use Rattle.rr_parser.specs.Reading.Programs.{entry_of, entries_of}
use Rattle.rr_parser.specs.Reading.{readers}
use Rattle.rr_parser.specs.Meets.{place, outlines}
use Rattle.rr_parser.proofs.Making.{Goes}
use Rattle.rr_parser.proofs.parser.Parser.entries.Given as goal

abbrev pub invariant-loop-after : goal.invariant-loop-after
invariant-loop-after l =
    Goes outlines l.fn.self l.self l.outline (entries_of (readers false l.depth) (place l.fn.self l.fn.words))
    (chain_on row with_entry (entry_of (readers false l.depth)) (outlines.tree l.self.nodes.items l.outline) (place l.self l.rest))

abbrev pub decreases-loop-after : goal.decreases-loop-after
decreases-loop-after l = length l.rest
