use Rattle.std.proofs.Common.{length, map}
use Rattle.rr_tree.specs.Tree.{tree_at}
use Rattle.rr_parser.specs.Grammar.Chains.{and_all}
use Rattle.rr_parser.specs.Grammar.Calls.{comma}
use Rattle.rr_parser.specs.Reading.Answers.{chain_on}
use Rattle.rr_parser.specs.Reading.Classes.{attribute_of, attributes_of}
use Rattle.rr_parser.specs.Meets.{place, nodes, lists}
use Rattle.rr_parser.proofs.Making.{Goes}
use Rattle.rr_parser.proofs.parser.Parser.attributes.Given as goal

abbrev pub invariant-loop-after : goal.invariant-loop-after
invariant-loop-after l =
    Goes (lists nodes) l.fn.self l.self l.methods.items (attributes_of l.access (place l.fn.self l.fn.words))
    (chain_on comma and_all (attribute_of l.access) (map (tree_at l.self.nodes.items) l.methods.items) (place l.self l.rest))

abbrev pub decreases-loop-after : goal.decreases-loop-after
decreases-loop-after l = length l.rest
