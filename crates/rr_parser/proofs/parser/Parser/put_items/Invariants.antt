use Rattle.std.proofs.Common.{◌≡◌, ◌++◌, take, map}
use Rattle.rr_tree.specs.Nodes.{item}
use Rattle.rr_parser.proofs.parser.Parser.put_items.Given as goal

abbrev pub invariant-loop-item : goal.invariant-loop-item
invariant-loop-item l = record {
  nodes : l.self.nodes.items ≡ l.fn.self.nodes.items ++ map item (take l.item-index l.items);
  known : l.self.known ≡ l.fn.self.known;
}
