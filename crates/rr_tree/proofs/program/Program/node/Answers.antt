-- The tree at a place is that of the node there.
use Rattle.std.proofs.Common.{sym, ap, subst, ◌∙◌}
use Rattle.rr_tree.specs.Tree.{HasPartsBefore}
use Rattle.rr_tree.specs.Nodes.{node_tree}
use Rattle.rr_tree.proofs.Trees.{tree_is, parts_before}
use Rattle.rr_tree.proofs.program.Program.node.Goals as goal

pub returns : goal.returns
returns c =
    let ns = c.args.self.now.nodes.items in
    let there = sym c.entry.ensures in
    record {
      node = c.entry.ensures;
      tree = tree_is ns c.args.self.now.ordered c.args.id ∙ ap (node_tree ns) there;
      parts = subst (HasPartsBefore c.args.id) there (parts_before ns c.args.self.now.ordered c.args.id);
    }
