-- An operator on what stands for a tree, and a leaf.
use Rattle.std.proofs.Common.{◌+◌, refl}
use Rattle.rr_tree.specs.Tree.{tree_at}
use Rattle.rr_eval.specs.Views.{view_of}
use Rattle.rr_eval.proofs.Filled.{link_fills}
use Rattle.rr_eval.proofs.engine.Engine.fill_link.Goals as goal

pub returns-clause-fills : goal.returns-clause-fills
returns-clause-fills c = λ trees home whole leaves fills.
    let p = c.args.prepared.now.program in
    let found = c.args.found in
    let link = c.args.link in
    link_fills p (view_of c.args.self.now) trees home link.op whole (tree_at p.nodes.items link.right) found.steps (found.steps + 2) found.value c.in_ok-right.right c.in_ok-operated.field-0 leaves fills c.in_ok-right.ensures.is c.in_ok-operated.ensures.gives refl

pub returns-clause-within : goal.returns-clause-within
returns-clause-within c = c.in_ok-operated.ensures.within
