use Rattle.std.proofs.Common.{◌∙◌, arith}
use Rattle.rr_parser.proofs.Splats.{entry_before, entry_tree, same_read, splat_there, splat_same}
use Rattle.rr_parser.proofs.parser.Parser.is_splat.Goals as goal

pub loop-inner-preserved : goal.loop-inner-preserved
loop-inner-preserved c = record {
  there = omega (arith, c.loop-inner.invariant.there, entry_before c.args.self.now.nodes.items c.args.self.now.ordered c.loop-inner.id c.in-Item.inner c.index.result.now c.loop-inner.invariant.there c.index.ensures c.in-Item.is);
  tree = entry_tree c.args.self.now.nodes.items c.args.self.now.ordered c.loop-inner.id c.in-Item.inner c.index.result.now c.loop-inner.invariant.there c.index.ensures c.in-Item.is ∙ c.loop-inner.invariant.tree;
}

pub returns : goal.returns
returns c =
    splat_same c.args.self.now.nodes.items c.loop-inner.id c.args.id c.is_splat.result
    (splat_there c.args.self.now.nodes.items c.args.self.now.ordered c.loop-inner.id c.index-2.result.now c.is_splat.result c.loop-inner.invariant.there c.index-2.ensures
    (λ a f. c.in_default.not-Item a (same_read c.args.self.now.nodes.items c.loop-inner.id c.index.result.now c.index-2.result.now c.loop-inner.invariant.there c.index.ensures c.index-2.ensures ∙ f)) (c.is_splat.ensures c.args.self.now.nodes.items))
    c.loop-inner.invariant.tree
