use Rattle.std.proofs.Common.{◌∙◌}
use Rattle.rr_parser.proofs.Lists.{below_more_nodes, items_more}
use Rattle.rr_parser.proofs.parser.Parser.put_items.Goals as goal

pub put-requires : goal.put-requires
put-requires c = below_more_nodes _ _ _ _ c.loop-item.invariant.nodes (c.requires c.loop-item.item-index 0 c.loop-item-test.true)

pub loop-item-preserved : goal.loop-item-preserved
loop-item-preserved c = record {
  nodes = items_more _ _ _ _ _ c.loop-item-test.true c.loop-item.invariant.nodes c.in_ok-put.ensures.appends.nodes;
  known = c.in_ok-put.ensures.appends.known ∙ c.loop-item.invariant.known;
}
