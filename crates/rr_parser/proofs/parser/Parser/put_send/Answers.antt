use Rattle.std.proofs.Common.{◌∙◌}
use Rattle.rr_parser.proofs.Lists.{below_items, items_within, send_ok}
use Rattle.rr_parser.proofs.parser.Parser.put_send.Goals as goal

pub returns : goal.returns
returns c =
    send_ok c.args.self.now c.site.new.self c.put.new.self _ _ _ c.args.receiver c.args.name.0 c.put.result c.requires.receiver c.requires.items (c.site.ensures.nodes ∙ c.in_ok-first.ensures.nodes) (c.site.ensures.known ∙ c.in_ok-first.ensures.known)
    c.in_ok-first.ensures.first c.in_ok-first.ensures.count c.put.ensures.puts

pub put-requires : goal.put-requires
put-requires c = (
  below_items c.args.receiver c.args.self.now.nodes.items c.site.new.self.nodes.items c.args.items.now (c.site.ensures.nodes ∙ c.in_ok-first.ensures.nodes) c.requires.receiver,
  items_within c.args.self.now.nodes.items c.site.new.self.nodes.items c.args.items.now c.in_ok-first.first c.in_ok-first.count (c.site.ensures.nodes ∙ c.in_ok-first.ensures.nodes) c.in_ok-first.ensures.first c.in_ok-first.ensures.count,
)
