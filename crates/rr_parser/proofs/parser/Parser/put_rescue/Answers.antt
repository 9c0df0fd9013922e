use Rattle.rr_parser.proofs.Rescuing.{rescue_ok}
use Rattle.rr_parser.proofs.Lists.{below_items, items_within}
use Rattle.rr_parser.proofs.parser.Parser.put_rescue.Goals as goal

pub returns : goal.returns
returns c =
    rescue_ok c.args.self.now c.put_items.new.self c.put.new.self _ _ _ c.put.result c.requires.clauses c.in_ok-first.ensures.nodes c.in_ok-first.ensures.known c.in_ok-first.ensures.first c.in_ok-first.ensures.count c.args.body c.args.otherwise c.requires.body
    c.requires.otherwise c.put.ensures.puts

pub put-requires : goal.put-requires
put-requires c = (
  below_items c.args.body c.args.self.now.nodes.items c.put_items.new.self.nodes.items c.args.clauses.now c.in_ok-first.ensures.nodes c.requires.body,
  items_within c.args.self.now.nodes.items c.put_items.new.self.nodes.items c.args.clauses.now c.in_ok-first.first c.in_ok-first.count c.in_ok-first.ensures.nodes c.in_ok-first.ensures.first c.in_ok-first.ensures.count,
  below_items c.args.otherwise c.args.self.now.nodes.items c.put_items.new.self.nodes.items c.args.clauses.now c.in_ok-first.ensures.nodes c.requires.otherwise,
)
