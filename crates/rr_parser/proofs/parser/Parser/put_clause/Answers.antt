use Rattle.rr_parser.proofs.Rescuing.{clause_ok}
use Rattle.rr_parser.proofs.Lists.{below_items, items_within}
use Rattle.rr_parser.proofs.parser.Parser.put_clause.Goals as goal

pub returns : goal.returns
returns c =
    clause_ok c.args.self.now c.put_items.new.self c.put.new.self _ _ _ c.put.result c.requires.classes c.in_ok-first.ensures.nodes c.in_ok-first.ensures.known c.in_ok-first.ensures.first c.in_ok-first.ensures.count c.args.target c.args.body c.requires.target
    c.requires.body c.put.ensures.puts

pub put-requires : goal.put-requires
put-requires c = (
  items_within c.args.self.now.nodes.items c.put_items.new.self.nodes.items c.args.classes.now c.in_ok-first.first c.in_ok-first.count c.in_ok-first.ensures.nodes c.in_ok-first.ensures.first c.in_ok-first.ensures.count,
  below_items c.args.target c.args.self.now.nodes.items c.put_items.new.self.nodes.items c.args.classes.now c.in_ok-first.ensures.nodes c.requires.target,
  below_items c.args.body c.args.self.now.nodes.items c.put_items.new.self.nodes.items c.args.classes.now c.in_ok-first.ensures.nodes c.requires.body,
)
