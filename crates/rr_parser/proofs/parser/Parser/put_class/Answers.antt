use Rattle.rr_tree.specs.Tree.{class_body}
use Rattle.rr_parser.proofs.Lists.{list_ok}
use Rattle.rr_parser.proofs.parser.Parser.put_class.Goals as goal

pub returns : goal.returns
returns c =
    list_ok c.args.self.now c.put_items.new.self c.put.new.self _ _ _ (class_body c.args.name.0 c.args.superclass) c.put.result c.requires c.in_ok-first.ensures.nodes c.in_ok-first.ensures.known c.in_ok-first.ensures.first
    c.in_ok-first.ensures.count c.put.ensures.puts
