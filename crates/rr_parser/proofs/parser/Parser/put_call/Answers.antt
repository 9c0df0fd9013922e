use Rattle.std.proofs.Common.{◌∙◌}
use Rattle.rr_tree.specs.Tree.{call}
use Rattle.rr_parser.proofs.Lists.{list_ok}
use Rattle.rr_parser.proofs.parser.Parser.put_call.Goals as goal

pub returns : goal.returns
returns c =
    list_ok c.args.self.now c.site.new.self c.put.new.self _ _ _ (call c.args.name.0) c.put.result c.requires (c.site.ensures.nodes ∙ c.in_ok-first.ensures.nodes) (c.site.ensures.known ∙ c.in_ok-first.ensures.known)
    c.in_ok-first.ensures.first c.in_ok-first.ensures.count c.put.ensures.puts
