use Rattle.std.proofs.Common.{List, [], ◌∷◌, ◌++◌, refl, ap, ◌∙◌}
use Rattle.rr_tree.specs.declared.node.Node.{Node}
use Rattle.rr_parser.proofs.Making.{puts_is}
use Rattle.rr_parser.proofs.parser.Parser.put.Goals as goal

pub returns-clause-puts : goal.returns-clause-puts
returns-clause-puts c =
    puts_is _ _ _ _
    (record {
      at = c.len-id.ensures ∙ c.args.self.now.nodes.ok.0;
      nodes = c.push_reserved.ensures.items ∙ ap (λ (l : List Node). l ++ c.args.node ∷ []) c.reserve.ensures.items;
      known = refl;
    })
