use Rattle.std.proofs.Common.{[], ◌++◌, ◌∷◌, ap, ◌∙◌}
use Rattle.rr_parser.proofs.Assigning.{all_targets, several_ok}
use Rattle.rr_parser.proofs.Lists.{below_items, items_within}
use Rattle.rr_parser.proofs.parser.Parser.put_several.Goals as goal

pub put_items-requires : goal.put_items-requires
put_items-requires c =
    all_targets _ c.args.first c.args.targets.now c.deref.result.now
    (c.deref.ensures.value ∙ c.in_ok-extend_from_slice.ensures.items ∙ ap (λ l. l ++ c.args.targets.now) (c.in_ok-push.ensures.items ∙ ap (λ l. l ++ c.args.first ∷ []) c.new-all.ensures.items))
    c.requires.first c.requires.targets

pub returns : goal.returns
returns c =
    several_ok c.args.self.now c.put_items.new.self c.put.new.self c.args.first c.args.targets.now c.deref.result.now _ _ c.args.value c.put.result
    (c.deref.ensures.value ∙ c.in_ok-extend_from_slice.ensures.items ∙ ap (λ l. l ++ c.args.targets.now) (c.in_ok-push.ensures.items ∙ ap (λ l. l ++ c.args.first ∷ []) c.new-all.ensures.items))
    c.requires.first c.requires.targets c.in_ok-first.ensures.nodes c.in_ok-first.ensures.known c.in_ok-first.ensures.first c.in_ok-first.ensures.count c.requires.value c.put.ensures.puts

pub put-requires : goal.put-requires
put-requires c = (
  items_within c.args.self.now.nodes.items c.put_items.new.self.nodes.items c.deref.result.now c.in_ok-first.first c.in_ok-first.count c.in_ok-first.ensures.nodes c.in_ok-first.ensures.first c.in_ok-first.ensures.count,
  below_items c.args.value c.args.self.now.nodes.items c.put_items.new.self.nodes.items c.deref.result.now c.in_ok-first.ensures.nodes c.requires.value,
)
