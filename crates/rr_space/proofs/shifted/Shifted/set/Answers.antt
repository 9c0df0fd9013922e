use Rattle.std.proofs.Common.{List, drop, slice_set, ap, ◌∙◌}
use Rattle.std.proofs.lemmas.List.{drop-set-add}
use Rattle.rr_space.specs.declared.refer.Ref.{Ref}
use Rattle.rr_space.proofs.shifted.Shifted.set.Goals as goal

pub returns : goal.returns
returns c = ap (λ (xs : List Ref). drop c.self.inside.taken xs) c.replace_at.ensures.items
    ∙ drop-set-add c.self.inside.taken c.self.inside.items.items c.args.k c.args.item
    ∙ ap (λ (xs : List Ref). slice_set xs c.args.k c.args.item) c.self.view_is
