use Rattle.std.proofs.Common.{List, slice_get, sym, ap, ◌∙◌}
use Rattle.rr_space.specs.declared.refer.Ref.{Ref}
use Rattle.rr_space.specs.Elements.{kept_items}
use Rattle.rr_space.proofs.items.Items.renumbered.Goals as goal

pub renumbered-requires : goal.renumbered-requires
renumbered-requires g c = c.requires 0 c.in-One.item (ap (λ (xs : List Ref). slice_get xs 0) (sym c.self.view_is ∙ ap kept_items c.in-One.is))

pub renumbered-requires-in-Two : goal.renumbered-requires-in-Two
renumbered-requires-in-Two g c = c.requires 0 c.in-Two.first (ap (λ (xs : List Ref). slice_get xs 0) (sym c.self.view_is ∙ ap kept_items c.in-Two.is))

pub renumbered-requires-in-Two-2 : goal.renumbered-requires-in-Two-2
renumbered-requires-in-Two-2 g c = c.requires 1 c.in-Two.second (ap (λ (xs : List Ref). slice_get xs 1) (sym c.self.view_is ∙ ap kept_items c.in-Two.is))
