use Rattle.std.proofs.Common.{List, drop, sym, ap, ◌∙◌}
use Rattle.std.proofs.lemmas.List.{drop-drop}
use Rattle.rr_space.specs.declared.refer.Ref.{Ref}
use Rattle.rr_space.proofs.shifted.Shifted.take_first.Goals as goal

pub returns : goal.returns
returns c = sym (drop-drop 1 c.self.inside.taken c.self.inside.items.items) ∙ ap (λ (xs : List Ref). drop 1 xs) c.self.view_is
