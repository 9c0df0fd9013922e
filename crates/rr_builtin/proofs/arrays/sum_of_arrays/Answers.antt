use Rattle.std.proofs.Common.{◌∙◌, ◌++◌, List, sym, ap, subst}
use Rattle.std.specs.List.{All}
use Rattle.std.proofs.lemmas.List.Elements.{All-append}
use Rattle.rr_space.specs.declared.refer.Ref.{Ref}
use Rattle.rr_builtin.specs.Acts.{IsRefAmong}
use Rattle.rr_builtin.proofs.arrays.sum_of_arrays.Goals as goal

pub returns-clause-among : goal.returns-clause-among
returns-clause-among c = λ below read left right.
    let first = c.in_ok-items.items.items in
    let other = c.in_ok-others.others.items in
    subst (λ (rs : List Ref). All (IsRefAmong below) rs) (sym (c.in_ok-extend_from_slice.ensures.items ∙ ap (λ (rs : List Ref). first ++ rs) c.deref.ensures.value))
    (All-append (IsRefAmong below) first other (c.in_ok-items.ensures.among below read left) (c.in_ok-others.ensures.among below read right))
