use Rattle.std.proofs.Common.{◌≡◌, List, length, map, Some, refl, sym, ap, ◌∙◌, subst}
use Rattle.std.proofs.lemmas.Option.{slice_get_read, same_Some}
use Rattle.rr_space.specs.Parts.{sealed_object}
use Rattle.rr_space.specs.Indexes.{IsIndexOf, IsIndexed}
use Rattle.rr_space.specs.declared.refer.Ref.{Ref}
use Rattle.rr_space.specs.declared.refer.Sealed.{Sealed}
use Rattle.rr_space.specs.declared.refer.Sealed.TheVariants.{Hash}
use Rattle.rr_space.proofs.indexes.index_of.Goals as goal

pub returns-in_ok-new-in-Hash-clause-index : goal.returns-in_ok-new-in-Hash-clause-index
returns-in_ok-new-in-Hash-clause-index c = λ s at.
    let nodes = c.args.nodes.now in
    let own = map sealed_object nodes in
    let here = slice_get_read nodes (length nodes) c.args.place c.index-nodes-place.result refl c.requires c.index-nodes-place.is ∙ ap Some c.in-Hash.is in
    let same : Hash c.in-Hash.pairs ≡ s = same_Some (Hash c.in-Hash.pairs) s (sym here ∙ at) in
    let index = subst (λ (ps : List (Ref × Ref)). IsIndexOf own ps (length ps) c.in_ok-firsts-in-Hash.firsts.entries) c.deref.ensures.value c.in_ok-firsts-in-Hash.ensures.firsts in
    subst (λ (x : Sealed). IsIndexed (λ b. b.value.entries) own x (Some c.in_ok-new-in-Hash.field-0)) same
    (subst (λ m. IsIndexOf own c.in-Hash.pairs.items (length c.in-Hash.pairs.items) m.entries) (sym c.in_ok-new-in-Hash.ensures.ok) index)
