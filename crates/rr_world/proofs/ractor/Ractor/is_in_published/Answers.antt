use Rattle.std.proofs.Common.{◌≡◌, Some, Contains, ap, sym, ◌∙◌, subst}
use Rattle.std.proofs.lemmas.Option.{same_Some}
use Rattle.rr_space.specs.declared.refer.Ref.TheVariants.{Local}
use Rattle.rr_world.specs.Views.{PublishedPlan, Member, published_in}
use Rattle.rr_world.proofs.ractor.Ractor.is_in_published.Goals as goal

pub returns-in-Published : goal.returns-in-Published
returns-in-Published c =
    let p : PublishedPlan = record { places = c.in-Published.places; cluster = c.in-Published.field-1.cluster.now } in
    let held : c.args.self.now.published ≡ Some p = ap (λ (m : Member). m.published) (sym c.self.view_is) ∙ ap published_in c.in-Published.is in (
      λ holds. (p, c.in-Local.slot, held, c.in-Local.is, c.contains.ensures.0 holds),
      λ h.
          let slot : h.1 ≡ c.in-Local.slot = let z : Local h.1 ≡ Local c.in-Local.slot = sym h.3 ∙ c.in-Local.is in cc in
          c.contains.ensures.1 (subst (Contains c.in-Published.places) slot (subst (λ (q : PublishedPlan). Contains q.places h.1) (same_Some h.0 p (sym h.2 ∙ held)) h.4)),
    )
