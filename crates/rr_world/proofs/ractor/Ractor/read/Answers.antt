use Rattle.std.proofs.Common.{◌≡◌, ◌++◌, List, [], ◌∷◌, Contains, length, sym, ap, subst, ◌∙◌, refl, arith}
use Rattle.std.proofs.lemmas.Option.{same_Some}
use Rattle.rr_space.specs.Labels.{label_of, triples_at}
use Rattle.rr_space.specs.Sound.{IsWell}
use Rattle.rr_space.specs.declared.refer.Ref.{Ref}
use Rattle.rr_world.specs.Views.{Member, AreRootsWithin, IsPublishedFit}
use Rattle.rr_world.specs.Changing.{HasRootsWithin}
use Rattle.rr_world.proofs.Changes.{read_by}
use Rattle.rr_world.proofs.Rooting.{roots_and_more}
use Rattle.rr_world.proofs.ractor.Ractor.read.Goals as goal

pub returns-in_default-read : goal.returns-in_default-read
returns-in_default-read c = (
  subst (λ (m : Member). IsWell m.space) c.self.view_is c.len-slots.ensures.well,
  subst HasRootsWithin c.self.view_is c.self.invariant.0,
  subst (λ (m : Member). IsPublishedFit m.space m.published) c.self.view_is c.self.invariant.2.1,
  λ h.
      let one : h.0 ≡ c.in-Some.object = same_Some _ _ (sym h.2 ∙ sym c.in-Some.ensures.is) in
      let there = subst (λ (m : Member). Contains (triples_at m.space c.in-Some.object) (label_of c.args.label, h.1)) (sym c.self.view_is)
      (subst (λ v. Contains (triples_at c.args.self.now.space v) (label_of c.args.label, h.1)) one h.3) in
      c.in_default-read.ensures.none h.1 there,
  refl,
)

pub invariant_of-self-2 : goal.invariant_of-self-2
invariant_of-self-2 c =
    let pushed : c.push_reserved.new.self.items ≡ c.self.inside.roots.items ++ c.in-Some-read.found ∷ [] =
    c.push_reserved.ensures.items ∙ ap (λ (rs : List Ref). rs ++ c.in-Some-read.found ∷ []) c.reserve.ensures.items in (
      subst (λ (rs : List Ref). AreRootsWithin (length c.self.inside.space.slots) rs) (sym pushed)
          (roots_and_more (length c.self.inside.space.slots) (length c.self.inside.space.slots) c.self.inside.roots.items c.in-Some-read.found (omega arith) c.self.invariant.0 c.in-Some-read.ensures.within),
      c.self.invariant.1,
      c.self.invariant.2,
      c.self.invariant.3,
    )

pub returns : goal.returns
returns c =
    let pushed : c.push_reserved.new.self.items ≡ c.self.inside.roots.items ++ c.in-Some-read.found ∷ [] =
    c.push_reserved.ensures.items ∙ ap (λ (rs : List Ref). rs ++ c.in-Some-read.found ∷ []) c.reserve.ensures.items in (
      c.in-Some.object,
      c.in-Some-read.found,
      read_by c.args.object (label_of c.args.label) c.in-Some.object c.in-Some-read.found c.args.self.now c.self.inside.space c.self.inside.roots.items c.push_reserved.new.self.items c.self.inside.hand c.self.inside.limits c.self.inside.runs
          c.self.view_is pushed (sym c.in-Some.ensures.is) c.in-Some-read.ensures.first c.in-Some-read.ensures.within c.in-Some-read.ensures.known c.self.invariant.0 c.self.invariant.2.1,
    )
