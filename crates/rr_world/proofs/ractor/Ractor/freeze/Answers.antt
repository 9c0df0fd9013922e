use Rattle.std.proofs.Common.{[], ◌≡◌, true, false, sym, ap, subst, ◌∙◌, refl}
use Rattle.rr_space.specs.Views.{can_freeze_at}
use Rattle.rr_world.specs.Changing.{HasRootsWithin}
use Rattle.rr_world.specs.Enabling.{IsNoShell}
use Rattle.rr_world.specs.ObjectCases.{frozen}
use Rattle.rr_world.proofs.Changes.{whole_slot, set_away, set_within, kept_known, made}
use Rattle.rr_world.specs.Views.{Member, IsPublishedFit, published_in}
use Rattle.rr_world.proofs.Fits.{not_in, own_whole, set_hand, still_frozen}
use Rattle.rr_world.proofs.KeyTables.{frozen_stays}
use Rattle.rr_world.proofs.ractor.Ractor.freeze.Goals as goal

pub invariant_of-self : goal.invariant_of-self
invariant_of-self c =
    let s = whole_slot c.self.inside.space c.in-Some.object (sym c.if-not-can_freeze.ensures) in (
      set_within c.self.inside.space c.freeze.new.self s.0 _ c.self.inside.roots.items (c.freeze.ensures.slots s.0 s.1 s.2 s.3) c.self.invariant.0,
      c.self.invariant.1,
      set_hand c.self.inside.space c.freeze.new.self s.0 s.1 _ c.self.inside.hand (c.freeze.ensures.slots s.0 s.1 s.2 s.3) s.3 (still_frozen s.1) c.self.invariant.2,
      set_away c.self.inside.space c.freeze.new.self s.0 _ s.1 _ _ (c.freeze.ensures.slots s.0 s.1 s.2 s.3) s.3 s.4 c.self.invariant.3,
    )

pub returns : goal.returns
returns c =
    let s = whole_slot c.self.inside.space c.in-Some.object (sym c.if-not-can_freeze.ensures) in
    made c.args.object IsNoShell frozen [] c.in-Some.object c.args.self.now c.self.inside.space c.freeze.new.self c.self.inside.roots.items c.self.inside.hand c.self.inside.limits c.self.inside.runs s.0 s.1
    c.self.view_is (sym c.in-Some.ensures.is) s.2 s.3 s.4 (c.freeze.ensures.slots s.0 s.1 s.2 s.3)
    (kept_known c.self.inside.space.below c.freeze.new.self.below c.freeze.ensures.below) c.freeze.ensures.rest.limit c.freeze.ensures.rest.owner c.freeze.ensures.rest.next_message c.self.invariant.0 c.self.invariant.3 c.self.invariant.2
    (not_in c.args.self.now (published_in c.self.inside.hand) c.in-Some.object s.0 (ap (λ (m : Member). m.published) c.self.view_is) s.2 (λ h. let z : false ≡ true = c.if-is_in_published.ensures.1 h in let y : ⊥ = cc in y)) tt
    (frozen_stays [] c.self.inside.space c.freeze.new.self s.0 s.1 s.3 (c.freeze.ensures.slots s.0 s.1 s.2 s.3) c.freeze.ensures.keys)

pub returns-then-is_in_published : goal.returns-then-is_in_published
returns-then-is_in_published c =
    let fit = subst (λ (m : Member). IsPublishedFit m.space m.published) c.self.view_is c.self.invariant.2.1 in (
      subst HasRootsWithin c.self.view_is c.self.invariant.0,
      λ h. let both = own_whole c.args.object c.args.self.now c.in-Some.object fit c.in-Some.ensures.is h in both.1 (c.if-is_in_published.ensures.0 refl),
      refl,
    )

pub returns-then-not-can_freeze : goal.returns-then-not-can_freeze
returns-then-not-can_freeze c =
    let fit = subst (λ (m : Member). IsPublishedFit m.space m.published) c.self.view_is c.self.invariant.2.1 in (
      subst HasRootsWithin c.self.view_is c.self.invariant.0,
      λ h.
          let both = own_whole c.args.object c.args.self.now c.in-Some.object fit c.in-Some.ensures.is h in
          let z : false ≡ true = c.if-not-can_freeze.ensures ∙ ap (λ (m : Member). can_freeze_at m.space c.in-Some.object) c.self.view_is ∙ both.0 in cc,
      refl,
    )
