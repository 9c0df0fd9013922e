use Rattle.std.proofs.Common.{◌≡◌, true, false, ⊎_elim, ap, ◌∙◌, subst}
use Rattle.rr_space.specs.Kinds.{kind_at}
use Rattle.rr_space.specs.Views.{can_write_at}
use Rattle.rr_world.specs.Views.{Member, IsPublishedFit}
use Rattle.rr_world.proofs.Fits.{own_fields}
use Rattle.rr_world.proofs.ractor.Ractor.writable_object.Goals as goal

pub returns-then-not-can_write-clause-none : goal.returns-then-not-can_write-clause-none
returns-then-not-can_write-clause-none c h named =
    let fit = subst (λ (m : Member). IsPublishedFit m.space m.published) c.self.view_is c.self.invariant.2.1 in
    let both = own_fields c.args.object c.args.self.now c.in_ok-object.object fit c.in_ok-object.ensures.is h in
    let can : can_write_at c.self.inside.space c.in_ok-object.object ≡ true = ap (λ (m : Member). can_write_at m.space c.in_ok-object.object) c.self.view_is ∙ both.0 in
    let z : false ≡ true = c.if-not-can_write.ensures ∙ can in cc

pub returns-in_default : goal.returns-in_default
returns-in_default c = record {
  some = tt;
  none = λ h named.
      let fit = subst (λ (m : Member). IsPublishedFit m.space m.published) c.self.view_is c.self.invariant.2.1 in
      let both = own_fields c.args.object c.args.self.now c.in_ok-object.object fit c.in_ok-object.ensures.is h in
      let seen = c.kind_of.ensures ∙ ap (λ (m : Member). kind_at m.space c.in_ok-object.object) c.self.view_is in
      ⊎_elim (λ is. c.in_default.not-Object (seen ∙ is)) (λ is. c.in_default.not-Exception (seen ∙ is)) both.1;
}
