use Rattle.std.proofs.Common.{◌≡◌, true, false, ap, ◌∙◌, subst}
use Rattle.rr_space.specs.Graph.{hash}
use Rattle.rr_space.specs.Kinds.{kind_at}
use Rattle.rr_space.specs.Views.{can_write_at}
use Rattle.std.specs.Prelude.{not}
use denote.Enum.Bare.{sameb}
use Rattle.rr_space.specs.contracts.kind.Kind.{the_type}
use Rattle.rr_space.specs.declared.kind.Kind.{Kind as ValueKind}
use Rattle.rr_space.specs.declared.kind.Kind.TheVariants as kinds
use Rattle.rr_world.specs.Views.{Member, IsPublishedFit}
use Rattle.rr_world.proofs.Fits.{own_open}
use Rattle.rr_world.proofs.Making.{hash_differs}
use Rattle.rr_world.proofs.ractor.Ractor.writable_hash.Goals.{then-not-can_write-via-then-not-can_write, then-not-can_write-via-else-not-can_write+then-ne}
use Rattle.rr_world.proofs.ractor.Ractor.writable_hash.Goals as goal

pub returns-then-not-can_write-clause-none : goal.returns-then-not-can_write-clause-none
returns-then-not-can_write-clause-none c h =
    let fit = subst (λ (m : Member). IsPublishedFit m.space m.published) c.self.view_is c.self.invariant.2.1 in
    let both = own_open hash c.args.hash c.args.self.now c.in_ok-hash.hash hash_differs fit c.in_ok-hash.ensures.is h in
    let can : can_write_at c.self.inside.space c.in_ok-hash.hash ≡ true = ap (λ (m : Member). can_write_at m.space c.in_ok-hash.hash) c.self.view_is ∙ both.0 in
    elim c.then-not-can_write.branch [
      | then-not-can_write-via-then-not-can_write w ↦ let z : false ≡ true = w.if-not-can_write.ensures ∙ can in cc
      | then-not-can_write-via-else-not-can_write+then-ne w ↦
          let k : w.kind_of.result ≡ kinds.Hash = w.kind_of.ensures ∙ ap (λ (m : Member). kind_at m.space c.in_ok-hash.hash) c.self.view_is ∙ both.1 in
          let z : true ≡ false = w.if-ne.ensures ∙ ap (λ (x : ValueKind). not (sameb the_type x kinds.Hash)) k in cc
    ]
