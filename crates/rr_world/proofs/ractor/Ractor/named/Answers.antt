use Rattle.std.proofs.Common.{◌<◌, length, subst, refl, arith}
use Rattle.std.proofs.lemmas.Option.{slice_get_read}
use Rattle.rr_space.specs.Parts.{IsWithin}
use Rattle.rr_world.specs.Views.{Member}
use Rattle.rr_world.proofs.Operands.{root_within}
use Rattle.rr_world.proofs.ractor.Ractor.named.Goals as goal

pub returns-else-place-len-clause-within : goal.returns-else-place-len-clause-within
returns-else-place-len-clause-within c =
    let roots = c.self.inside.roots.items in
    let lt : c.in-Root.root < length roots = omega (arith, c.len.ensures, c.if-place-len.false) in
    subst (λ (m : Member). IsWithin (length m.space.slots) c.index.result.now) c.self.view_is
    (root_within (length c.self.inside.space.slots) roots c.in-Root.root c.index.result.now c.self.invariant.0
    (slice_get_read roots (length roots) c.in-Root.root c.index.result.now refl lt c.index.ensures))
