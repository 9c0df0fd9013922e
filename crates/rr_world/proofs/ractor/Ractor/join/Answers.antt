use Rattle.std.proofs.Common.{◌≡◌, ◌++◌, ◌∷◌, [], List, length, ap, sym, ◌∙◌, subst, arith}
use Rattle.rr_space.specs.Parts.{IsWithin}
use Rattle.rr_space.specs.declared.refer.Ref.{Ref}
use Rattle.rr_world.specs.Views.{Member, AreRootsWithin}
use Rattle.rr_world.proofs.Rooting.{roots_and_more}
use Rattle.rr_world.proofs.ractor.Ractor.join.Goals as goal

pub invariant_of-self-2 : goal.invariant_of-self-2
invariant_of-self-2 c =
    let pushed : c.push_reserved.new.self.items ≡ c.self.inside.roots.items ++ c.args.value ∷ [] =
    c.push_reserved.ensures.items ∙ ap (λ (rs : List Ref). rs ++ c.args.value ∷ []) c.reserve.ensures.items in (
      subst (λ (rs : List Ref). AreRootsWithin (length c.self.inside.space.slots) rs) (sym pushed)
          (roots_and_more (length c.self.inside.space.slots) (length c.self.inside.space.slots) c.self.inside.roots.items c.args.value (omega arith) c.self.invariant.0
          (subst (λ (m : Member). IsWithin (length m.space.slots) c.args.value) (sym c.self.view_is) c.requires)),
      c.self.invariant.1,
      c.self.invariant.2,
      c.self.invariant.3,
    )
