use Rattle.std.proofs.Common.{◌≡◌, ◌≤◌, ◌++◌, ◌∷◌, [], List, length, length-append, ap, sym, ◌∙◌, subst, arith, map}
use Rattle.rr_space.specs.Tables.{here_behind}
use Rattle.rr_space.specs.declared.refer.Ref.{Ref}
use Rattle.rr_move.specs.Hands.{message_in, home_in}
use Rattle.rr_world.specs.Views.{AreAway, AreRootsWithin, IsHandFit}
use Rattle.rr_world.proofs.Rooting.{roots_and_more}
use Rattle.rr_world.proofs.ractor.Ractor.open_held.Goals as goal

pub invariant_of-self-in-Ok : goal.invariant_of-self-in-Ok
invariant_of-self-in-Ok c =
    let old = c.self.inside.space.slots in
    let le : length old ≤ length c.open.new.space.slots = omega (arith, ap length c.in-Ok.ensures.opened.slots, length-append old (map (here_behind (length old)) c.in-Some.message.objects)) in
    let pushed : c.push_reserved.new.self.items ≡ c.self.inside.roots.items ++ c.in-Ok.root ∷ [] =
    c.push_reserved.ensures.items ∙ ap (λ (rs : List Ref). rs ++ c.in-Ok.root ∷ []) c.reserve.ensures.items in (
      subst (λ (rs : List Ref). AreRootsWithin (length c.open.new.space.slots) rs) (sym pushed)
          (roots_and_more (length old) (length c.open.new.space.slots) c.self.inside.roots.items c.in-Ok.root le c.self.invariant.0 c.in-Ok.ensures.within),
      c.self.invariant.1,
      subst (IsHandFit c.open.new.space) (sym c.in-Some.ensures.some.2) (tt, tt),
      subst (λ h. AreAway c.open.new.space.slots (message_in h) (home_in h)) (sym c.in-Some.ensures.some.2) tt,
    )

pub invariant_of-self-in-Ok-2 : goal.invariant_of-self-in-Ok-2
invariant_of-self-in-Ok-2 c =
    let old = c.self.inside.space.slots in
    let le : length old ≤ length c.open.new.space.slots = omega (arith, ap length c.in-Ok.ensures.opened.slots, length-append old (map (here_behind (length old)) c.in-Some.message.objects)) in
    let pushed : c.push_reserved.new.self.items ≡ c.self.inside.roots.items ++ c.in-Ok.root ∷ [] =
    c.push_reserved.ensures.items ∙ ap (λ (rs : List Ref). rs ++ c.in-Ok.root ∷ []) c.reserve.ensures.items in (
      subst (λ (rs : List Ref). AreRootsWithin (length c.open.new.space.slots) rs) (sym pushed)
          (roots_and_more (length old) (length c.open.new.space.slots) c.self.inside.roots.items c.in-Ok.root le c.self.invariant.0 c.in-Ok.ensures.within),
      c.self.invariant.1,
      subst (IsHandFit c.open.new.space) (sym c.in-Some.ensures.some.2) (tt, tt),
      subst (λ h. AreAway c.open.new.space.slots (message_in h) (home_in h)) (sym c.in-Some.ensures.some.2) tt,
    )
