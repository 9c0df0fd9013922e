use Rattle.std.proofs.Common.{◌≡◌, ◌≤◌, ◌+◌, ◌++◌, ◌∷◌, [], List, length, length-append, ap, sym, ◌∙◌, subst, arith}
use Rattle.rr_space.specs.Parts.{IsWithin}
use Rattle.rr_space.specs.Tables.{Here}
use Rattle.rr_world.specs.ObjectCases.{new_object}
use Rattle.rr_space.specs.declared.refer.Ref.{Ref}
use Rattle.rr_space.specs.declared.refer.Ref.TheVariants.{Local}
use Rattle.rr_move.specs.Hands.{message_in, home_in}
use Rattle.rr_world.specs.Views.{AreAway, AreRootsWithin}
use Rattle.rr_world.proofs.Changes.{away_more}
use Rattle.rr_world.proofs.Fits.{hand_more}
use Rattle.rr_world.proofs.Hands.{alloc_by}
use Rattle.rr_world.proofs.Rooting.{roots_and_more}
use Rattle.rr_world.proofs.ractor.Ractor.alloc.Goals as goal

pub invariant_of-self-in-Ok : goal.invariant_of-self-in-Ok
invariant_of-self-in-Ok c =
    let old = c.self.inside.space.slots in
    let count : length c.alloc_empty.new.space.slots ≡ length old + 1 = ap length c.in-Ok.ensures.slots ∙ length-append old (Here (new_object c.args.new) ∷ []) in
    let le : length old ≤ length c.alloc_empty.new.space.slots = omega (arith, count) in
    let pushed : c.push_reserved.new.self.items ≡ c.self.inside.roots.items ++ c.in-Ok.root ∷ [] =
    c.push_reserved.ensures.items ∙ ap (λ (rs : List Ref). rs ++ c.in-Ok.root ∷ []) c.reserve.ensures.items in (
      subst (λ (rs : List Ref). AreRootsWithin (length c.alloc_empty.new.space.slots) rs) (sym pushed)
          (roots_and_more (length old) (length c.alloc_empty.new.space.slots) c.self.inside.roots.items c.in-Ok.root le c.self.invariant.0
          (subst (λ (r : Ref). IsWithin (length c.alloc_empty.new.space.slots) r) (sym c.in-Ok.ensures.name) (omega (arith, count)))),
      c.self.invariant.1,
      hand_more c.self.inside.space c.alloc_empty.new.space (new_object c.args.new) c.self.inside.hand c.in-Ok.ensures.slots c.self.invariant.2,
      subst (λ ss. AreAway ss (message_in c.self.inside.hand) (home_in c.self.inside.hand)) (sym c.in-Ok.ensures.slots) (away_more c.self.inside.space.slots (Here (new_object c.args.new) ∷ []) (message_in c.self.inside.hand) (home_in c.self.inside.hand) c.self.invariant.3),
    )

pub returns-in-Ok : goal.returns-in-Ok
returns-in-Ok c =
    let sp = c.self.inside.space in
    let pushed : c.push_reserved.new.self.items ≡ c.self.inside.roots.items ++ Local (length sp.slots) ∷ [] =
    c.push_reserved.ensures.items ∙ ap (λ (rs : List Ref). rs ++ c.in-Ok.root ∷ []) c.reserve.ensures.items ∙ ap (λ (r : Ref). c.self.inside.roots.items ++ r ∷ []) c.in-Ok.ensures.name in
    alloc_by c.args.new c.args.self.now sp c.alloc_empty.new.space c.self.inside.roots.items c.push_reserved.new.self.items c.self.inside.hand c.self.inside.limits c.self.inside.runs c.self.view_is
    c.in-Ok.ensures.room c.in-Ok.ensures.slots c.in-Ok.ensures.below c.in-Ok.ensures.keys c.alloc_empty.ensures.even
    c.alloc_empty.ensures.rest pushed c.self.invariant.0 c.self.invariant.2 c.self.invariant.3
