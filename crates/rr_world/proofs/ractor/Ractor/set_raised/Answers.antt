use Rattle.std.proofs.Common.{◌∷◌, [], length, slice_get, sym, ap, subst, ◌∙◌, refl}
use Rattle.rr_space.specs.Graph.{exception}
use Rattle.rr_space.specs.Parts.{value_of, IsWithin}
use Rattle.rr_world.specs.Views.{Member, published_in}
use Rattle.rr_world.specs.Enabling.{IsOpen}
use Rattle.rr_world.specs.ObjectCases.{with_part}
use Rattle.rr_world.proofs.Changes.{open_exception, part_set, set_within, led_known, made, open_whole, set_away}
use Rattle.rr_world.proofs.Fits.{never_frozen, open_out, set_hand}
use Rattle.rr_world.proofs.Making.{exception_differs}
use Rattle.rr_world.proofs.KeyTables.{exception_stays}
use Rattle.rr_world.proofs.ractor.Ractor.set_raised.Goals as goal

pub invariant_of-self : goal.invariant_of-self
invariant_of-self c =
    let s = open_exception c.args.self.now.space c.in-Some.exception c.in-Some.ensures.some.can c.in-Some.ensures.some.kind in
    let here = ap (λ (m : Member). slice_get m.space.slots s.0) c.self.view_is ∙ s.3 in (
      set_within c.self.inside.space c.write_raised.new.self s.0 _ c.self.inside.roots.items (c.write_raised.ensures.slots s.0 s.1 s.2 here) c.self.invariant.0,
      c.self.invariant.1,
      set_hand c.self.inside.space c.write_raised.new.self s.0 s.1 _ c.self.inside.hand (c.write_raised.ensures.slots s.0 s.1 s.2 here) here (never_frozen s.1 _ s.4) c.self.invariant.2,
      set_away c.self.inside.space c.write_raised.new.self s.0 _ s.1 _ _ (c.write_raised.ensures.slots s.0 s.1 s.2 here) here (open_whole exception s.1 exception_differs s.4) c.self.invariant.3,
    )

pub returns : goal.returns
returns c =
    let s = open_exception c.args.self.now.space c.in-Some.exception c.in-Some.ensures.some.can c.in-Some.ensures.some.kind in
    let here = ap (λ (m : Member). slice_get m.space.slots s.0) c.self.view_is ∙ s.3 in
    let within = subst (λ (m : Member). IsWithin (length m.space.slots) c.in-Some.value) (sym c.self.view_is) c.in-Some.ensures.some.within in (
      c.in-Some.value,
      c.in-Some.ensures.some.value,
      made c.args.exception (IsOpen exception) (with_part c.args.part (value_of c.in-Some.value)) (c.in-Some.value ∷ []) c.in-Some.exception c.args.self.now c.self.inside.space c.write_raised.new.self c.self.inside.roots.items c.self.inside.hand c.self.inside.limits c.self.inside.runs s.0 s.1
          c.self.view_is c.in-Some.ensures.some.exception s.2 here s.4
          (c.write_raised.ensures.slots s.0 s.1 s.2 here ∙ part_set c.self.inside.space.slots s.0 s.1 c.args.part _ (value_of c.in-Some.value) c.label_of_part.ensures.is)
          (led_known c.in-Some.value s.0 c.self.inside.space.below c.write_raised.new.self.below (c.write_raised.ensures.below s.0 s.2)) c.write_raised.ensures.rest.limit c.write_raised.ensures.rest.owner c.write_raised.ensures.rest.next_message c.self.invariant.0 c.self.invariant.3 c.self.invariant.2 (open_out c.self.inside.space (published_in c.self.inside.hand) s.0 s.1 c.self.invariant.2.1 here s.4) (within, tt)
          (exception_stays (c.in-Some.value ∷ []) c.self.inside.space c.write_raised.new.self s.0 s.1 (with_part c.args.part (value_of c.in-Some.value) s.1) here
          (c.write_raised.ensures.slots s.0 s.1 s.2 here ∙ part_set c.self.inside.space.slots s.0 s.1 c.args.part _ (value_of c.in-Some.value) c.label_of_part.ensures.is) c.write_raised.ensures.keys s.4 refl),
    )
