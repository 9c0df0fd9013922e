use Rattle.std.proofs.Common.{◌∷◌, [], length, slice_get, sym, ap, subst, ◌∙◌, refl}
use Rattle.rr_space.specs.Graph.{array}
use Rattle.rr_space.specs.Parts.{value_of, IsWithin}
use Rattle.rr_space.specs.Tables.{Table}
use Rattle.rr_world.specs.Views.{Member, IsPublishedFit, published_in}
use Rattle.rr_world.specs.Enabling.{IsOpen}
use Rattle.rr_world.specs.ObjectCases.{pushed}
use Rattle.rr_world.proofs.Changes.{open_array, set_within, led_known, made, open_whole, set_away, member}
use Rattle.rr_world.proofs.Fits.{never_frozen, open_out, seen_slot, set_hand}
use Rattle.rr_world.proofs.Making.{array_differs}
use Rattle.rr_world.proofs.KeyTables.{array_stays}
use Rattle.rr_world.proofs.ractor.Ractor.push.Goals as goal

pub invariant_of-self-2 : goal.invariant_of-self-2
invariant_of-self-2 c =
    let s = open_array c.args.self.now.space c.in-Some.array c.in-Some.ensures.some.can c.in-Some.ensures.some.kind in
    let here = ap (λ (m : Member). slice_get m.space.slots s.0) c.self.view_is ∙ s.3 in (
      set_within c.self.inside.space c.push_element.new.self s.0 _ c.self.inside.roots.items (c.in_default-push_element.ensures.slots s.0 s.1 s.2 here) c.self.invariant.0,
      c.self.invariant.1,
      set_hand c.self.inside.space c.push_element.new.self s.0 s.1 _ c.self.inside.hand (c.in_default-push_element.ensures.slots s.0 s.1 s.2 here) here (never_frozen s.1 _ s.4) c.self.invariant.2,
      set_away c.self.inside.space c.push_element.new.self s.0 _ s.1 _ _ (c.in_default-push_element.ensures.slots s.0 s.1 s.2 here) here (open_whole array s.1 array_differs s.4) c.self.invariant.3,
    )

pub returns : goal.returns
returns c =
    let s = open_array c.args.self.now.space c.in-Some.array c.in-Some.ensures.some.can c.in-Some.ensures.some.kind in
    let here = ap (λ (m : Member). slice_get m.space.slots s.0) c.self.view_is ∙ s.3 in
    let within = subst (λ (m : Member). IsWithin (length m.space.slots) c.in-Some.value) (sym c.self.view_is) c.in-Some.ensures.some.within in (
      c.in-Some.value,
      c.in-Some.ensures.some.value,
      made c.args.array (IsOpen array) (pushed (value_of c.in-Some.value)) (c.in-Some.value ∷ []) c.in-Some.array c.args.self.now c.self.inside.space c.push_element.new.self c.self.inside.roots.items c.self.inside.hand c.self.inside.limits c.self.inside.runs s.0 s.1
          c.self.view_is c.in-Some.ensures.some.array s.2 here s.4 (c.in_default-push_element.ensures.slots s.0 s.1 s.2 here)
          (led_known c.in-Some.value s.0 c.self.inside.space.below c.push_element.new.self.below (c.in_default-push_element.ensures.below s.0 s.2)) c.push_element.ensures.rest.limit c.push_element.ensures.rest.owner c.push_element.ensures.rest.next_message c.self.invariant.0 c.self.invariant.3 c.self.invariant.2 (open_out c.self.inside.space (published_in c.self.inside.hand) s.0 s.1 c.self.invariant.2.1 here s.4) (within, tt)
          (array_stays (c.in-Some.value ∷ []) c.self.inside.space c.push_element.new.self s.0 s.1 (pushed (value_of c.in-Some.value) s.1) here (c.in_default-push_element.ensures.slots s.0 s.1 s.2 here) c.push_element.ensures.keys s.4 refl),
    )

pub returns-in-Err : goal.returns-in-Err
returns-in-Err c =
    let fit = subst (λ (m : Member). IsPublishedFit m.space m.published) c.self.view_is c.self.invariant.2.1 in
    let s = open_array c.args.self.now.space c.in-Some.array c.in-Some.ensures.some.can c.in-Some.ensures.some.kind in (
      c.in-Err.ensures.fault,
      seen_slot c.args.array c.args.self.now c.in-Some.array s.0 s.1 fit c.in-Some.ensures.some.array s.2 s.3 s.4,
      (c.in-Some.value, c.in-Some.ensures.some.value),
      ap (λ (t : Table). member t c.self.inside.roots.items c.self.inside.hand c.self.inside.limits c.self.inside.runs) c.in-Err.ensures.refused ∙ c.self.view_is,
    )
