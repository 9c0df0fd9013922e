use Rattle.std.proofs.Common.{◌∷◌, [], length, slice_get, sym, ap, subst, ◌∙◌, refl}
use Rattle.rr_space.specs.Parts.{value_of, IsWithin}
use Rattle.rr_space.specs.Tables.{Table}
use Rattle.rr_world.specs.Views.{Member, IsPublishedFit, published_in}
use Rattle.rr_world.specs.Enabling.{HasFields}
use Rattle.rr_world.specs.ObjectCases.{with_field}
use Rattle.rr_world.proofs.Changes.{field_set, open_fields, set_within, led_known, made, set_away, member}
use Rattle.rr_world.proofs.Fits.{never_frozen, open_out, fields_open, fields_whole, seen_fields, set_hand}
use Rattle.rr_world.proofs.KeyTables.{fields_stay}
use Rattle.rr_world.proofs.ractor.Ractor.set_field.Goals as goal

pub invariant_of-self-2 : goal.invariant_of-self-2
invariant_of-self-2 c =
    let s = open_fields c.args.self.now.space c.in-Some.object c.in-Some.ensures.some.can c.in-Some.ensures.some.kind in
    let here = ap (λ (m : Member). slice_get m.space.slots s.0) c.self.view_is ∙ s.3 in (
      set_within c.self.inside.space c.write_field.new.self s.0 _ c.self.inside.roots.items (field_set c.args.name.0 c.in-Some.value s.0 s.1 c.self.inside.space c.write_field.new.self (λ i first. (c.in_default-write_field.ensures.present s.0 i s.1 s.2 here first).1) (λ none. c.in_default-write_field.ensures.absent s.0 s.1 s.2 here none)) c.self.invariant.0,
      c.self.invariant.1,
      set_hand c.self.inside.space c.write_field.new.self s.0 s.1 _ c.self.inside.hand (field_set c.args.name.0 c.in-Some.value s.0 s.1 c.self.inside.space c.write_field.new.self (λ i first. (c.in_default-write_field.ensures.present s.0 i s.1 s.2 here first).1) (λ none. c.in_default-write_field.ensures.absent s.0 s.1 s.2 here none)) here (never_frozen s.1 _ (fields_open s.1 s.4)) c.self.invariant.2,
      set_away c.self.inside.space c.write_field.new.self s.0 _ s.1 _ _ (field_set c.args.name.0 c.in-Some.value s.0 s.1 c.self.inside.space c.write_field.new.self (λ i first. (c.in_default-write_field.ensures.present s.0 i s.1 s.2 here first).1) (λ none. c.in_default-write_field.ensures.absent s.0 s.1 s.2 here none)) here (fields_whole s.1 s.4) c.self.invariant.3,
    )

pub returns : goal.returns
returns c =
    let s = open_fields c.args.self.now.space c.in-Some.object c.in-Some.ensures.some.can c.in-Some.ensures.some.kind in
    let here = ap (λ (m : Member). slice_get m.space.slots s.0) c.self.view_is ∙ s.3 in
    let within = subst (λ (m : Member). IsWithin (length m.space.slots) c.in-Some.value) (sym c.self.view_is) c.in-Some.ensures.some.within in (
      c.in-Some.value,
      c.in-Some.ensures.some.value,
      made c.args.object HasFields (with_field c.args.name.0 (value_of c.in-Some.value)) (c.in-Some.value ∷ []) c.in-Some.object c.args.self.now c.self.inside.space c.write_field.new.self c.self.inside.roots.items c.self.inside.hand c.self.inside.limits c.self.inside.runs s.0 s.1
          c.self.view_is c.in-Some.ensures.some.object s.2 here s.4 (field_set c.args.name.0 c.in-Some.value s.0 s.1 c.self.inside.space c.write_field.new.self (λ i first. (c.in_default-write_field.ensures.present s.0 i s.1 s.2 here first).1) (λ none. c.in_default-write_field.ensures.absent s.0 s.1 s.2 here none))
          (led_known c.in-Some.value s.0 c.self.inside.space.below c.write_field.new.self.below (c.in_default-write_field.ensures.below s.0 s.2)) c.write_field.ensures.rest.limit c.write_field.ensures.rest.owner c.write_field.ensures.rest.next_message c.self.invariant.0 c.self.invariant.3 c.self.invariant.2 (open_out c.self.inside.space (published_in c.self.inside.hand) s.0 s.1 c.self.invariant.2.1 here (fields_open s.1 s.4)) (within, tt)
          (fields_stay (c.in-Some.value ∷ []) c.self.inside.space c.write_field.new.self s.0 s.1 (with_field c.args.name.0 (value_of c.in-Some.value) s.1) here
          (field_set c.args.name.0 c.in-Some.value s.0 s.1 c.self.inside.space c.write_field.new.self (λ i first. (c.in_default-write_field.ensures.present s.0 i s.1 s.2 here first).1) (λ none. c.in_default-write_field.ensures.absent s.0 s.1 s.2 here none)) c.write_field.ensures.keys s.4 refl),
    )

pub returns-in-Err : goal.returns-in-Err
returns-in-Err c =
    let fit = subst (λ (m : Member). IsPublishedFit m.space m.published) c.self.view_is c.self.invariant.2.1 in
    let s = open_fields c.args.self.now.space c.in-Some.object c.in-Some.ensures.some.can c.in-Some.ensures.some.kind in (
      c.in-Err.ensures.fault,
      seen_fields c.args.object c.args.self.now c.in-Some.object s.0 s.1 fit c.in-Some.ensures.some.object s.2 s.3 s.4,
      (c.in-Some.value, c.in-Some.ensures.some.value),
      ap (λ (t : Table). member t c.self.inside.roots.items c.self.inside.hand c.self.inside.limits c.self.inside.runs) c.in-Err.ensures.refused ∙ c.self.view_is,
    )
