use Rattle.std.proofs.Common.{[], slice_get, ap, ◌∙◌, refl}
use Rattle.std.specs.Prelude.{slice_set}
use Rattle.rr_space.specs.Graph.{text}
use Rattle.rr_space.specs.Tables.{Here}
use Rattle.rr_world.specs.Views.{Member, published_in}
use Rattle.rr_world.specs.Enabling.{IsOpen}
use Rattle.rr_world.specs.ObjectCases.{cleared}
use Rattle.rr_world.proofs.Changes.{open_text, set_within, kept_known, made, open_whole, set_away}
use Rattle.rr_world.proofs.Fits.{never_frozen, open_out, set_hand}
use Rattle.rr_world.proofs.Making.{text_differs}
use Rattle.rr_world.proofs.KeyTables.{text_stays}
use Rattle.rr_world.proofs.ractor.Ractor.clear_text.Goals as goal

pub invariant_of-self : goal.invariant_of-self
invariant_of-self c =
    let s = open_text c.args.self.now.space c.in-Some.text c.in-Some.ensures.some.can c.in-Some.ensures.some.kind in
    let here = ap (λ (m : Member). slice_get m.space.slots s.0) c.self.view_is ∙ s.3 in (
      set_within c.self.inside.space c.write_text.new.self s.0 _ c.self.inside.roots.items (c.write_text.ensures.slots s.0 s.1 s.2 here) c.self.invariant.0,
      c.self.invariant.1,
      set_hand c.self.inside.space c.write_text.new.self s.0 s.1 _ c.self.inside.hand (c.write_text.ensures.slots s.0 s.1 s.2 here) here (never_frozen s.1 _ s.4) c.self.invariant.2,
      set_away c.self.inside.space c.write_text.new.self s.0 _ s.1 _ _ (c.write_text.ensures.slots s.0 s.1 s.2 here) here (open_whole text s.1 text_differs s.4) c.self.invariant.3,
    )

pub returns : goal.returns
returns c =
    let s = open_text c.args.self.now.space c.in-Some.text c.in-Some.ensures.some.can c.in-Some.ensures.some.kind in
    let here = ap (λ (m : Member). slice_get m.space.slots s.0) c.self.view_is ∙ s.3 in
    made c.args.text (IsOpen text) cleared [] c.in-Some.text c.args.self.now c.self.inside.space c.write_text.new.self c.self.inside.roots.items c.self.inside.hand c.self.inside.limits c.self.inside.runs s.0 s.1
    c.self.view_is c.in-Some.ensures.some.text s.2 here s.4
    (c.write_text.ensures.slots s.0 s.1 s.2 here ∙ ap (λ bs. slice_set c.self.inside.space.slots s.0 (Here (record s.1 { bytes = bs }))) c.new.ensures.items)
    (kept_known c.self.inside.space.below c.write_text.new.self.below c.write_text.ensures.below) c.write_text.ensures.rest.limit c.write_text.ensures.rest.owner c.write_text.ensures.rest.next_message c.self.invariant.0 c.self.invariant.3 c.self.invariant.2 (open_out c.self.inside.space (published_in c.self.inside.hand) s.0 s.1 c.self.invariant.2.1 here s.4) tt
    (text_stays [] c.self.inside.space c.write_text.new.self s.0 s.1 (cleared s.1) here
    (c.write_text.ensures.slots s.0 s.1 s.2 here ∙ ap (λ bs. slice_set c.self.inside.space.slots s.0 (Here (record s.1 { bytes = bs }))) c.new.ensures.items) c.write_text.ensures.keys s.4 refl refl)
