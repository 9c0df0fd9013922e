use Rattle.std.proofs.Common.{[], ◌≡◌, refl, ◌<◌, length, slice_get, sym, ap, subst, ◌∙◌, arith}
use Rattle.rr_space.specs.Graph.{array}
use Rattle.rr_space.specs.Labels.{triples_at}
use Rattle.rr_space.specs.declared.refer.Ref.TheVariants.{Local, Nil}
use Rattle.std.proofs.lemmas.Option.{same_Some}
use Rattle.rr_world.specs.Views.{Member, IsPublishedFit, published_in}
use Rattle.rr_world.specs.Enabling.{HasElement}
use Rattle.rr_world.specs.ObjectCases.{without}
use Rattle.rr_world.specs.Changing.{HasRootsWithin}
use Rattle.rr_world.proofs.Changes.{open_array, at_slot, set_within, led_less, made, open_whole, set_away}
use Rattle.rr_world.proofs.Fits.{never_frozen, open_out, own_slot, set_hand}
use Rattle.rr_world.proofs.Making.{array_differs}
use Rattle.rr_world.proofs.Taking.{taken_slots}
use Rattle.rr_world.proofs.KeyTables.{array_stays}
use Rattle.rr_world.proofs.ractor.Ractor.take_element.Goals as goal

pub returns-in_default : goal.returns-in_default
returns-in_default c = (
  subst HasRootsWithin c.self.view_is c.self.invariant.0,
  λ may. c.in_default.ensures.none (may.0, may.1, may.2, may.3.0) (Nil, refl),
  refl,
)

pub returns-then-place-arity : goal.returns-then-place-arity
returns-then-place-arity c = (
  subst HasRootsWithin c.self.view_is c.self.invariant.0,
  λ may.
      let fit = subst (λ (m : Member). IsPublishedFit m.space m.published) c.self.view_is c.self.invariant.2.1 in
      let s = own_slot c.args.array (HasElement c.args.place) c.args.self.now fit may in
      let one : c.in-Some.array ≡ Local s.0 = same_Some _ _ (sym c.in-Some.ensures.some.array ∙ s.2) in
      let e = ap length (at_slot c.args.self.now.space c.in-Some.array s.0 s.1 one s.3) in
      let count = ap (λ (m : Member). length (triples_at m.space c.in-Some.array)) c.self.view_is in
      let lt = s.4.1 in
      omega (arith, e, count, lt, c.if-place-arity.true, c.arity.ensures.count),
  refl,
)

pub invariant_of-self : goal.invariant_of-self
invariant_of-self c =
    let s = open_array c.args.self.now.space c.in-Some.array c.in-Some.ensures.some.can c.in-Some.ensures.some.kind in
    let here = ap (λ (m : Member). slice_get m.space.slots s.0) c.self.view_is ∙ s.3 in
    let there : c.args.place < length (triples_at c.self.inside.space c.in-Some.array) = let f = c.if-place-arity.false in omega (arith, f, c.arity.ensures.count) in
    let slots = taken_slots c.take_element-element.result c.self.inside.space.slots c.take_element-element.new.self.slots s.0 c.args.place s.1 (c.take_element-element.ensures.some.1 there) (c.take_element-element.ensures.slots s.0 s.1 s.2 here) in (
      set_within c.self.inside.space c.take_element-element.new.self s.0 _ c.self.inside.roots.items slots c.self.invariant.0,
      c.self.invariant.1,
      set_hand c.self.inside.space c.take_element-element.new.self s.0 s.1 _ c.self.inside.hand slots here (never_frozen s.1 _ s.4) c.self.invariant.2,
      set_away c.self.inside.space c.take_element-element.new.self s.0 _ s.1 _ _ slots here (open_whole array s.1 array_differs s.4) c.self.invariant.3,
    )

pub returns : goal.returns
returns c =
    let s = open_array c.args.self.now.space c.in-Some.array c.in-Some.ensures.some.can c.in-Some.ensures.some.kind in
    let here = ap (λ (m : Member). slice_get m.space.slots s.0) c.self.view_is ∙ s.3 in
    let inside : c.args.place < length s.1.triples = let e = ap length (at_slot c.self.inside.space c.in-Some.array s.0 s.1 s.2 here) in let f = c.if-place-arity.false in omega (arith, e, f, c.arity.ensures.count) in
    let there : c.args.place < length (triples_at c.self.inside.space c.in-Some.array) = let f = c.if-place-arity.false in omega (arith, f, c.arity.ensures.count) in
    let slots = taken_slots c.take_element-element.result c.self.inside.space.slots c.take_element-element.new.self.slots s.0 c.args.place s.1 (c.take_element-element.ensures.some.1 there) (c.take_element-element.ensures.slots s.0 s.1 s.2 here) in
    made c.args.array (HasElement c.args.place) (without c.args.place) [] c.in-Some.array c.args.self.now c.self.inside.space c.take_element-element.new.self c.self.inside.roots.items c.self.inside.hand c.self.inside.limits c.self.inside.runs s.0 s.1
    c.self.view_is c.in-Some.ensures.some.array s.2 here (s.4, inside) slots
    (led_less s.0 c.self.inside.space.below c.take_element-element.new.self.below (c.take_element-element.ensures.below s.0 s.2)) c.take_element-element.ensures.rest.limit c.take_element-element.ensures.rest.owner c.take_element-element.ensures.rest.next_message c.self.invariant.0 c.self.invariant.3 c.self.invariant.2 (open_out c.self.inside.space (published_in c.self.inside.hand) s.0 s.1 c.self.invariant.2.1 here s.4) tt
    (array_stays [] c.self.inside.space c.take_element-element.new.self s.0 s.1 (without c.args.place s.1) here slots c.take_element-element.ensures.keys s.4 refl)
