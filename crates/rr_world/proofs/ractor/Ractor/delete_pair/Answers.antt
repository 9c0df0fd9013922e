use Rattle.std.proofs.Common.{◌≡◌, ◌<◌, ◌*◌, ◌+◌, [], length, slice_get, slice_set, sym, ap, subst, ◌∙◌, refl, arith}
use Rattle.std.proofs.lemmas.Option.{same_Some}
use Rattle.rr_space.specs.Graph.{hash}
use Rattle.rr_space.specs.Tables.{Table, Here}
use Rattle.rr_space.specs.declared.refer.Ref.TheVariants.{Local}
use Rattle.rr_world.specs.Views.{Member, IsPublishedFit, published_in}
use Rattle.rr_world.specs.Enabling.{HasPair}
use Rattle.rr_world.specs.ObjectCases.{without_pair}
use Rattle.rr_world.specs.Changing.{HasRootsWithin}
use Rattle.rr_world.proofs.Changes.{open_hash, set_within, led_less, made, open_whole, set_away, member}
use Rattle.rr_world.proofs.Fits.{never_frozen, open_out, own_slot, set_hand}
use Rattle.rr_world.proofs.Making.{hash_differs}
use Rattle.rr_world.proofs.PairTriples.{hash_keys, pair_taken_is}
use Rattle.rr_world.proofs.KeyTables.{taken_stays}
use Rattle.rr_world.proofs.ractor.Ractor.delete_pair.Goals as goal

pub returns-in_default-delete_pair : goal.returns-in_default-delete_pair
returns-in_default-delete_pair c = (
  subst HasRootsWithin c.self.view_is c.self.invariant.0,
  λ may.
      let fit = subst (λ (m : Member). IsPublishedFit m.space m.published) c.self.view_is c.self.invariant.2.1 in
      let s = own_slot c.args.hash (HasPair c.args.place) c.args.self.now fit may in
      let one : c.in-Some.hash ≡ Local s.0 = same_Some _ _ (sym c.in-Some.ensures.some.hash ∙ s.2) in
      let here = ap (λ (m : Member). slice_get m.space.slots s.0) c.self.view_is ∙ s.3 in
      let k = hash_keys c.self.inside.space c.in-Some.hash s.0 s.1 c.len-slots.ensures.well one here s.4.0.0 in
      let lt : c.args.place < length k.0 = let l = s.4.1 in let many = k.3 in omega (arith, l, many) in
      let some = (c.in_default-delete_pair.ensures.keys s.0 k.0 one k.1).0.1 lt in
      absurd (let z : ⊥ = cc in z),
  ap (λ (t : Table). member t c.self.inside.roots.items c.self.inside.hand c.self.inside.limits c.self.inside.runs) c.in_default-delete_pair.ensures.none ∙ c.self.view_is,
)

pub invariant_of-self-2 : goal.invariant_of-self-2
invariant_of-self-2 c =
    let s = open_hash c.args.self.now.space c.in-Some.hash c.in-Some.ensures.some.can c.in-Some.ensures.some.kind in
    let here = ap (λ (m : Member). slice_get m.space.slots s.0) c.self.view_is ∙ s.3 in
    let sp = c.self.inside.space in
    let now = c.delete_pair.new.self in
    let taken = c.in-Some-delete_pair.ensures.slots s.0 s.1 s.2 here in
    let slots : now.slots ≡ slice_set sp.slots s.0 (Here (without_pair c.args.place s.1)) = taken.3 ∙ ap (λ p. slice_set sp.slots s.0 (Here p)) (pair_taken_is s.1 taken.0 c.args.place taken.1) in (
      set_within sp now s.0 _ c.self.inside.roots.items slots c.self.invariant.0,
      c.self.invariant.1,
      set_hand sp now s.0 s.1 _ c.self.inside.hand slots here (never_frozen s.1 _ s.4) c.self.invariant.2,
      set_away sp now s.0 _ s.1 _ _ slots here (open_whole hash s.1 hash_differs s.4) c.self.invariant.3,
    )

pub returns : goal.returns
returns c =
    let s = open_hash c.args.self.now.space c.in-Some.hash c.in-Some.ensures.some.can c.in-Some.ensures.some.kind in
    let here = ap (λ (m : Member). slice_get m.space.slots s.0) c.self.view_is ∙ s.3 in
    let sp = c.self.inside.space in
    let now = c.delete_pair.new.self in
    let taken = c.in-Some-delete_pair.ensures.slots s.0 s.1 s.2 here in
    let slots : now.slots ≡ slice_set sp.slots s.0 (Here (without_pair c.args.place s.1)) = taken.3 ∙ ap (λ p. slice_set sp.slots s.0 (Here p)) (pair_taken_is s.1 taken.0 c.args.place taken.1) in
    let k = hash_keys sp c.in-Some.hash s.0 s.1 c.len-slots.ensures.well s.2 here s.4.0 in
    let lt : c.args.place < length k.0 = (c.in-Some-delete_pair.ensures.keys s.0 k.0 s.2 k.1).0.0 refl in
    let inside : 2 * c.args.place + 1 < length s.1.triples = let many = k.3 in omega (arith, lt, many) in
    made c.args.hash (HasPair c.args.place) (without_pair c.args.place) [] c.in-Some.hash c.args.self.now sp now c.self.inside.roots.items c.self.inside.hand c.self.inside.limits c.self.inside.runs s.0 s.1
    c.self.view_is c.in-Some.ensures.some.hash s.2 here (s.4, inside) slots
    (led_less s.0 sp.below now.below (c.in-Some-delete_pair.ensures.below s.0 s.2)) c.delete_pair.ensures.rest.limit c.delete_pair.ensures.rest.owner c.delete_pair.ensures.rest.next_message c.self.invariant.0 c.self.invariant.3 c.self.invariant.2 (open_out sp (published_in c.self.inside.hand) s.0 s.1 c.self.invariant.2.1 here s.4) tt
    (taken_stays [] sp now s.0 c.args.place s.1 (without_pair c.args.place s.1) taken.0 k.0 here slots (sym (pair_taken_is s.1 taken.0 c.args.place taken.1)) taken.1 (c.in-Some-delete_pair.ensures.keys s.0 k.0 s.2 k.1).1 s.4 k.1)
