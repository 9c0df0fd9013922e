use Rattle.std.proofs.Common.{◌≡◌, Some, ⊎_elim, inl, inr, [], ◌∷◌, length, slice_get, sym, ap, subst, ◌∙◌, refl}
use Rattle.std.specs.Option.{option_map}
use Rattle.rr_space.specs.Graph.{hash}
use Rattle.rr_space.specs.Parts.{value_of, IsWithin}
use Rattle.rr_space.specs.Sound.{IsWell}
use Rattle.rr_space.specs.Tables.{Table}
use Rattle.rr_space.specs.Views.{key_of}
use Rattle.rr_world.specs.Views.{Member, IsPublishedFit, published_in}
use Rattle.rr_world.specs.Enabling.{HasPair, HasPairs}
use Rattle.rr_world.specs.ObjectCases.{with_value, with_pair}
use Rattle.rr_world.specs.Changing.{HasRootsWithin}
use Rattle.rr_world.specs.Pairing.{IsReadable, HasKeys}
use Rattle.rr_space.specs.Lookups.{key_at}
use Rattle.rr_world.proofs.Changes.{open_hash, set_within, led_both, made, open_whole, set_away, member}
use Rattle.rr_world.proofs.Fits.{never_frozen, open_out, seen_slot, set_hand}
use Rattle.rr_world.proofs.Making.{hash_differs}
use Rattle.rr_world.proofs.PairTriples.{hash_keys, pair_object, pair_written}
use Rattle.rr_world.proofs.KeyTables.{value_stays, pair_stays}
use Rattle.rr_world.proofs.ractor.Ractor.set_pair.Goals as goal

pub invariant_of-self-2 : goal.invariant_of-self-2
invariant_of-self-2 c =
    let s = open_hash c.args.self.now.space c.in-Some.hash c.in-Some.ensures.hash.can c.in-Some.ensures.hash.kind in
    let here = ap (λ (m : Member). slice_get m.space.slots s.0) c.self.view_is ∙ s.3 in
    let sp = c.self.inside.space in
    let now = c.write_pair.new.self in
    let k = hash_keys sp c.in-Some.hash s.0 s.1 c.len-slots.ensures.well s.2 here s.4.0 in
    let z = pair_written sp now c.in-Some.name c.in-Some.value s.0 s.1 k.0 (key_of c.in-Ok-Some.key) c.find-place.result s.4 k.3 (c.find-place.ensures.own k.0 k.2)
    (λ i first. let y = c.in_default-write_pair.ensures.present s.0 i s.1 k.0 s.2 here k.1 first in (y.1, y.2)) (λ none. c.in_default-write_pair.ensures.absent s.0 s.1 k.0 s.2 here k.1 none) in
    let p = pair_object sp now s.0 s.1 k.0 (key_of c.in-Ok-Some.key) c.in-Some.name c.in-Some.value z in (
      set_within sp now s.0 _ c.self.inside.roots.items p.1 c.self.invariant.0,
      c.self.invariant.1,
      set_hand sp now s.0 s.1 _ c.self.inside.hand p.1 here (never_frozen s.1 _ s.4) c.self.invariant.2,
      set_away sp now s.0 _ s.1 _ _ p.1 here (open_whole hash s.1 hash_differs s.4) c.self.invariant.3,
    )

pub returns : goal.returns
returns c =
    let s = open_hash c.args.self.now.space c.in-Some.hash c.in-Some.ensures.hash.can c.in-Some.ensures.hash.kind in
    let here = ap (λ (m : Member). slice_get m.space.slots s.0) c.self.view_is ∙ s.3 in
    let sp = c.self.inside.space in
    let now = c.write_pair.new.self in
    let k = hash_keys sp c.in-Some.hash s.0 s.1 c.len-slots.ensures.well s.2 here s.4.0 in
    let z = pair_written sp now c.in-Some.name c.in-Some.value s.0 s.1 k.0 (key_of c.in-Ok-Some.key) c.find-place.result s.4 k.3 (c.find-place.ensures.own k.0 k.2)
    (λ i first. let y = c.in_default-write_pair.ensures.present s.0 i s.1 k.0 s.2 here k.1 first in (y.1, y.2)) (λ none. c.in_default-write_pair.ensures.absent s.0 s.1 k.0 s.2 here k.1 none) in
    let key_is : key_at sp c.in-Some.name ≡ Some (key_of c.in-Ok-Some.key) = sym c.in-Ok-Some.ensures.key ∙ ap (option_map key_of) c.in-Ok-Some.field-0-is in
    let readable : IsReadable c.args.self.now = record {
      well = subst (λ (m : Member). IsWell m.space) c.self.view_is c.len-slots.ensures.well;
      roots = subst HasRootsWithin c.self.view_is c.self.invariant.0;
      fit = subst (λ (m : Member). IsPublishedFit m.space m.published) c.self.view_is c.self.invariant.2.1;
    } in
    let has : HasKeys c.args.hash c.args.self.now k.0 = record {
      slot = s.0;
      named = c.in-Some.ensures.hash.hash ∙ ap (λ r. Some r) s.2;
      here = ap (λ (m : Member). slice_get m.space.keys s.0) (sym c.self.view_is) ∙ k.1;
      distinct = c.find-place.ensures.distinct k.0 k.2;
    } in
    let named = c.in-Some.ensures.key in
    let within_key = subst (λ (m : Member). IsWithin (length m.space.slots) c.in-Some.name) (sym c.self.view_is) named.within in
    let within = subst (λ (m : Member). IsWithin (length m.space.slots) c.in-Some.value) (sym c.self.view_is) c.in-Some.ensures.within in
    let below = led_both c.in-Some.name c.in-Some.value s.0 sp.below now.below (c.in_default-write_pair.ensures.below s.0 s.2) in
    let out = open_out sp (published_in c.self.inside.hand) s.0 s.1 c.self.invariant.2.1 here s.4 in (
      c.in-Some.name,
      c.in-Some.value,
      readable,
      named,
      c.in-Some.ensures.value,
      (
        key_of c.in-Ok-Some.key,
        k.0,
        ap (λ (m : Member). key_at m.space c.in-Some.name) (sym c.self.view_is) ∙ key_is,
        has,
        ⊎_elim
            (λ y. inl (
              y.0,
              y.1,
              made c.args.hash (HasPair y.0) (with_value y.0 (value_of c.in-Some.value)) (c.in-Some.name ∷ c.in-Some.value ∷ []) c.in-Some.hash c.args.self.now sp now c.self.inside.roots.items c.self.inside.hand c.self.inside.limits c.self.inside.runs s.0 s.1
                  c.self.view_is c.in-Some.ensures.hash.hash s.2 here y.2 y.3 below c.write_pair.ensures.rest.limit c.write_pair.ensures.rest.owner c.write_pair.ensures.rest.next_message c.self.invariant.0 c.self.invariant.3 c.self.invariant.2 out (within_key, (within, tt))
                  (value_stays (c.in-Some.name ∷ c.in-Some.value ∷ []) sp now s.0 y.0 s.1 c.in-Some.value here y.3 y.4 s.4),
            ))
            (λ y. inr (
              y.0,
              length k.0,
              made c.args.hash (HasPairs (length k.0)) (with_pair (length k.0) (value_of c.in-Some.name) (value_of c.in-Some.value)) (c.in-Some.name ∷ c.in-Some.value ∷ []) c.in-Some.hash c.args.self.now sp now c.self.inside.roots.items c.self.inside.hand c.self.inside.limits c.self.inside.runs s.0 s.1
                  c.self.view_is c.in-Some.ensures.hash.hash s.2 here y.1 y.2 below c.write_pair.ensures.rest.limit c.write_pair.ensures.rest.owner c.write_pair.ensures.rest.next_message c.self.invariant.0 c.self.invariant.3 c.self.invariant.2 out (within_key, (within, tt))
                  (pair_stays sp now s.0 s.1 k.0 (key_of c.in-Ok-Some.key) c.in-Some.name c.in-Some.value here y.2 y.3 s.4 k.1 k.3 key_is),
            ))
            z,
      ),
    )

pub returns-in-Err : goal.returns-in-Err
returns-in-Err c =
    let readable : IsReadable c.args.self.now = record {
      well = subst (λ (m : Member). IsWell m.space) c.self.view_is c.len-slots.ensures.well;
      roots = subst HasRootsWithin c.self.view_is c.self.invariant.0;
      fit = subst (λ (m : Member). IsPublishedFit m.space m.published) c.self.view_is c.self.invariant.2.1;
    } in
    let s = open_hash c.args.self.now.space c.in-Some.hash c.in-Some.ensures.hash.can c.in-Some.ensures.hash.kind in (
      c.in-Err.ensures.fault,
      readable,
      seen_slot c.args.hash c.args.self.now c.in-Some.hash s.0 s.1 readable.fit c.in-Some.ensures.hash.hash s.2 s.3 s.4,
      (c.in-Some.name, c.in-Some.ensures.key),
      (c.in-Some.value, c.in-Some.ensures.value),
      refl,
    )

pub returns-in-Err-write_pair : goal.returns-in-Err-write_pair
returns-in-Err-write_pair c =
    let readable : IsReadable c.args.self.now = record {
      well = subst (λ (m : Member). IsWell m.space) c.self.view_is c.len-slots.ensures.well;
      roots = subst HasRootsWithin c.self.view_is c.self.invariant.0;
      fit = subst (λ (m : Member). IsPublishedFit m.space m.published) c.self.view_is c.self.invariant.2.1;
    } in
    let s = open_hash c.args.self.now.space c.in-Some.hash c.in-Some.ensures.hash.can c.in-Some.ensures.hash.kind in (
      c.in-Err-write_pair.ensures.fault,
      readable,
      seen_slot c.args.hash c.args.self.now c.in-Some.hash s.0 s.1 readable.fit c.in-Some.ensures.hash.hash s.2 s.3 s.4,
      (c.in-Some.name, c.in-Some.ensures.key),
      (c.in-Some.value, c.in-Some.ensures.value),
      ap (λ (t : Table). member t c.self.inside.roots.items c.self.inside.hand c.self.inside.limits c.self.inside.runs) c.in-Err-write_pair.ensures.refused ∙ c.self.view_is,
    )
