use Rattle.std.proofs.Common.{rules, arith, ◌≡◌, ◌+◌, List, [], ◌∷◌, ◌++◌, length, length-append, map, slice_get, Some, ap, sym, ◌∙◌, refl, subst, append_assoc, append-nil}
use Rattle.std.proofs.lemmas.Option.{slice_get_within}
use Rattle.rr_space.specs.Graph.{IsAt}
use Rattle.rr_space.specs.Moves.{here_home}
use Rattle.rr_space.specs.Tables.{Here}
use Rattle.rr_space.specs.Views.{carried_object, carried_below, carried_keys}
use Rattle.rr_space.specs.Views.{emptied}
use Rattle.rr_space.specs.declared.carried.Carried.{Carried}
use Rattle.rr_space.proofs.Hands.{append_left, append_right}
use Rattle.rr_space.proofs.Renaming.{contains_at, map_at}
use Rattle.rr_copy.proofs.Contained.{carried_at}
use Rattle.rr_move.proofs.Putting.{IsPutFrom, put_none, put_next, put_all_named, not_yet}
use Rattle.rr_move.proofs.reattaching.put_all.Goals as goal

-- the last of what is left stands in the whole list where the others end
last_at : (all left new done : List Carried) (o : Carried) → all ≡ left ++ done → left ≡ new ++ o ∷ [] → slice_get all (length new) ≡ Some o
last_at all left new done o whole items =
    subst (λ xs. slice_get xs (length new) ≡ Some o) (sym whole)
    (append_left left done (length new) o (subst (λ xs. slice_get xs (length new) ≡ Some o) (sym items) (append_right new (o ∷ []) 0 (length new) o (omega arith) refl)))

more_done : (all left new done : List Carried) (o : Carried) → all ≡ left ++ done → left ≡ new ++ o ∷ [] → (rest : List Carried) × (all ≡ new ++ rest)
more_done all left new done o whole items = (o ∷ done, whole ∙ ap (λ xs. xs ++ done) items ∙ append_assoc new (o ∷ []) done)

one_more : (left new : List Carried) (o : Carried) → left ≡ new ++ o ∷ [] → length left ≡ length new + 1
one_more left new o items = ap length items ∙ length-append new (o ∷ [])

pub loop-object-init : goal.loop-object-init
loop-object-init c =
    let all = c.requires.count in
    let names = c.args.slots.now in (
      ([], sym (append-nil c.args.objects.items)),
      put_none names (map (here_home names) (map carried_object c.args.objects.items)) (length c.args.objects.items) c.args.space.now.slots all,
      put_none names (map carried_below c.args.objects.items) (length c.args.objects.items) c.args.space.now.below all,
      put_none names (map carried_keys c.args.objects.items) (length c.args.objects.items) c.args.space.now.keys all,
      record { limit = refl; owner = refl; next_message = refl },
    )

pub put_back-requires-clause-shell : goal.put_back-requires-clause-shell
put_back-requires-clause-shell c =
    let names = c.args.slots.now in
    let k = length c.pop.new.self.items in
    let count : c.len.result ≡ k = search rules in
    let at : IsAt names c.at.result k = subst (λ i. slice_get names i ≡ Some c.at.result) count c.at.ensures in
    let more = one_more c.loop-object.left.items c.pop.new.self.items c.in-Some.object c.in-Some.ensures.items in
    let put = subst (λ j. IsPutFrom names (map (here_home names) (map carried_object c.args.objects.items)) j c.args.space.now.slots c.loop-object.space.slots) more c.loop-object.invariant.1 in
    not_yet names (map (here_home names) (map carried_object c.args.objects.items)) k c.args.space.now.slots c.loop-object.space.slots c.at.result c.len-places.ensures.distinct at put ∙ c.requires.shells c.at.result (contains_at names k c.at.result at)

pub put_back-requires-clause-slot : goal.put_back-requires-clause-slot
put_back-requires-clause-slot c = slice_get_within c.loop-object.space.slots c.at.result (Here emptied) (put_back-requires-clause-shell c)

pub put_back-requires-clause-within : goal.put_back-requires-clause-within
put_back-requires-clause-within c =
    let at = last_at c.args.objects.items c.loop-object.left.items c.pop.new.self.items c.loop-object.invariant.0.0 c.in-Some.object c.loop-object.invariant.0.1 c.in-Some.ensures.items in
    rw (sym c.requires.count) (carried_at (length c.args.objects.items) c.args.objects.items (length c.pop.new.self.items) c.in-Some.object c.requires.within at)

pub put_back-requires-clause-home : goal.put_back-requires-clause-home
put_back-requires-clause-home c = λ m has.
    let lt = slice_get_within c.args.space.now.slots m (Here emptied) (c.requires.shells m has) in
    let size = c.loop-object.invariant.1.size in
    omega (arith, lt, size)

pub loop-object-preserved : goal.loop-object-preserved
loop-object-preserved c =
    let names = c.args.slots.now in
    let t = c.args.space.now in
    let all = c.args.objects.items in
    let left = c.loop-object.left.items in
    let new = c.pop.new.self.items in
    let o = c.in-Some.object in
    let n = c.at.result in
    let k = length new in
    let i = c.loop-object.invariant in
    let distinct = c.len-places.ensures.distinct in
    let count : c.len.result ≡ k = search rules in
    let at : IsAt names n k = subst (λ i. slice_get names i ≡ Some n) count c.at.ensures in
    let here = last_at all left new i.0.0 o i.0.1 c.in-Some.ensures.items in
    let more = one_more left new o c.in-Some.ensures.items in
    let lt = slice_get_within t.slots n (Here emptied) (c.requires.shells n (contains_at names k n at)) in
    let well = c.len-slots.ensures.well in
    let homes = map (here_home names) (map carried_object all) in (
      more_done all left new i.0.0 o i.0.1 c.in-Some.ensures.items,
      subst (IsPutFrom names homes k t.slots) (sym c.put_back.ensures.slots) (put_next names homes k t.slots c.loop-object.space.slots n (here_home names (carried_object o)) distinct at
          (map_at (here_home names) (map carried_object all) k (carried_object o) (map_at carried_object all k o here)) lt (subst (λ j. IsPutFrom names homes j t.slots c.loop-object.space.slots) more i.1)),
      subst (IsPutFrom names (map carried_below all) k t.below) (sym c.put_back.ensures.below) (put_next names (map carried_below all) k t.below c.loop-object.space.below n (carried_below o) distinct at
          (map_at carried_below all k o here) (omega (arith, lt, well.sound.count)) (subst (λ j. IsPutFrom names (map carried_below all) j t.below c.loop-object.space.below) more i.2)),
      subst (IsPutFrom names (map carried_keys all) k t.keys) (sym c.put_back.ensures.keys) (put_next names (map carried_keys all) k t.keys c.loop-object.space.keys n (carried_keys o) distinct at
          (map_at carried_keys all k o here) (omega (arith, lt, well.keyed.count)) (subst (λ j. IsPutFrom names (map carried_keys all) j t.keys c.loop-object.space.keys) more i.3)),
      (let r = c.put_back.ensures.rest in record { limit = r.limit ∙ i.4.limit; owner = r.owner ∙ i.4.owner; next_message = r.next_message ∙ i.4.next_message }),
    )

pub returns-clause-slots : goal.returns-clause-slots
returns-clause-slots c =
    let none : length c.loop-object.left.items ≡ 0 = search rules in
    put_all_named c.args.slots.now (map (here_home c.args.slots.now) (map carried_object c.args.objects.items)) c.args.space.now.slots c.loop-object.space.slots (subst (λ j. IsPutFrom c.args.slots.now (map (here_home c.args.slots.now) (map carried_object c.args.objects.items)) j c.args.space.now.slots c.loop-object.space.slots) none c.loop-object.invariant.1)

pub returns-clause-below : goal.returns-clause-below
returns-clause-below c =
    let none : length c.loop-object.left.items ≡ 0 = search rules in
    put_all_named c.args.slots.now (map carried_below c.args.objects.items) c.args.space.now.below c.loop-object.space.below (subst (λ j. IsPutFrom c.args.slots.now (map carried_below c.args.objects.items) j c.args.space.now.below c.loop-object.space.below) none c.loop-object.invariant.2)

pub returns-clause-keys : goal.returns-clause-keys
returns-clause-keys c =
    let none : length c.loop-object.left.items ≡ 0 = search rules in
    put_all_named c.args.slots.now (map carried_keys c.args.objects.items) c.args.space.now.keys c.loop-object.space.keys (subst (λ j. IsPutFrom c.args.slots.now (map carried_keys c.args.objects.items) j c.args.space.now.keys c.loop-object.space.keys) none c.loop-object.invariant.3)
