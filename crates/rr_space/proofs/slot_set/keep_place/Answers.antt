use Rattle.std.proofs.Common.{◌≡◌, ◌∙◌, Some, length, sym, ap, subst, arith}
use Rattle.std.proofs.lemmas.Result.{on_ok_weaker}
use Rattle.rr_space.specs.Places.{HasPlaces}
use Rattle.rr_space.proofs.Paging.{places_kept, places_push}
use Rattle.rr_space.proofs.slot_set.keep_place.Goals as goal
use Rattle.rr_space.proofs.slot_set.keep_place.Goals.{then-slots-eq-FEW+in_ok-keep_places, else-slots-eq-FEW}

pub returns-clause-still : goal.returns-clause-still
returns-clause-still c =
    let slots = c.args.slots.now in
    let has : HasPlaces slots c.if-slots-eq-FEW.places = elim c.if-slots-eq-FEW.branch [
      | then-slots-eq-FEW+in_ok-keep_places w ↦ subst (HasPlaces slots) (sym w.places-is) w.in_ok-keep_places.ensures.placed
      | else-slots-eq-FEW w ↦ subst (HasPlaces slots) (sym w.places-is) (c.requires.placed (omega (arith, c.if-slots-lt-FEW.false, w.if-slots-eq-FEW.false)))
    ] in
    λ many. places_kept slots c.args.slot c.if-slots-eq-FEW.places c.set.new.self c.requires.absent c.set.ensures.kept has

pub returns-clause-placed : goal.returns-clause-placed
returns-clause-placed c =
    let slots = c.args.slots.now in
    let has : HasPlaces slots c.if-slots-eq-FEW.places = elim c.if-slots-eq-FEW.branch [
      | then-slots-eq-FEW+in_ok-keep_places w ↦ subst (HasPlaces slots) (sym w.places-is) w.in_ok-keep_places.ensures.placed
      | else-slots-eq-FEW w ↦ subst (HasPlaces slots) (sym w.places-is) (c.requires.placed (omega (arith, c.if-slots-lt-FEW.false, w.if-slots-eq-FEW.false)))
    ] in
    let still = places_kept slots c.args.slot c.if-slots-eq-FEW.places c.set.new.self c.requires.absent c.set.ensures.kept has in
    let count : c.in-Ok.place ≡ length slots = omega (arith, c.in-Ok.ensures) in
    on_ok_weaker c.set.result (λ set many. places_push slots c.args.slot c.set.new.self still (set ∙ ap Some count)) c.set.ensures.set
