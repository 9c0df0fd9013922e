use Rattle.std.proofs.Common.{◌≡◌, ◌∙◌, List, [], ℕ, map, Contains, sym, ap, subst}
use Rattle.rr_space.specs.Moves.{IsPlanned}
use Rattle.rr_space.specs.Parts.{sealed_object, below_all}
use Rattle.rr_space.specs.Tables.{Whole}
use Rattle.rr_share.proofs.Searching.{none_in}
use Rattle.rr_share.proofs.Places.{none_distinct}
use Rattle.rr_share.proofs.Ends.{none_reached}
use Rattle.rr_share.proofs.Solids.{free_outside}
use Rattle.rr_share.proofs.Copies.{copies_below, copies_planned, no_copies}
use Rattle.rr_share.proofs.Handing.{found_closed, shareable_whole, shareable_closed}
use Rattle.rr_share.proofs.planning.plan.Goals as goal

pub returns-in_default : goal.returns-in_default
returns-in_default c =
    let t = c.args.space.now in
    let w = c.new-in_default-3.result.cluster in
    let ss = c.new.result.items in
    let own : w.own ≡ map sealed_object ss = ap (λ (x : Whole). x.own) c.new-in_default-3.ensures.cluster ∙ c.in_ok-new.ensures.own in
    let below : w.below ≡ below_all ss = ap (λ (x : Whole). x.below) c.new-in_default-3.ensures.cluster ∙ c.in_ok-new.ensures.below in
    let none : c.new-in_default-3.result.places ≡ [] = c.new-in_default-3.ensures.places ∙ c.new-in_default-2.ensures in
    let z = no_copies t ss c.new.ensures.items in
    record {
      planned = subst (IsPlanned t w) (sym none) (copies_planned t [] ss w own below z none_distinct (λ n has. absurd (none_in n has)));
      exact = λ n. (λ has. absurd (none_in n (subst (λ xs. Contains xs n) none has)), λ s. absurd (none_reached t c.args.root c.len-slots.ensures.well.sound c.in_default.not-Local n s.0));
      number = ap (λ (x : Whole). x.number) c.new-in_default-3.ensures.cluster ∙ c.in_ok-new.ensures.number;
      below = copies_below t [] ss w own below z;
      sound = c.new-in_default-3.ensures.sound;
      free = free_outside t c.args.root c.len-slots.ensures.well.sound c.in_default.not-Local;
      fault = tt;
      grows = tt;
    }

pub shareable_among-requires : goal.shareable_among-requires
shareable_among-requires c = found_closed c.args.space.now c.args.root c.in_ok-found.found c.in_ok-found.ensures.exact (c.in_ok-found.ensures.within c.requires)

pub plan_of-requires-clause-whole : goal.plan_of-requires-clause-whole
plan_of-requires-clause-whole c = shareable_whole c.args.space.now c.in_ok-found.found c.in_ok-places.places (c.in_ok-found.ensures.within c.requires) c.in_ok-places.ensures.exact

pub plan_of-requires-clause-closed : goal.plan_of-requires-clause-closed
plan_of-requires-clause-closed c = shareable_closed c.args.space.now c.args.root c.in_ok-found.found c.in_ok-places.places c.in_ok-found.ensures.exact c.in_ok-places.ensures.exact

pub returns-clause-planned : goal.returns-clause-planned
returns-clause-planned c = subst (IsPlanned c.args.space.now c.in_ok-plan.plan.cluster) (sym c.in_ok-plan.ensures.places) c.in_ok-plan.ensures.planned

pub returns-clause-exact : goal.returns-clause-exact
returns-clause-exact c = λ n. (
  λ has. let e = (c.in_ok-places.ensures.exact n).0 (subst (λ (xs : List ℕ). Contains xs n) c.in_ok-plan.ensures.places has) in ((c.in_ok-found.ensures.exact n).0 e.0, e.1),
  λ s. subst (λ (xs : List ℕ). Contains xs n) (sym c.in_ok-plan.ensures.places) ((c.in_ok-places.ensures.exact n).1 ((c.in_ok-found.ensures.exact n).1 s.0, s.1)),
)
