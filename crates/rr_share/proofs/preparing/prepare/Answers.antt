use Rattle.std.proofs.Common.{◌≡◌, ◌∙◌, ℕ, List, [], Contains, IsTrue, sym, subst}
use Rattle.rr_space.specs.Moves.{IsPlanned}
use Rattle.rr_share.proofs.Searching.{none_in}
use Rattle.rr_share.proofs.Ends.{none_reached}
use Rattle.rr_share.proofs.Solids.{free_outside}
use Rattle.rr_share.proofs.Handing.{found_closed, shareable_whole, shareable_closed}
use Rattle.rr_share.proofs.preparing.prepare.Goals as goal

pub shareable_among-requires : goal.shareable_among-requires
shareable_among-requires c = found_closed c.args.space.now c.args.root c.in_ok-found.found c.in_ok-found.ensures.exact (c.in_ok-found.ensures.within c.requires)

pub plan_of-requires-clause-whole : goal.plan_of-requires-clause-whole
plan_of-requires-clause-whole c = shareable_whole c.args.space.now c.in_ok-found.found c.in_ok-places.places (c.in_ok-found.ensures.within c.requires) c.in_ok-places.ensures.exact

pub plan_of-requires-clause-closed : goal.plan_of-requires-clause-closed
plan_of-requires-clause-closed c = shareable_closed c.args.space.now c.args.root c.in_ok-found.found c.in_ok-places.places c.in_ok-found.ensures.exact c.in_ok-places.ensures.exact

pub returns-in_default : goal.returns-in_default
returns-in_default c =
    let t = c.args.space.now in
    let out = none_reached t c.args.root c.len-slots.ensures.well.sound c.in_default.not-Local in
    let none = λ (n : ℕ) (has : Contains c.new.result n). none_in n (subst (λ (xs : List ℕ). Contains xs n) c.new.ensures has) in
    record {
      prepared = record {
        exact = λ n. (λ has. absurd (none n has), λ r. absurd (out n r));
        whole = λ n has. absurd (none n has);
        promoted = λ n r s. out n r;
      };
      free = free_outside t c.args.root c.len-slots.ensures.well.sound c.in_default.not-Local;
      fault = tt;
      grows = tt;
    }

pub returns-then-is_empty-clause-prepared : goal.returns-then-is_empty-clause-prepared
returns-then-is_empty-clause-prepared c =
    let yes : IsTrue c.is_empty.result = c.if-is_empty.true in
    let none : c.in_ok-places.places ≡ [] = c.is_empty.ensures.0 yes in
    record {
      exact = c.in_ok-found.ensures.exact;
      whole = c.in_ok-found.ensures.within c.requires;
      promoted = λ n r s. none_in n (subst (λ (xs : List ℕ). Contains xs n) none ((c.in_ok-places.ensures.exact n).1 ((c.in_ok-found.ensures.exact n).1 r, s)));
    }

pub returns-clause-prepared : goal.returns-clause-prepared
returns-clause-prepared c =
    let places = c.in_ok-plan.ensures.places in
    record {
      planned = subst (IsPlanned c.args.space.now c.in_ok-plan.plan.cluster) (sym places) c.in_ok-plan.ensures.planned;
      exact = λ n. (
        λ has. let e = (c.in_ok-places.ensures.exact n).0 (subst (λ (xs : List ℕ). Contains xs n) places has) in ((c.in_ok-found.ensures.exact n).0 e.0, e.1),
        λ s. subst (λ (xs : List ℕ). Contains xs n) (sym places) ((c.in_ok-places.ensures.exact n).1 ((c.in_ok-found.ensures.exact n).1 s.0, s.1)),
      );
      number = c.in_ok-plan.ensures.number;
      below = c.in_ok-plan.ensures.below;
      sound = c.in_ok-plan.ensures.sound;
      some = λ none. let yes : IsTrue c.is_empty.result = c.is_empty.ensures.1 (sym places ∙ none) in let no = c.if-is_empty.false in absurd (cc);
    }
