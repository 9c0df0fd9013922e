use Rattle.std.proofs.Common.{ℕ, List, Contains, refl, subst, arith}
use Rattle.rr_share.proofs.Ends.{none_reached}
use Rattle.rr_copy.proofs.Packing.{none_contained}
use Rattle.rr_copy.proofs.copy.can_pack.Goals as goal

pub returns-in_default : goal.returns-in_default
returns-in_default c = record {
  promoted = (λ yes n reach share. none_reached c.args.space.now c.args.value c.len-slots.ensures.well.sound c.in_default.not-Local n reach, λ promoted. refl);
  fault = tt;
  grows = tt;
}

pub returns-clause-promoted : goal.returns-clause-promoted
returns-clause-promoted c =
    let found = c.in_ok-shareable.shareable in (
      λ yes n reach share.
          let has = subst (λ (xs : List ℕ). Contains xs n) (c.is_empty.ensures.0 yes) ((c.in_ok-shareable.ensures.exact n).1 (reach, share)) in
          omega (arith, has.1),
      λ promoted. c.is_empty.ensures.1 (none_contained found (λ n has. let r = (c.in_ok-shareable.ensures.exact n).0 has in promoted n r.0 r.1)),
    )
