use Rattle.std.proofs.Common.{◌+◌, take, subst, sym}
use Rattle.std.specs.List.{AllZip}
use Rattle.rr_copy.specs.Contents.{IsCarriedFrom}
use Rattle.rr_space.proofs.Renaming.{contains_at}
use Rattle.rr_share.proofs.Froze.{whole_here}
use Rattle.rr_share.proofs.Zips.{zip_more}
use Rattle.rr_copy.proofs.copy.copies_of.Goals as goal

pub copy_object-requires-clause-whole : goal.copy_object-requires-clause-whole
copy_object-requires-clause-whole c =
    let o = c.requires.whole c.at.result (contains_at c.args.names.now c.loop-place.place c.at.result c.at.ensures) in
    whole_here c.args.space.now.slots c.at.result o.0 o.1 o.2

pub copy_object-requires-clause-known : goal.copy_object-requires-clause-known
copy_object-requires-clause-known c = λ o l m at has.
    c.requires.closed c.at.result m o l (contains_at c.args.names.now c.loop-place.place c.at.result c.at.ensures) at has

pub loop-place-preserved : goal.loop-place-preserved
loop-place-preserved c =
    let names = c.args.names.now in
    let e = c.in_ok-copy.ensures in
    let from : IsCarriedFrom c.args.space.now names c.at.result c.in_ok-copy.copy = record { matches = e.matches; within = e.within; below = e.below; keys = e.keys } in
    subst (AllZip (IsCarriedFrom c.args.space.now names) (take (c.loop-place.place + 1) names)) (sym c.in_ok-push.ensures.items)
    (zip_more (IsCarriedFrom c.args.space.now names) names c.loop-place.copies.items c.loop-place.place c.at.result c.in_ok-copy.copy c.at.ensures c.loop-place.invariant from)
