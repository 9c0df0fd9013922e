use Rattle.std.proofs.Common.{◌+◌, take, subst, sym, arith}
use Rattle.std.proofs.lemmas.List.{take_all}
use Rattle.std.specs.List.{AllZip}
use Rattle.rr_share.specs.Plans.{IsSealedFrom}
use Rattle.rr_share.proofs.Searching.{contains_at}
use Rattle.rr_share.proofs.Froze.{whole_here}
use Rattle.rr_share.proofs.Copies.{sealed_from}
use Rattle.rr_share.proofs.Zips.{zip_more}
use Rattle.rr_share.proofs.sealing.sealed_copies.Goals as goal

pub copy_object-requires-clause-whole : goal.copy_object-requires-clause-whole
copy_object-requires-clause-whole c =
    let o = c.requires.whole c.at.result (contains_at c.args.names.now c.loop-place.place c.at.result c.at.ensures) in
    whole_here c.args.space.now.slots c.at.result o.0 o.1 o.2

pub copy_object-requires-clause-known : goal.copy_object-requires-clause-known
copy_object-requires-clause-known c = λ o l m at has.
    c.requires.closed c.at.result m o l (contains_at c.args.names.now c.loop-place.place c.at.result c.at.ensures) at has

pub loop-place-preserved : goal.loop-place-preserved
loop-place-preserved c =
    let t = c.args.space.now in
    let names = c.args.names.now in
    let e = c.in_ok-copy.ensures in
    let s = c.in_ok-sealed in
    let o = c.requires.whole c.at.result (contains_at names c.loop-place.place c.at.result c.at.ensures) in
    subst (AllZip (IsSealedFrom t names) (take (c.loop-place.place + 1) names)) (sym c.in_ok-push.ensures.items)
    (zip_more (IsSealedFrom t names) names c.loop-place.copies.items c.loop-place.place c.at.result s.field-0 c.at.ensures c.loop-place.invariant
    (sealed_from t names c.at.result c.in_ok-copy.copy s.field-0 o.0 o.1 o.3 e.matches e.within e.below s.ensures.object s.ensures.parts))

pub returns-clause-copies : goal.returns-clause-copies
returns-clause-copies c =
    subst (λ xs. AllZip (IsSealedFrom c.args.space.now c.args.names.now) xs c.loop-place.copies.items) (take_all c.loop-place.place c.args.names.now (omega (arith, c.len-place-end.ensures.len, c.loop-place-test.false))) c.loop-place.invariant
