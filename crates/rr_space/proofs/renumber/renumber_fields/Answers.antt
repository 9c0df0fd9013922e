use Rattle.std.proofs.Common.{◌<◌, ◌≤◌, length, refl, arith}
use Rattle.rr_space.specs.Views.{IsRenumberedField}
use Rattle.rr_space.proofs.Renumbered.{begun, next_at, next, ended}
use Rattle.rr_space.proofs.renumber.renumber_fields.Goals as goal

pub loop-k-init : goal.loop-k-init
loop-k-init g c = begun (IsRenumberedField (g.R.Renumber.gives c.args.by.now)) c.args.fields.now.items

pub index-requires : goal.index-requires
index-requires g c =
    let size = c.loop-k.invariant.size in
    omega (arith, size, c.args.fields.now.ok, c.loop-k.fields.ok, c.loop-k-test.true, c.len-k-end.ensures)

pub renumbered-requires : goal.renumbered-requires
renumbered-requires g c =
    let old = c.args.fields.now.items in
    let lt : c.loop-k.k < length old = omega (arith, c.args.fields.now.ok, c.loop-k-test.true, c.len-k-end.ensures) in
    c.requires c.loop-k.k c.index.result.now
    (next_at (IsRenumberedField (g.R.Renumber.gives c.args.by.now)) old c.loop-k.fields.items c.loop-k.k c.index.result.now c.loop-k.invariant lt c.index.ensures)

pub replace_at-requires : goal.replace_at-requires
replace_at-requires g c =
    let size = c.loop-k.invariant.size in
    omega (arith, size, c.args.fields.now.ok, c.loop-k.fields.ok, c.loop-k-test.true, c.len-k-end.ensures)

pub loop-k-preserved : goal.loop-k-preserved
loop-k-preserved g c =
    let G = IsRenumberedField (g.R.Renumber.gives c.args.by.now) in
    let old = c.args.fields.now.items in
    let cur = c.loop-k.fields.items in
    let x = c.index.result.now in
    let lt : c.loop-k.k < length old = omega (arith, c.args.fields.now.ok, c.loop-k-test.true, c.len-k-end.ensures) in
    next G old cur c.replace_at.new.items.items c.loop-k.k x (x.0, c.renumbered.result) c.loop-k.invariant
    (next_at G old cur c.loop-k.k x c.loop-k.invariant lt c.index.ensures) (record { name = refl; value = c.renumbered.ensures }) c.replace_at.ensures.items

pub returns : goal.returns
returns g c =
    let old = c.args.fields.now.items in
    let le : length old ≤ c.loop-k.k = omega (arith, c.args.fields.now.ok, c.loop-k-test.false, c.len-k-end.ensures) in
    ended (IsRenumberedField (g.R.Renumber.gives c.args.by.now)) old c.loop-k.fields.items c.loop-k.k c.loop-k.invariant le
