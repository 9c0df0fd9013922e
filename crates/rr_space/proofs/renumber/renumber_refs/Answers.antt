use Rattle.std.proofs.Common.{◌<◌, ◌≤◌, length, arith}
use Rattle.rr_space.proofs.Renumbered.{begun, next_at, next, ended}
use Rattle.rr_space.proofs.renumber.renumber_refs.Goals as goal

pub loop-k-init : goal.loop-k-init
loop-k-init g c = begun (g.R.Renumber.gives c.args.by.now) c.args.items.now.items

pub renumbered-moved-requires : goal.renumbered-moved-requires
renumbered-moved-requires g c =
    let old = c.args.items.now.items in
    let lt : c.loop-k.k < length old = omega (arith, c.args.items.now.ok, c.loop-k-test.true, c.len-k-end.ensures) in
    c.requires c.loop-k.k c.index.result.now (next_at (g.R.Renumber.gives c.args.by.now) old c.loop-k.items.items c.loop-k.k c.index.result.now c.loop-k.invariant lt c.index.ensures)

pub loop-k-preserved : goal.loop-k-preserved
loop-k-preserved g c =
    let G = g.R.Renumber.gives c.args.by.now in
    let old = c.args.items.now.items in
    let cur = c.loop-k.items.items in
    let lt : c.loop-k.k < length old = omega (arith, c.args.items.now.ok, c.loop-k-test.true, c.len-k-end.ensures) in
    next G old cur c.replace_at.new.items.items c.loop-k.k c.index.result.now c.renumbered-moved.result c.loop-k.invariant
    (next_at G old cur c.loop-k.k c.index.result.now c.loop-k.invariant lt c.index.ensures) c.renumbered-moved.ensures c.replace_at.ensures.items

pub returns : goal.returns
returns g c =
    let old = c.args.items.now.items in
    let le : length old ≤ c.loop-k.k = omega (arith, c.args.items.now.ok, c.loop-k-test.false, c.len-k-end.ensures) in
    ended (g.R.Renumber.gives c.args.by.now) old c.loop-k.items.items c.loop-k.k c.loop-k.invariant le
