use Rattle.std.proofs.Common.{◌<◌, ◌≤◌, ◌-◌, length, arith, ◌∙◌, ap, slice_set}
use Rattle.rr_space.specs.Views.{ref_behind}
use Rattle.rr_space.proofs.Removing.{place_within}
use Rattle.rr_space.proofs.Shifting.{read_next, write_next, written_all}
use Rattle.rr_space.proofs.behind.refs_behind.Goals as goal

pub behind-moved-requires : goal.behind-moved-requires
behind-moved-requires c =
    let old = c.args.items.now.items in
    let lt : c.loop-k.k < length old = omega (arith, c.args.items.now.ok, c.loop-k-test.true, c.len-k-end.ensures) in
    place_within (4294967296 - c.args.count) old c.loop-k.k 0 c.index.result.now c.requires
    (read_next (ref_behind c.args.count) old c.loop-k.items.items c.loop-k.k c.index.result.now c.loop-k.invariant lt c.index.ensures)

pub loop-k-preserved : goal.loop-k-preserved
loop-k-preserved c =
    let old = c.args.items.now.items in
    let cur = c.loop-k.items.items in
    let lt : c.loop-k.k < length old = omega (arith, c.args.items.now.ok, c.loop-k-test.true, c.len-k-end.ensures) in
    write_next (ref_behind c.args.count) old cur c.replace_at.new.items.items c.loop-k.k c.index.result.now c.loop-k.invariant
    (read_next (ref_behind c.args.count) old cur c.loop-k.k c.index.result.now c.loop-k.invariant lt c.index.ensures)
    (c.replace_at.ensures.items ∙ ap (slice_set cur c.loop-k.k) c.behind-moved.ensures)

pub returns : goal.returns
returns c =
    let old = c.args.items.now.items in
    let le : length old ≤ c.loop-k.k = omega (arith, c.args.items.now.ok, c.loop-k-test.false, c.len-k-end.ensures) in
    written_all (ref_behind c.args.count) old c.loop-k.items.items c.loop-k.k c.loop-k.invariant le
