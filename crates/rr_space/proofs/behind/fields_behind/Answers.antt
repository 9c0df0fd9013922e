use Rattle.std.proofs.Common.{◌<◌, ◌≤◌, ◌-◌, length, arith, ◌∙◌, ap, slice_set}
use Rattle.rr_space.specs.Views.{field_behind}
use Rattle.rr_space.proofs.Shifting.{read_next, write_next, written_all, field_within, length-map_first}
use Rattle.rr_space.proofs.behind.fields_behind.Goals as goal

pub index-requires : goal.index-requires
index-requires c =
    let old = c.args.fields.now.items in
    let same = ap length c.loop-k.invariant ∙ length-map_first (field_behind c.args.count) old c.loop-k.k in
    omega (arith, same, c.args.fields.now.ok, c.loop-k.fields.ok, c.loop-k-test.true, c.len-k-end.ensures)

pub behind-requires : goal.behind-requires
behind-requires c =
    let old = c.args.fields.now.items in
    let lt : c.loop-k.k < length old = omega (arith, c.args.fields.now.ok, c.loop-k-test.true, c.len-k-end.ensures) in
    field_within (4294967296 - c.args.count) old c.loop-k.k c.index.result.now c.requires
    (read_next (field_behind c.args.count) old c.loop-k.fields.items c.loop-k.k c.index.result.now c.loop-k.invariant lt c.index.ensures)

pub replace_at-requires : goal.replace_at-requires
replace_at-requires c =
    let old = c.args.fields.now.items in
    let same = ap length c.loop-k.invariant ∙ length-map_first (field_behind c.args.count) old c.loop-k.k in
    omega (arith, same, c.args.fields.now.ok, c.loop-k.fields.ok, c.loop-k-test.true, c.len-k-end.ensures)

pub loop-k-preserved : goal.loop-k-preserved
loop-k-preserved c =
    let old = c.args.fields.now.items in
    let cur = c.loop-k.fields.items in
    let lt : c.loop-k.k < length old = omega (arith, c.args.fields.now.ok, c.loop-k-test.true, c.len-k-end.ensures) in
    write_next (field_behind c.args.count) old cur c.replace_at.new.items.items c.loop-k.k c.index.result.now c.loop-k.invariant
    (read_next (field_behind c.args.count) old cur c.loop-k.k c.index.result.now c.loop-k.invariant lt c.index.ensures)
    (c.replace_at.ensures.items ∙ ap (λ r. slice_set cur c.loop-k.k (c.index.result.now.0, r)) c.behind.ensures)

pub returns : goal.returns
returns c =
    let old = c.args.fields.now.items in
    let le : length old ≤ c.loop-k.k = omega (arith, c.args.fields.now.ok, c.loop-k-test.false, c.len-k-end.ensures) in
    written_all (field_behind c.args.count) old c.loop-k.fields.items c.loop-k.k c.loop-k.invariant le
