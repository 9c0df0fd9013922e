use Rattle.std.proofs.Common.{◌∙◌, ap, arith, map}
use Rattle.rr_frames.specs.Frames.{Stack, write_at}
use Rattle.rr_frames.specs.Layout.{frame_of}
use Rattle.rr_frames.proofs.Laid.{within, write_within}
use Rattle.rr_frames.proofs.frames.Frames.set.Goals as goal

pub overflow_add-row : goal.overflow_add-row
overflow_add-row c =
    let i = c.self.inside in
    let h = within i.rows.items c.args.number _ c.index-row.result.now c.self.invariant.0.0 (omega arith, c.index-row.ensures) in
    let lt = c.if-place-row.true in omega arith

pub replace_at-requires : goal.replace_at-requires
replace_at-requires c =
    let i = c.self.inside in
    let h = within i.rows.items c.args.number _ c.index-row.result.now c.self.invariant.0.0 (omega arith, c.index-row.ensures) in
    let lt = c.if-place-row.true in omega arith

pub returns-then-place-row-clause-frames : goal.returns-then-place-row-clause-frames
returns-then-place-row-clause-frames c =
    let i = c.self.inside in
    ap (λ l. map (frame_of l) i.rows.items) c.replace_at.ensures
    ∙ write_within i.rows.items c.args.number c.args.place _ c.index-row.result.now c.args.value i.slots.items c.self.invariant.0.0 (omega arith, c.index-row.ensures) c.if-place-row.true
    ∙ ap (λ (s : Stack). write_at c.args.number c.args.place c.args.value s.frames) c.self.view_is
