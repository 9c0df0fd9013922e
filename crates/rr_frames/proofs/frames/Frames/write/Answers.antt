use Rattle.std.proofs.Common.{◌∙◌, ap, arith, map}
use Rattle.rr_frames.specs.Frames.{Stack, write_last}
use Rattle.rr_frames.specs.Layout.{frame_of}
use Rattle.rr_frames.proofs.Laid.{last_within, write_last_within}
use Rattle.rr_frames.proofs.frames.Frames.write.Goals as goal

pub overflow_add-self-inside : goal.overflow_add-self-inside
overflow_add-self-inside c =
    let i = c.self.inside in
    let lt = c.if-place-self.true in
    let h = last_within i.rows.items i.base i.size c.args.place _ c.self.invariant.0.0 c.self.invariant.1 lt in omega arith

pub replace_at-requires : goal.replace_at-requires
replace_at-requires c =
    let i = c.self.inside in
    let lt = c.if-place-self.true in
    let h = last_within i.rows.items i.base i.size c.args.place _ c.self.invariant.0.0 c.self.invariant.1 lt in omega arith

pub returns-then-place-self : goal.returns-then-place-self
returns-then-place-self c =
    let i = c.self.inside in
    ap (λ l. record { frames = map (frame_of l) i.rows.items; limit = i.limit }) c.replace_at.ensures
    ∙ ap (λ fs. record { frames = fs; limit = i.limit }) (write_last_within i.rows.items i.base i.size c.args.place c.args.other i.slots.items c.self.invariant.0.0 c.self.invariant.1 c.if-place-self.true)
    ∙ ap (λ (s : Stack). record s { frames = write_last c.args.place c.args.other s.frames }) c.self.view_is
