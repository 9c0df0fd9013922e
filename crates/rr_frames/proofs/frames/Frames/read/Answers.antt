use Rattle.std.proofs.Common.{◌∙◌, ap, arith}
use Rattle.rr_frames.specs.Frames.{Stack, read_last}
use Rattle.rr_frames.proofs.Laid.{last_within, read_last_within, any_default}
use Rattle.rr_frames.proofs.frames.Frames.read.Goals as goal

pub overflow_add-self-inside : goal.overflow_add-self-inside
overflow_add-self-inside c =
    let i = c.self.inside in
    let lt = c.if-place-self.true in
    let h = last_within i.rows.items i.base i.size c.args.place _ c.self.invariant.0.0 c.self.invariant.1 lt in omega arith

pub index-requires : goal.index-requires
index-requires c =
    let i = c.self.inside in
    let lt = c.if-place-self.true in
    let h = last_within i.rows.items i.base i.size c.args.place _ c.self.invariant.0.0 c.self.invariant.1 lt in omega arith

pub returns-then-place-self : goal.returns-then-place-self
returns-then-place-self c =
    let i = c.self.inside in
    let lt = c.if-place-self.true in
    let h = last_within i.rows.items i.base i.size c.args.place _ c.self.invariant.0.0 c.self.invariant.1 lt in
    c.index.ensures
    ∙ any_default i.slots.items _ c.index.result.now _ (omega arith)
    ∙ read_last_within i.rows.items i.base i.size c.args.place i.slots.items c.self.invariant.1 lt
    ∙ ap (λ (s : Stack). read_last c.args.place s.frames) c.self.view_is
