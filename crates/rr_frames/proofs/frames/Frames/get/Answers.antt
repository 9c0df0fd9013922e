use Rattle.std.proofs.Common.{◌≤◌, ◌∙◌, sym, ap, arith, refl, length}
use Rattle.std.proofs.lemmas.List.{get_or_past, get_or_read_under}
use Rattle.std.specs.Prelude.{slice_index_or}
use Rattle.rr_frames.specs.declared.frames.Row.{Row}
use Rattle.rr_frames.specs.Frames.{Stack, read_at}
use Rattle.rr_frames.specs.Layout.{no_row}
use Rattle.rr_frames.proofs.Laid.{Found, within, read_within, read_past, any_default}
use Rattle.rr_frames.proofs.frames.Frames.get.Goals as goal
use Rattle.rr_frames.proofs.frames.Frames.get.Goals.{then-number-len+else-place-row, else-number-len}

pub overflow_add-row : goal.overflow_add-row
overflow_add-row c =
    let i = c.self.inside in
    let h = within i.rows.items c.args.number _ c.index-row.result.now c.self.invariant.0.0 (omega arith, c.index-row.ensures) in
    let lt = c.if-place-row.true in omega arith

pub index-requires : goal.index-requires
index-requires c =
    let i = c.self.inside in
    let h = within i.rows.items c.args.number _ c.index-row.result.now c.self.invariant.0.0 (omega arith, c.index-row.ensures) in
    let lt = c.if-place-row.true in omega arith

pub returns-then-place-row : goal.returns-then-place-row
returns-then-place-row c =
    let i = c.self.inside in
    let found : Found i.rows.items c.args.number c.index-row.result.now = (omega arith, c.index-row.ensures) in
    let h = within i.rows.items c.args.number _ c.index-row.result.now c.self.invariant.0.0 found in
    let lt = c.if-place-row.true in
    c.index.ensures
    ∙ any_default i.slots.items _ c.index.result.now _ (omega arith)
    ∙ sym (read_within i.rows.items c.args.number c.args.place c.index-row.result.now i.slots.items found lt)
    ∙ ap (λ (s : Stack). read_at c.args.number c.args.place s.frames) c.self.view_is

pub returns : goal.returns
returns c =
    let i = c.self.inside in
    let none : (slice_index_or i.rows.items c.args.number no_row).size ≤ c.args.place = elim c.if-number-len.branch [
      | then-number-len+else-place-row w ↦
          let lt = w.if-number-len.true in
          let ge = w.if-place-row.false in
          let is = get_or_read_under i.rows.items c.args.number (length i.rows.items) w.index-row.result.now no_row w.index-row.ensures (omega arith) refl in
          let e = ap (λ (r : Row). r.size) is in omega arith
      | else-number-len w ↦
          let ge = w.if-number-len.false in
          let is = get_or_past i.rows.items c.args.number no_row (omega arith) in
          let e = ap (λ (r : Row). r.size) is in omega arith
    ] in
    read_past i.rows.items c.args.number c.args.place i.slots.items none
    ∙ ap (λ (s : Stack). read_at c.args.number c.args.place s.frames) c.self.view_is
