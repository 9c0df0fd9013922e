use Rattle.std.proofs.Common.{◌≡◌, ◌≤◌, ◌+◌, ◌∙◌, sym, ap, arith, subst, length, ◌++◌, ◌∷◌, [], map}
use Rattle.std.proofs.lemmas.List.{length-append}
use Rattle.rr_frames.specs.declared.frames.Row.{Row}
use Rattle.rr_frames.specs.Frames.{Frame, Stack, laid, list_of}
use Rattle.rr_frames.specs.Layout.{LieFrom, IsLast, frame_of}
use Rattle.rr_frames.proofs.Laid.{entered, laid_push, laid_length, last_entered}
use Rattle.rr_frames.proofs.frames.Frames.push_usual.Goals as goal

pub invariant_of-self : goal.invariant_of-self
invariant_of-self c =
    let i = c.self.inside in
    let old = i.slots.items in
    let vs = laid c.args.shape.parameters c.args.shape.size (c.args.values.now ++ list_of c.args.last) in
    let row : Row = record { base = c.len-base.result; size = c.args.shape.size; activation = c.args.activation } in
    let is : c.push_reserved.new.self.items ≡ i.rows.items ++ row ∷ [] = c.push_reserved.ensures.items in
    let base : c.len-base.result ≡ length old = omega arith in
    let sum = ap length c.lay_within.ensures ∙ length-append old vs in
    let size = laid_length c.args.shape.parameters c.args.shape.size (c.args.values.now ++ list_of c.args.last) in
    let all : length old + c.args.shape.size ≡ length c.lay_within.new.slots.items = omega arith in
    let one = length-append i.rows.items (row ∷ []) in (
      (
        subst (λ l. LieFrom 0 l (length c.lay_within.new.slots.items)) (sym is) (laid_push 0 i.rows.items (length old) row _ c.self.invariant.0.0 base all),
        subst (λ l. length l ≤ i.limit) (sym is) (omega arith),
      ),
      subst (λ l. IsLast l c.len-base.result c.args.shape.size) (sym is) (last_entered i.rows.items row),
    )

pub returns-clause-pushed : goal.returns-clause-pushed
returns-clause-pushed c = λ done.
    let i = c.self.inside in
    let old = i.slots.items in
    let xs = c.args.values.now ++ list_of c.args.last in
    let base : c.len-base.result ≡ length old = omega arith in
    let row : Row = record { base = c.len-base.result; size = c.args.shape.size; activation = c.args.activation } in
    let new : Frame = record { variables = laid c.args.shape.parameters c.args.shape.size xs; activation = c.args.activation } in
    ap (λ l. map (frame_of l) c.push_reserved.new.self.items) c.lay_within.ensures
    ∙ ap (map (frame_of (old ++ laid c.args.shape.parameters c.args.shape.size xs))) c.push_reserved.ensures.items
    ∙ entered i.rows.items row old (laid c.args.shape.parameters c.args.shape.size xs) c.self.invariant.0.0 base (laid_length c.args.shape.parameters c.args.shape.size xs)
    ∙ ap (λ (s : Stack). s.frames ++ new ∷ []) c.self.view_is
