use Rattle.std.proofs.Common.{◌≡◌, ◌≤◌, ◌+◌, ◌∙◌, sym, ap, arith, subst, length, ◌++◌, ◌∷◌, [], map}
use Rattle.std.specs.Prelude.{slice_index_or}
use Rattle.std.proofs.lemmas.List.{get_or-map, length-append}
use Rattle.rr_frames.specs.declared.activation.Activation.{Activation}
use Rattle.rr_frames.specs.declared.frames.Row.{Row}
use Rattle.rr_frames.specs.Frames.{Frame, Stack, frame_at, laid, list_of, no_frame}
use Rattle.rr_frames.specs.Layout.{LieFrom, IsLast, frame_of, no_row}
use Rattle.rr_frames.proofs.Laid.{entered, laid_push, laid_length, last_entered}
use Rattle.rr_frames.proofs.frames.Frames.push_inside.Goals as goal

pub invariant_of-self : goal.invariant_of-self
invariant_of-self c =
    let i = c.self.inside in
    let old = i.slots.items in
    let vs = laid c.args.shape.parameters c.args.shape.size (c.args.values.now ++ list_of c.args.last) in
    let row : Row = record { base = c.len-base.result; size = c.args.shape.size; activation = record c.in-Some.outside.now.activation { home = c.args.home } } in
    let is : c.push_reserved.new.self.items ≡ i.rows.items ++ row ∷ [] = c.push_reserved.ensures.items in
    let base : c.len-base.result ≡ length old = omega arith in
    let sum = ap length c.lay_within.ensures ∙ length-append old vs in
    let size = laid_length c.args.shape.parameters c.args.shape.size (c.args.values.now ++ list_of c.args.last) in
    let all : length old + c.args.shape.size ≡ length c.lay_within.new.slots.items = omega arith in
    let one = length-append i.rows.items (row ∷ []) in (
      (
        subst (λ l. LieFrom 0 l (length c.lay_within.new.slots.items)) (sym is) (laid_push 0 i.rows.items (length old) row _ c.self.invariant.0.0 base all),
        subst (λ l. length l ≤ i.limit) (sym is) (omega arith),
      ),
      subst (λ l. IsLast l c.len-base.result c.args.shape.size) (sym is) (last_entered i.rows.items row),
    )

pub returns-clause-pushed : goal.returns-clause-pushed
returns-clause-pushed c = λ done.
    let i = c.self.inside in
    let old = i.slots.items in
    let xs = c.args.values.now ++ list_of c.args.last in
    let base : c.len-base.result ≡ length old = omega arith in
    let row : Row = record { base = c.len-base.result; size = c.args.shape.size; activation = record c.in-Some.outside.now.activation { home = c.args.home } } in
    let new : Frame = record { variables = laid c.args.shape.parameters c.args.shape.size xs; activation = record c.in-Some.outside.now.activation { home = c.args.home } } in
    let there : length c.deref.result.now ≡ length i.rows.items = ap length c.deref.ensures.value in
    let read = c.in-Some.ensures.lookup.3 in
    let below = read.0 in
    let outside : slice_index_or i.rows.items c.args.home no_row ≡ c.in-Some.outside.now = ap (λ l. slice_index_or l c.args.home no_row) (sym c.deref.ensures.value) ∙ sym (read.1 no_row) in
    let beside : (frame_at c.args.home c.args.self.now.frames).activation ≡ c.in-Some.outside.now.activation =
    ap (λ (s : Stack). (frame_at c.args.home s.frames).activation) (sym c.self.view_is)
    ∙ ap (λ (f : Frame). f.activation) (get_or-map (frame_of i.slots.items) i.rows.items c.args.home no_row no_frame (omega arith))
    ∙ ap (λ (r : Row). r.activation) outside in
    ap (λ l. map (frame_of l) c.push_reserved.new.self.items) c.lay_within.ensures
    ∙ ap (map (frame_of (old ++ laid c.args.shape.parameters c.args.shape.size xs))) c.push_reserved.ensures.items
    ∙ entered i.rows.items row old (laid c.args.shape.parameters c.args.shape.size xs) c.self.invariant.0.0 base (laid_length c.args.shape.parameters c.args.shape.size xs)
    ∙ ap (λ (s : Stack). s.frames ++ new ∷ []) c.self.view_is
    ∙ ap (λ (a : Activation). c.args.self.now.frames ++ record { variables = laid c.args.shape.parameters c.args.shape.size xs; activation = record a { home = c.args.home } } ∷ []) (sym beside)
