use Rattle.std.proofs.Common.{◌∙◌, sym, ap, arith, subst, length, ◌∷◌, [], map}
use Rattle.rr_frames.specs.Frames.{Stack, left}
use Rattle.rr_frames.specs.Layout.{LieFrom, IsLast, frame_of}
use Rattle.rr_frames.proofs.Laid.{left_of, laid_pop}
use Rattle.std.proofs.lemmas.List.{length-append}
use Rattle.rr_frames.proofs.frames.Frames.pop.Goals as goal

pub invariant_of-self : goal.invariant_of-self
invariant_of-self c =
    let i = c.self.inside in
    let rows = c.pop.new.self.items in
    let was = c.in-Some.ensures.items in
    let h = laid_pop 0 rows c.in-Some.row (length i.slots.items) (subst (λ l. LieFrom 0 l (length i.slots.items)) was c.self.invariant.0.0) in
    let end = h.1 in
    let most = c.self.invariant.0.1 in
    let cut = c.truncate.ensures.len in
    let count = ap length was ∙ length-append rows (c.in-Some.row ∷ []) in
    let last = subst (λ l. IsLast l c.last_of-base.result.0 c.last_of-base.result.1) c.deref.ensures.value c.last_of-base.ensures in
    ((subst (λ n. LieFrom 0 rows n) (omega arith) h.0, omega arith), last)

pub returns-in-Some-clause-frames : goal.returns-in-Some-clause-frames
returns-in-Some-clause-frames c =
    let i = c.self.inside in
    let rows = c.pop.new.self.items in
    let was = c.in-Some.ensures.items in
    ap (λ l. map (frame_of l) rows) c.truncate.ensures.items
    ∙ left_of rows c.in-Some.row i.slots.items (subst (λ l. LieFrom 0 l (length i.slots.items)) was c.self.invariant.0.0)
    ∙ ap (λ l. left (map (frame_of i.slots.items) l)) (sym was)
    ∙ ap (λ (s : Stack). left s.frames) c.self.view_is
