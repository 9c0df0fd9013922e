-- Where there is no last frame, there is none.
use Rattle.std.proofs.Common.{◌≡◌, ◌-◌, ◌∙◌, [], ◌∷◌, List, None, ap, arith, length, refl, slice_get, sym}
use Rattle.std.specs.Option.{option_map}
use Rattle.std.proofs.lemmas.Option.{none-some, slice_get-get_or}
use Rattle.rr_frames.specs.Frames.{Frame, Stack, frame_at, no_frame}
use Rattle.rr_eval.specs.Blocks.{running}
use Rattle.rr_eval.proofs.call_stack.CallStack.running.Goals as goal

no_last : (frames : List Frame) → None ≡ option_map (λ (f : Frame). f.activation) (slice_get frames (length frames - 1)) → frame_at (length frames - 1) frames ≡ no_frame
no_last [] e = refl
no_last (x ∷ xs) e = absurd (none-some _ (e ∙ ap (option_map (λ (f : Frame). f.activation)) (slice_get-get_or (x ∷ xs) (length (x ∷ xs) - 1) no_frame (omega arith))))

pub returns-in-None : goal.returns-in-None
returns-in-None c =
    let none = sym c.in-None.is ∙ c.last.ensures in
    c.no_activation.ensures ∙ sym (ap (λ (f : Frame). f.activation) (no_last c.self.inside.frames.frames none)) ∙ ap (λ (s : Stack). running s.frames) c.self.view_is
