-- A line end stands behind the text.
use Rattle.std.proofs.Common.{◌∙◌, ◌++◌, ◌∷◌, [], ℕ, List, ap, sym}
use Rattle.rr_text.specs.Forms.{within_text}
use Rattle.rr_text.specs.Walk.{Wrote}
use Rattle.rr_text.specs.Ways.{text_of}
use Rattle.rr_eval.proofs.show.ended.Goals as goal

pub returns-in_ok-push-in-Bytes : goal.returns-in_ok-push-in-Bytes
returns-in_ok-push-in-Bytes c =
    let end : List ℕ → List ℕ = λ s. s ++ 10 ∷ [] in
    ap Wrote c.in_ok-push-in-Bytes.ensures.items ∙ ap (λ x. within_text end (text_of x)) (sym c.in-Bytes.is)
