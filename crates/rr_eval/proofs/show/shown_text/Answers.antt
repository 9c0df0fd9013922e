-- What was said is printed as it is.
use Rattle.rr_eval.specs.Published.{published}
use Rattle.rr_eval.specs.Effects.{led}
use Rattle.std.proofs.Common.{◌≡◌, ◌∙◌, ◌++◌, ◌∷◌, [], ℕ, List, ap, subst, IfOk}
use Rattle.rr_text.specs.Forms.{spoken, within_text}
use Rattle.rr_text.specs.Names.{names_of}
use Rattle.rr_text.specs.Ways.{text_of}
use Rattle.rr_builtin.specs.Objects.{printed_text}
use Rattle.rr_eval.proofs.Pieces.{text_is}
use Rattle.rr_eval.proofs.Showing.{said_shown}
use Rattle.rr_eval.proofs.show.shown_text.Goals as goal

pub returns : goal.returns
returns c =
    let names = names_of c.args.program.now in
    let t = c.args.space.now in
    let end : List ℕ → List ℕ = λ s. s ++ 10 ∷ [] in
    let is = text_is c.text.result names t c.args.said spoken (published c.args.store.now) c.text.ensures.text c.requires.read c.requires.said in
    let written = subst (λ r. IfOk r (λ x. text_of x ≡ printed_text names (led t (c.args.said ∷ [])) spoken t c.args.said)) c.in_ok-text.was is in
    record {
      text = c.in_ok-ended.ensures ∙ ap (within_text end) written ∙ said_shown names t c.args.value c.args.said c.in_default.not-Nil;
      fault = tt;
    }
