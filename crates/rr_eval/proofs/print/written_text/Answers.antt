-- The text is the one of the task.
use Rattle.rr_eval.specs.Published.{published}
use Rattle.rr_eval.specs.Effects.{led}
use Rattle.std.proofs.Common.{◌≡◌, ◌∙◌, ◌++◌, ◌∷◌, [], ℕ, List, sym, ap, subst, IfOk}
use Rattle.rr_text.specs.Forms.{lines, inspected, spoken, within_text}
use Rattle.rr_text.specs.Names.{names_of}
use Rattle.rr_text.specs.Walk.{Wrote}
use Rattle.rr_text.specs.Ways.{text_of}
use Rattle.rr_builtin.specs.Objects.{printed_text}
use Rattle.rr_eval.specs.Tasks.{written_by}
use Rattle.rr_eval.proofs.Pieces.{text_is, written_else, within_none}
use Rattle.rr_eval.proofs.print.written_text.Goals as goal

pub returns-in-Puts-clause-text : goal.returns-in-Puts-clause-text
returns-in-Puts-clause-text c =
    let names = names_of c.args.program.now in
    subst (λ task. IfOk c.text.result (λ x. text_of x ≡ written_by task names c.args.space.now c.args.value)) (sym c.in-Puts.is)
    (text_is c.text.result names c.args.space.now c.args.value lines (published c.args.store.now) c.text.ensures.text c.requires.read c.requires.among)

pub returns-in_ok-push-in-Bytes-clause-text : goal.returns-in_ok-push-in-Bytes-clause-text
returns-in_ok-push-in-Bytes-clause-text c =
    let names = names_of c.args.program.now in
    let end : List ℕ → List ℕ = λ s. s ++ 10 ∷ [] in
    let is = text_is c.text-in-Inspect.result names c.args.space.now c.args.value inspected (published c.args.store.now) c.text-in-Inspect.ensures.text c.requires.read c.requires.among in
    let written = subst (λ r. IfOk r (λ x. text_of x ≡ printed_text names (led c.args.space.now (c.args.value ∷ [])) inspected c.args.space.now c.args.value)) c.in_ok-none-in-Inspect.was is in
    ap Wrote c.in_ok-push-in-Bytes.ensures.items
    ∙ ap (within_text end) (ap text_of (sym c.in-Bytes.is) ∙ written)
    ∙ ap (λ task. written_by task names c.args.space.now c.args.value) (sym c.in-Inspect.is)

pub returns-in_default-2 : goal.returns-in_default-2
returns-in_default-2 c =
    let names = names_of c.args.program.now in
    let is = text_is c.text-in-Inspect.result names c.args.space.now c.args.value inspected (published c.args.store.now) c.text-in-Inspect.ensures.text c.requires.read c.requires.among in
    let written = subst (λ r. IfOk r (λ x. text_of x ≡ printed_text names (led c.args.space.now (c.args.value ∷ [])) inspected c.args.space.now c.args.value)) c.in_ok-none-in-Inspect.was is in
    record {
      text = within_none c.in_ok-none-in-Inspect.none _ (λ s. s ++ 10 ∷ []) c.in_default-2.not-Bytes written
          ∙ ap (λ task. written_by task names c.args.space.now c.args.value) (sym c.in-Inspect.is);
      fault = tt;
    }

pub returns-in_default-clause-text : goal.returns-in_default-clause-text
returns-in_default-clause-text c =
    let names = names_of c.args.program.now in
    let t = c.args.space.now in
    subst (λ w. IfOk c.text-in_default.result (λ x. text_of x ≡ w)) (written_else c.args.task names t c.args.value c.in_default.not-Puts c.in_default.not-Inspect c.in_default.not-Lines)
    (text_is c.text-in_default.result names t c.args.value spoken (published c.args.store.now) c.text-in_default.ensures.text c.requires.read c.requires.among)

pub returns-in-Lines-clause-text : goal.returns-in-Lines-clause-text
returns-in-Lines-clause-text c =
    subst (λ task. IfOk c.line_text.result (λ x. text_of x ≡ written_by task (names_of c.args.program.now) c.args.space.now c.args.value)) (sym c.in-Lines.is) c.line_text.ensures.text
