use Rattle.std.proofs.Common.{◌∙◌, ℕ, List, [], ◌++◌, ap, sym}
use Rattle.std.proofs.lemmas.List.{append-nil}
use Rattle.rr_text.specs.declared.walk.Shape.TheVariants.{Lines}
use Rattle.rr_text.proofs.Turning.{line_turned, lines_closed, closing_is}
use Rattle.rr_text.proofs.parts.next_line.Goals as goal

pub returns-in-Some-clause-turned : goal.returns-in-Some-clause-turned
returns-in-Some-clause-turned c = λ names below out read among.
    ([], line_turned names c.args.space.now below c.requires.well.sound read c.args.top among c.requires.end c.in-Some.ensures.label c.in-Some.value c.requires.shape c.in-Some.ensures.here, sym (append-nil out))

pub returns-in-None-clause-turned : goal.returns-in-None-clause-turned
returns-in-None-clause-turned c = λ names below out read among. (
  lines_closed names c.args.space.now below c.requires.well.sound read c.args.top among c.requires.end c.requires.shape c.in-None.ensures,
  sym (append-nil out) ∙ ap (λ (s : List ℕ). out ++ s) (sym (closing_is names c.args.space.now below c.requires.well.sound read c.args.top among c.requires.end Lines c.requires.shape)),
)
