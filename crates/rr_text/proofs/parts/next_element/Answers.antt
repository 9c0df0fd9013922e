use Rattle.std.proofs.Common.{◌∙◌, ℕ, List, ◌++◌, codes, ap, sym}
use Rattle.rr_text.specs.Frames.{lead_at}
use Rattle.rr_text.specs.declared.walk.Shape.TheVariants.{Elements}
use Rattle.rr_text.proofs.Turning.{element_turned, elements_closed, closing_is}
use Rattle.rr_text.proofs.parts.next_element.Goals as goal

pub returns-in_ok-push_lead-in-Some-clause-turned : goal.returns-in_ok-push_lead-in-Some-clause-turned
returns-in_ok-push_lead-in-Some-clause-turned c = λ names below read among. (
  lead_at c.args.top.next (codes ", "),
  element_turned names c.args.space.now below c.requires.well.sound read c.args.top among c.requires.end c.in-Some.ensures.label c.in-Some.value c.requires.shape c.in-Some.ensures.here,
  c.in_ok-push_lead-in-Some.ensures,
)

pub returns-in_ok-push-in-None-clause-turned : goal.returns-in_ok-push-in-None-clause-turned
returns-in_ok-push-in-None-clause-turned c = λ names below read among. (
  elements_closed names c.args.space.now below c.requires.well.sound read c.args.top among c.requires.end c.requires.shape c.in-None.ensures,
  c.in_ok-push-in-None.ensures.items ∙ ap (λ (s : List ℕ). c.args.out.now.items ++ s) (sym (closing_is names c.args.space.now below c.requires.well.sound read c.args.top among c.requires.end Elements c.requires.shape)),
)
