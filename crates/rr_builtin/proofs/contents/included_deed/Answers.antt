use Rattle.std.proofs.Common.{◌∙◌, ap, sym}
use Rattle.rr_text.specs.Beside.{outcome_of}
use Rattle.rr_builtin.specs.Containers.{searched_at, found_act}
use Rattle.rr_builtin.proofs.contents.included_deed.Goals as goal

pub returns-in-Same-clause-act : goal.returns-in-Same-clause-act
unfolding searched_at
returns-in-Same-clause-act c = λ below read array value. c.truth.ensures.act ∙ ap found_act (ap outcome_of (sym c.in-Same.is) ∙ c.in_ok-search.ensures.is below read array value)

pub returns-in-Differs-clause-act : goal.returns-in-Differs-clause-act
unfolding searched_at
returns-in-Differs-clause-act c = λ below read array value. c.truth-in-Differs.ensures.act ∙ ap found_act (ap outcome_of (sym c.in-Differs.is) ∙ c.in_ok-search.ensures.is below read array value)

pub returns-in-Deep-clause-act : goal.returns-in-Deep-clause-act
unfolding searched_at
returns-in-Deep-clause-act c = λ below read array value. c.raise.ensures.act ∙ ap found_act (ap outcome_of (sym c.in-Deep.is) ∙ c.in_ok-search.ensures.is below read array value)

pub returns-in-Shell-clause-act : goal.returns-in-Shell-clause-act
unfolding searched_at
returns-in-Shell-clause-act c = λ below read array value. c.raise-in-Shell.ensures.act ∙ ap found_act (ap outcome_of (sym c.in-Shell.is) ∙ c.in_ok-search.ensures.is below read array value)
