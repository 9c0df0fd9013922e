use Rattle.std.proofs.Common.{◌∙◌, ap, sym}
use Rattle.rr_text.specs.Joining.{outcome_of}
use Rattle.rr_builtin.specs.Objects.{told}
use Rattle.rr_builtin.specs.Joins.{joined_at}
use Rattle.rr_builtin.proofs.joins.joined.Goals as goal

pub returns-in-Bytes-clause-act : goal.returns-in-Bytes-clause-act
unfolding joined_at
returns-in-Bytes-clause-act c = λ below read among. ap told (sym (ap outcome_of c.in-Bytes.is) ∙ c.in_ok-bytes.ensures.is below read among)

pub returns-in-Deep-clause-act : goal.returns-in-Deep-clause-act
unfolding joined_at
returns-in-Deep-clause-act c = λ below read among. c.raise.ensures.act ∙ ap told (sym (ap outcome_of c.in-Deep.is) ∙ c.in_ok-bytes.ensures.is below read among)

pub returns-in-Circular-clause-act : goal.returns-in-Circular-clause-act
unfolding joined_at
returns-in-Circular-clause-act c = λ below read among. c.raise-in-Circular.ensures.act ∙ ap told (sym (ap outcome_of c.in-Circular.is) ∙ c.in_ok-bytes.ensures.is below read among)

pub returns-in-Shell-clause-act : goal.returns-in-Shell-clause-act
unfolding joined_at
returns-in-Shell-clause-act c = λ below read among. c.raise-in-Shell.ensures.act ∙ ap told (sym (ap outcome_of c.in-Shell.is) ∙ c.in_ok-bytes.ensures.is below read among)
