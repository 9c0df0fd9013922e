use Rattle.std.proofs.Common.{◌∙◌, ap, sym}
use Rattle.rr_text.specs.Beside.{outcome_of}
use Rattle.rr_builtin.specs.Calls.{compared_at, walked_equality}
use Rattle.rr_builtin.proofs.calls.walked_equality.Goals as goal

pub returns-in-Same-clause-act : goal.returns-in-Same-clause-act
unfolding compared_at
returns-in-Same-clause-act c = λ below read value operand. c.equality.ensures.act ∙ ap (walked_equality c.args.operator) (ap outcome_of (sym c.in-Same.is) ∙ c.in_ok-compare.ensures.is below read value operand)

pub returns-in-Differs-clause-act : goal.returns-in-Differs-clause-act
unfolding compared_at
returns-in-Differs-clause-act c = λ below read value operand. c.equality-in-Differs.ensures.act ∙ ap (walked_equality c.args.operator) (ap outcome_of (sym c.in-Differs.is) ∙ c.in_ok-compare.ensures.is below read value operand)

pub returns-in-Deep-clause-act : goal.returns-in-Deep-clause-act
unfolding compared_at
returns-in-Deep-clause-act c = λ below read value operand. c.raise.ensures.act ∙ ap (walked_equality c.args.operator) (ap outcome_of (sym c.in-Deep.is) ∙ c.in_ok-compare.ensures.is below read value operand)

pub returns-in-Shell-clause-act : goal.returns-in-Shell-clause-act
unfolding compared_at
returns-in-Shell-clause-act c = λ below read value operand. c.raise-in-Shell.ensures.act ∙ ap (walked_equality c.args.operator) (ap outcome_of (sym c.in-Shell.is) ∙ c.in_ok-compare.ensures.is below read value operand)
