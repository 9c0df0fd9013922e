-- The receiver is a variable.
use Rattle.std.proofs.Common.{◌∙◌, ap, sym}
use Rattle.rr_eval.specs.SimpleParts.{named_operand}
use Rattle.rr_eval.proofs.simple_parts.attribute.Goals as goal

pub returns-in-true : goal.returns-in-true
returns-in-true c = λ links. ap (λ s. named_operand s c.args.name.0) (sym c.operand_at.ensures ∙ c.in-Variable.is)
