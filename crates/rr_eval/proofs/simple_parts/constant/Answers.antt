-- No class of the program has the name.
use Rattle.std.proofs.Common.{◌∙◌, ap, refl, sym}
use Rattle.rr_base.specs.ClassNames.{class_named}
use Rattle.rr_eval.proofs.simple_parts.constant.Goals as goal

pub returns-in-None : goal.returns-in-None
returns-in-None c = λ links. (refl, sym c.own_class.ensures ∙ c.in-None.is, c.named-class.ensures ∙ ap class_named c.symbol_bytes.ensures)
