use Rattle.std.proofs.Common.{◌∙◌, ap, sym}
use Rattle.rr_text.specs.Ways.{text_of}
use Rattle.rr_builtin.specs.Objects.{told, printed_text}
use Rattle.rr_builtin.proofs.objects.told.Goals as goal

pub returns-in-Bytes-clause-act : goal.returns-in-Bytes-clause-act
unfolding printed_text
returns-in-Bytes-clause-act c = λ below read among. ap told (sym (ap text_of c.in-Bytes.is) ∙ c.in_ok-bytes.ensures.text below read among)

pub returns-in-Deep-clause-act : goal.returns-in-Deep-clause-act
unfolding printed_text
returns-in-Deep-clause-act c = λ below read among. c.raise.ensures.act ∙ ap told (sym (ap text_of c.in-Deep.is) ∙ c.in_ok-bytes.ensures.text below read among)

pub returns-in-Shell-clause-act : goal.returns-in-Shell-clause-act
unfolding printed_text
returns-in-Shell-clause-act c = λ below read among. c.raise-in-Shell.ensures.act ∙ ap told (sym (ap text_of c.in-Shell.is) ∙ c.in_ok-bytes.ensures.text below read among)
