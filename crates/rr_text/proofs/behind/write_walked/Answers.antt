use Rattle.std.proofs.Common.{◌∙◌, ◌++◌, refl, sym, ap}
use Rattle.rr_text.specs.Ways.{text_of}
use Rattle.rr_text.proofs.behind.write_walked.Goals as goal

pub returns-in_ok-extend_from_slice-in-Bytes-clause-written : goal.returns-in_ok-extend_from_slice-in-Bytes-clause-written
returns-in_ok-extend_from_slice-in-Bytes-clause-written c = λ below read among.
    (c.in-Bytes.bytes.items, sym (c.in_ok-bytes.ensures.text below read among) ∙ ap text_of c.in-Bytes.is, c.in_ok-extend_from_slice-in-Bytes.ensures.items ∙ ap (λ s. c.args.out.now.items ++ s) c.deref.ensures.value)

pub returns-in-Deep-clause-written : goal.returns-in-Deep-clause-written
returns-in-Deep-clause-written c = λ below read among. (sym (c.in_ok-bytes.ensures.text below read among) ∙ ap text_of c.in-Deep.is, refl)

pub returns-in-Shell-clause-written : goal.returns-in-Shell-clause-written
returns-in-Shell-clause-written c = λ below read among. (sym (c.in_ok-bytes.ensures.text below read among) ∙ ap text_of c.in-Shell.is, refl)
