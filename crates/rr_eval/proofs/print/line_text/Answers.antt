-- A value that is no array is printed as by `puts`.
use Rattle.rr_eval.specs.Published.{published}
use Rattle.std.proofs.Common.{◌≡◌, sym, subst, IfOk}
use Rattle.rr_text.specs.Forms.{lines}
use Rattle.rr_text.specs.Names.{names_of}
use Rattle.rr_text.specs.Ways.{text_of}
use Rattle.rr_eval.proofs.Pieces.{text_is, line_other}
use Rattle.rr_eval.proofs.print.line_text.Goals as goal

pub returns-in_default : goal.returns-in_default
returns-in_default c =
    let names = names_of c.args.program.now in
    let t = c.args.space.now in
    let v = c.args.value in
    record {
      text = subst (λ w. IfOk c.text.result (λ x. text_of x ≡ w)) (line_other names t v c.kind_of.result (sym c.kind_of.ensures) c.in_default.not-Array)
          (text_is c.text.result names t v lines (published c.args.store.now) c.text.ensures.text c.requires.read c.requires.among);
      fault = c.text.ensures.fault;
    }
