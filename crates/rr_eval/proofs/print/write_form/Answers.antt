-- The text is read with the clusters that the value leads to.
use Rattle.rr_eval.specs.Published.{published}
use Rattle.rr_text.specs.Names.{names_of}
use Rattle.rr_text.specs.Ways.{way_of}
use Rattle.rr_eval.proofs.Pieces.{behind_is}
use Rattle.rr_eval.proofs.print.write_form.Goals as goal

pub returns : goal.returns
returns c = record {
  written = behind_is c.write_text.result (names_of c.args.program.now) c.args.space.now c.args.value (way_of c.args.form) (published c.args.store.now) c.args.piece.now.items c.write_text.new.out.items c.write_text.ensures.written c.requires.read c.requires.among;
  fault = c.write_text.ensures.fault;
}
