use Rattle.std.proofs.Common.{◌∙◌, [], ap, sym}
use Rattle.rr_space.specs.Parts.{value_of}
use Rattle.rr_space.specs.Tables.{graph_of, resolve}
use Rattle.rr_text.specs.Walk.{Wrote, Deep, Shell}
use Rattle.rr_text.specs.Forms.{spelled}
use Rattle.rr_text.specs.Names.{names_of}
use Rattle.rr_text.specs.Ways.{way_of}
use Rattle.rr_text.specs.Frames.{come_to}
use Rattle.rr_text.specs.declared.walk.Going.{Going}
use Rattle.rr_text.proofs.Spelling.{filled_spelled}
use Rattle.rr_text.proofs.Turning.{printed_is}
use Rattle.rr_text.proofs.printing.text_within.Goals as goal

pub returns-in-On-clause-text : goal.returns-in-On-clause-text
returns-in-On-clause-text c = λ below read among.
    let out = c.write.new.self.out.items in
    ap Wrote (sym (filled_spelled out []))
    ∙ printed_is (names_of c.args.program.now) (graph_of c.args.space.now.slots below) c.args.levels (way_of c.args.form) (resolve c.args.space.now.slots (value_of c.args.value)) c.new-walk.result.out.items (Wrote (spelled out)) c.new-walk.ensures.out
    (c.in_ok-write.ensures.written below read among ∙ ap (λ (r : Going). come_to r (spelled out)) c.in-On.is)

pub returns-in-Deep-clause-text : goal.returns-in-Deep-clause-text
returns-in-Deep-clause-text c = λ below read among.
    printed_is (names_of c.args.program.now) (graph_of c.args.space.now.slots below) c.args.levels (way_of c.args.form) (resolve c.args.space.now.slots (value_of c.args.value)) c.new-walk.result.out.items Deep c.new-walk.ensures.out
    (c.in_ok-write.ensures.written below read among ∙ ap (λ (r : Going). come_to r (spelled c.write.new.self.out.items)) c.in-Deep.is)

pub returns-in-Shell-clause-text : goal.returns-in-Shell-clause-text
returns-in-Shell-clause-text c = λ below read among.
    printed_is (names_of c.args.program.now) (graph_of c.args.space.now.slots below) c.args.levels (way_of c.args.form) (resolve c.args.space.now.slots (value_of c.args.value)) c.new-walk.result.out.items Shell c.new-walk.ensures.out
    (c.in_ok-write.ensures.written below read among ∙ ap (λ (r : Going). come_to r (spelled c.write.new.self.out.items)) c.in-Shell.is)
