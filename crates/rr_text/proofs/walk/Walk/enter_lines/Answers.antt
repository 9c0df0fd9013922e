use Rattle.std.proofs.Common.{◌∙◌, [], codes}
use Rattle.rr_space.specs.Parts.{value_of}
use Rattle.rr_text.specs.Forms.{spelled}
use Rattle.rr_text.specs.Frames.{thing_in}
use Rattle.rr_text.specs.declared.walk.Frame.{Frame}
use Rattle.rr_text.specs.declared.walk.Shape.TheVariants.{Lines}
use Rattle.rr_text.proofs.Looking.{entered_shows, line_some}
use Rattle.rr_text.proofs.walk.Walk.enter_lines.Goals as goal

pub returns-clause-showed : goal.returns-clause-showed
returns-clause-showed c = λ names g asks i some e.
    let f : Frame = record { shape = Lines; object = c.args.array; next = 0 } in
    entered_shows names g asks c.args.levels c.args.self.now.frames.items c.enter.new.self.frames.items f (spelled c.args.self.now.out.items) (spelled c.enter.new.self.out.items) (codes "[...]\n") [] i
    (e ∙ line_some names g (value_of c.args.array) (thing_in names g (value_of c.args.array)).triples some) c.in_ok-going.going c.in_ok-going.ensures.entered
