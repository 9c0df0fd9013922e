use Rattle.std.proofs.Common.{codes}
use Rattle.rr_text.specs.Forms.{spelled}
use Rattle.rr_text.specs.declared.walk.Frame.{Frame}
use Rattle.rr_text.specs.declared.walk.Shape.TheVariants.{Elements}
use Rattle.rr_text.proofs.Looking.{entered_shows}
use Rattle.rr_text.proofs.walk.Walk.enter_elements.Goals as goal

pub returns-clause-showed : goal.returns-clause-showed
returns-clause-showed c = λ names g asks i e.
    let f : Frame = record { shape = Elements; object = c.args.array; next = 0 } in
    entered_shows names g asks c.args.levels c.args.self.now.frames.items c.enter.new.self.frames.items f (spelled c.args.self.now.out.items) (spelled c.enter.new.self.out.items) (codes "[...]") (codes "[") i
    e c.in_ok-going.going c.in_ok-going.ensures.entered
