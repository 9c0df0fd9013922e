use Rattle.rr_space.proofs.space.Space.read.Goals as goal

pub returns-in-Field-clause-none : goal.returns-in-Field-clause-none
returns-in-Field-clause-none c = rw c.in-Field.is c.read_field.ensures.none
