use Rattle.rr_space.proofs.Wells.{well_is}
use Rattle.rr_space.proofs.space.Space.len.Goals as goal

pub returns-clause-well : goal.returns-clause-well
returns-clause-well c = well_is c.self.inside.slots.items c.self.inside.limit c.self.inside.owner.0 c.self.inside.next_message c.args.self.now c.self.view_is c.self.invariant
