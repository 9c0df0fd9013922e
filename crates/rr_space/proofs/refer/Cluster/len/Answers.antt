use Rattle.rr_space.proofs.Wells.{is_sound}
use Rattle.rr_space.proofs.refer.Cluster.len.Goals as goal

pub returns-clause-sound : goal.returns-clause-sound
returns-clause-sound c = is_sound c.self.inside.number c.self.inside.nodes.items c.args.self.now c.self.view_is c.self.invariant.0
