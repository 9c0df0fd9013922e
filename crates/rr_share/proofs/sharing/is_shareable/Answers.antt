use Rattle.rr_space.specs.Parts.{value_of}
use Rattle.rr_space.specs.Tables.{resolve}
use Rattle.rr_share.proofs.Solids.{solid_is_shareable}
use Rattle.rr_share.proofs.sharing.is_shareable.Goals as goal

pub returns-clause-exact : goal.returns-clause-exact
returns-clause-exact c =
    let t = c.args.space.now in
    let law = solid_is_shareable t (resolve t.slots (value_of c.args.root)) c.in_ok-found.found c.len-slots.ensures.well.sound c.in_ok-found.ensures.exact in
    (λ yes. law.1 (c.are_solid.ensures.0 yes), λ all. c.are_solid.ensures.1 (law.0 all))
