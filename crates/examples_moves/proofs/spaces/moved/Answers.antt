use Rattle.std.proofs.Common.{rules, IsTrue}
use Rattle.examples_moves.proofs.spaces.moved.Goals as goal

pub detach-requires-clause-promoted : goal.detach-requires-clause-promoted
detach-requires-clause-promoted g c = let yes : IsTrue c.in_ok-can_pack.field-0 = search rules in c.in_ok-can_pack.ensures.promoted.0 yes
