use Rattle.std.proofs.Common.{rules, IsTrue}
use Rattle.examples_objects.proofs.tests_copy.packed.Goals as goal

pub pack_copy-requires-clause-promoted : goal.pack_copy-requires-clause-promoted
pack_copy-requires-clause-promoted g c = let yes : IsTrue c.in_ok-can_pack.field-0 = search rules in c.in_ok-can_pack.ensures.promoted.0 yes
