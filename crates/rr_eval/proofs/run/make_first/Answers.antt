-- Nothing leads to a cluster after these objects either.
use Rattle.std.proofs.Common.{[]}
use Rattle.rr_eval.proofs.run.make_first.Goals as goal

pub returns-clause-read : goal.returns-clause-read
returns-clause-read c read = c.in_ok-make_registry.ensures.read [] (c.in_ok-make_plain.ensures.read [] (c.in_ok-itself.ensures.read [] read))
