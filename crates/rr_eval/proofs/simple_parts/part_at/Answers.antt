-- The node is that of the part.
use Rattle.std.proofs.Common.{subst, sym}
use Rattle.rr_eval.specs.SimpleParts.{IsApart}
use Rattle.rr_eval.proofs.simple_parts.part_at.Goals as goal

pub returns-in-Some-reading : goal.returns-in-Some-reading
returns-in-Some-reading c = λ links. subst (λ tree. IsApart c.args.program.now links tree c.in-Some-reading.read) (sym c.evaluated_node-node.ensures.tree) (c.in-Some-reading.ensures links)
