-- A part that is no chain is what it is behind any links.
use Rattle.rr_eval.proofs.simple_parts.part_behind.Goals as goal

pub returns-2-clause-part : goal.returns-2-clause-part
returns-2-clause-part c = c.part_at-part.ensures c.in_default-2.links.items
