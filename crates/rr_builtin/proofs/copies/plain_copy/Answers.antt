use Rattle.std.proofs.Common.{◌∙◌}
use Rattle.rr_space.specs.Labels.{triples_at}
use Rattle.rr_builtin.proofs.Copying.{own_fields}
use Rattle.rr_builtin.proofs.copies.plain_copy.Goals as goal

pub returns-clause-whole : goal.returns-clause-whole
returns-clause-whole c = λ own. c.in_ok-fields.ensures.are ∙ own_fields (triples_at c.args.space.now c.args.object) own
