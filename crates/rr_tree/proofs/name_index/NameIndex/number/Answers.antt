-- The index has each name.
use Rattle.std.proofs.Common.{◌∙◌}
use Rattle.rr_tree.proofs.name_index.NameIndex.number.Goals as goal

pub returns-in-Some : goal.returns-in-Some
returns-in-Some c = c.in-Some.ensures.value ∙ c.requires c.args.bytes

pub returns-in-None : goal.returns-in-None
returns-in-None c = c.in-None.ensures.value ∙ c.requires c.args.bytes
