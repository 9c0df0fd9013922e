use Rattle.rr_text.specs.Names.{names_of}
use Rattle.rr_text.proofs.names.class_name.Goals as goal

pub returns : goal.returns
unfolding names_of
returns c = c.class_name.ensures.name
