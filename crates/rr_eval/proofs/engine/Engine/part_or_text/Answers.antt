-- The text of a literal is the part's value.
use Rattle.rr_eval.specs.Views.{view_of}
use Rattle.rr_eval.proofs.engine.Engine.part_or_text.Goals as goal

pub returns-in-Some-made_text-clause-makes : goal.returns-in-Some-made_text-clause-makes
returns-in-Some-made_text-clause-makes c = c.in-Some-made_text.ensures.makes (view_of c.args.self.now)

pub returns-in-Some-made_text-clause-within : goal.returns-in-Some-made_text-clause-within
returns-in-Some-made_text-clause-within c clusters h = c.in-Some-made_text.ensures.within clusters
