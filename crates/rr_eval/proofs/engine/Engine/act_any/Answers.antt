-- What was made, and what the act did.
use Rattle.rr_eval.proofs.Changing.{changes_trans}
use Rattle.rr_eval.proofs.engine.Engine.act_any.Goals as goal

pub returns-then-not-visit_text-clause-changed : goal.returns-then-not-visit_text-clause-changed
returns-then-not-visit_text-clause-changed c = changes_trans c.args.space.now c.visit_text.new.space c.act.new.space c.visit_text.ensures.changed c.act.ensures.changed
