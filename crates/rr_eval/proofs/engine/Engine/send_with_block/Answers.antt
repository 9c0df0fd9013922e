-- The values that stood are gone.
use Rattle.rr_eval.specs.Views.{view_of}
use Rattle.rr_eval.proofs.Holding.{with_cleared}
use Rattle.rr_eval.proofs.engine.Engine.send_with_block.Goals as goal

pub returns-in-None-clause-within : goal.returns-in-None-clause-within
returns-in-None-clause-within c k h = with_cleared k (view_of c.args.self.now) c.args.frame c.clear.new.held.items _ c.clear.ensures h tt
