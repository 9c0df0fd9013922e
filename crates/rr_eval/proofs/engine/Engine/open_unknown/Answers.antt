-- What is not evaluated yet raises.
use Rattle.std.proofs.Common.{ap}
use Rattle.rr_eval.specs.Turns.{context_of, after_script}
use Rattle.rr_eval.proofs.Lists.{unknown_rule}
use Rattle.rr_eval.specs.Views.{view_of}
use Rattle.rr_eval.proofs.engine.Engine.open_unknown.Goals as goal

pub returns-clause-goes : goal.returns-clause-goes
returns-clause-goes c p t h n = ap (λ r. after_script p (view_of c.args.self.now) t r h n) (unknown_rule p.nodes.items (context_of p) c.args.node c.requires.unknown)
