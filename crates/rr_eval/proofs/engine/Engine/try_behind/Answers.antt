-- The next class of a clause is evaluated.
use Rattle.std.proofs.Common.{◌<◌, ◌∙◌, sym, ap, arith}
use Rattle.rr_tree.specs.Nodes.{trees_before}
use Rattle.rr_eval.specs.Frames.{taker}
use Rattle.rr_eval.specs.Rescuing.{tried}
use Rattle.rr_eval.specs.Turns.{context_of, code_of, after_script}
use Rattle.rr_eval.specs.Views.{view_of}
use Rattle.rr_eval.proofs.Trying.{class_next}
use Rattle.rr_eval.proofs.engine.Engine.try_behind.Goals as goal

pub returns-in_default-clause-goes : goal.returns-in_default-clause-goes
returns-in_default-clause-goes c h n =
    let p = c.args.program.now in
    let ns = p.nodes.items in
    let own = context_of p in
    let trial = c.args.trial in
    let some : 0 < trial.classes = omega arith in
    ap (λ s. after_script p (view_of c.args.self.now) c.args.space.now s h n)
    (sym (class_next own ns trial.exception trial.last trial.classes c.saturating_sub.result (taker (code_of p h.world) trial) (tried own trial.exception (trees_before ns trial.end trial.clauses)) some c.saturating_sub.ensures))
    ∙ c.enter_above.ensures.goes p c.args.space.now h n
