-- The clause of a class that fits takes the exception.
use Rattle.std.proofs.Common.{◌≡◌, ◌-◌, ◌∙◌, suc, sym, ap, arith, true, if◌then◌else◌}
use Rattle.rr_space.specs.Kinds.{class_at}
use Rattle.rr_tree.specs.Tree.{tree_at}
use Rattle.rr_tree.specs.Ancestors.{descends}
use Rattle.rr_eval.specs.Frames.{taker, behind_class}
use Rattle.rr_eval.specs.Rescuing.{taken_by, fitted}
use Rattle.rr_eval.specs.Turns.{context_of, code_of, after_script}
use Rattle.rr_eval.specs.Views.{view_of}
use Rattle.rr_eval.proofs.engine.Engine.resume_class.Goals as goal

pub returns-then-descends-clause-goes : goal.returns-then-descends-clause-goes
returns-then-descends-clause-goes c h n =
    let p = c.args.program.now in
    let ns = p.nodes.items in
    let code = code_of p h.world in
    let m = view_of c.args.self.now in
    let t = c.args.space.now in
    let trial = c.args.trial in
    let e = trial.exception in
    let fits : descends p (class_at t e).0 c.in-Class.class.0 ≡ true = ap (λ k. descends p k.0 c.in-Class.class.0) (sym c.class_of.ensures) ∙ sym c.descends.ensures ∙ c.if-descends.true in
    let same : trial.end - suc trial.clauses ≡ c.saturating_sub-place.result = omega (arith, c.saturating_sub.ensures, c.saturating_sub-place.ensures) in
    ap (λ v. after_script p m t (fitted (context_of p) e v (taker code trial) (behind_class code trial)) h n) c.in-Class.is
    ∙ ap (λ b. after_script p m t (if b then taker code trial else behind_class code trial) h n) fits
    ∙ ap (λ x. after_script p m t (taken_by (tree_at ns x) e) h n) same
    ∙ c.take.ensures.goes t h n
