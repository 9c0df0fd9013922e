-- The node has its value.
use Rattle.std.proofs.Common.{◌≡◌, ◌+◌, ◌-◌, ◌∙◌, ap, reverse, arith, length}
use Rattle.rr_tree.specs.Tree.{tree_at}
use Rattle.rr_eval.specs.declared.frame.Control.TheVariants.{Give}
use Rattle.rr_eval.specs.declared.problem.Answer.TheVariants.{Gave}
use Rattle.rr_eval.specs.Frames.{means, outcome_of, unwind}
use Rattle.rr_eval.specs.Turns.{code_of, state_of}
use Rattle.rr_eval.specs.Views.{view_of}
use Rattle.rr_eval.specs.Within.{reach}
use Rattle.rr_eval.proofs.Holding.{with_control, with_left}
use Rattle.rr_eval.proofs.engine.Engine.visit_quick.Goals as goal

pub returns-in-Some-clause-goes : goal.returns-in-Some-clause-goes
returns-in-Some-clause-goes c = λ h.
    let t = c.args.space.now in
    let p = c.args.prepared.now.program in
    let m = view_of c.args.self.now in
    let found = c.in-Some.found in
    let enough = c.in-Some.ensures.enough in
    let code = code_of p h.world in
    let s = state_of p m t h in
    let n = m.left - found.steps in
    let all : m.left ≡ found.steps + n = omega (arith, enough) in
    ap (λ k. outcome_of code m.frames m.held k s m.left) c.requires.control
    ∙ ap (λ k. unwind code (reverse m.frames) m.held (means code (tree_at p.nodes.items c.args.here) s k)) all
    ∙ ap (unwind code (reverse m.frames) m.held) (c.in-Some.ensures.takes h n)

pub returns-in-Some-clause-within : goal.returns-in-Some-clause-within
returns-in-Some-clause-within c clusters h =
    let k = reach (length c.args.space.now.slots) clusters in
    let m = view_of c.args.self.now in
    with_left k (record m { control = Give (Gave c.in-Some.found.value) }) _ (with_control k m (Give (Gave c.in-Some.found.value)) h (c.in-Some.ensures.within clusters h))
