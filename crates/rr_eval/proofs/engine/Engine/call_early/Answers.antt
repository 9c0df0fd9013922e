-- The call has its value.
use Rattle.std.proofs.Common.{◌≡◌, ◌+◌, ◌-◌, ◌∙◌, ap, reverse, subst, sym, arith, length}
use Rattle.rr_tree.specs.Tree.{tree_at}
use Rattle.rr_eval.specs.declared.frame.Control.TheVariants.{Give}
use Rattle.rr_eval.specs.declared.problem.Answer.TheVariants.{Gave}
use Rattle.rr_eval.specs.Frames.{means, outcome_of, unwind}
use Rattle.rr_eval.specs.Turns.{code_of, state_of}
use Rattle.rr_eval.specs.Views.{view_of}
use Rattle.rr_eval.specs.Within.{AreReached, reach}
use Rattle.rr_eval.proofs.Holding.{with_control, with_left}
use Rattle.rr_eval.proofs.engine.Engine.call_early.Goals as goal

pub returns-clause-goes : goal.returns-clause-goes
returns-clause-goes c = λ _ h.
    let t = c.args.space.now in
    let p = c.args.prepared.now.program in
    let m = view_of c.args.self.now in
    let ended = c.in-Some.ended in
    let enough = c.if-self-stop.false in
    let within = c.requires.within in
    let code = code_of p h.world in
    let s = state_of p m t h in
    let n = m.left - ended.steps in
    let all : m.left ≡ ended.steps + n = omega (arith, enough, within) in
    ap (λ k. outcome_of code m.frames m.held k s m.left) c.requires.control
    ∙ ap (λ k. unwind code (reverse m.frames) m.held (means code (tree_at p.nodes.items c.args.here) s k)) all
    ∙ ap (unwind code (reverse m.frames) m.held) (c.in-Some.ensures.takes h n)
    ∙ ap (λ k. outcome_of code m.frames m.held k s n) (sym c.give.ensures)

pub returns-clause-within : goal.returns-clause-within
returns-clause-within c clusters h =
    let k = reach (length c.args.space.now.slots) clusters in
    let m = view_of c.args.self.now in
    let given = Give (Gave c.in-Some.ended.value) in
    subst (λ z. AreReached k (record m { control = z; left = m.left - c.in-Some.ended.steps })) (sym c.give.ensures)
    (with_left k (record m { control = given }) _ (with_control k m given h (c.in-Some.ensures.within k)))
