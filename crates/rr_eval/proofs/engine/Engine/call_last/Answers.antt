-- The last part is evaluated at once, or behind a frame.
use Rattle.std.proofs.Common.{◌≡◌, ◌∙◌, ◌+◌, ◌-◌, ◌++◌, ◌∷◌, [], ap, sym, arith, drop, length}
use Rattle.rr_tree.specs.Tree.{tree_at}
use Rattle.rr_eval.specs.declared.call.Target.TheVariants.{Call}
use Rattle.rr_eval.specs.declared.frame.Control.TheVariants.{Enter}
use Rattle.rr_eval.specs.declared.frame.Frame.TheVariants.{Argument}
use Rattle.rr_eval.specs.Frames.{means, outcome_of}
use Rattle.rr_eval.specs.Turns.{context_of, code_of, state_of, after_values}
use Rattle.rr_eval.specs.Rules.{finish}
use Rattle.rr_eval.specs.Views.{view_of}
use Rattle.rr_eval.specs.Within.{reach}
use Rattle.rr_eval.proofs.Holding.{with_control, with_left}
use Rattle.rr_eval.proofs.Invoking.{if_ok}
use Rattle.rr_eval.proofs.QuickSends.{last_comes}
use Rattle.rr_eval.proofs.Splatted.{back_reached}
use Rattle.rr_eval.proofs.Unwind.{rest_push}
use Rattle.rr_eval.proofs.engine.Engine.call_last.Goals as goal

pub returns-in-Some-clause-goes : goal.returns-in-Some-clause-goes
returns-in-Some-clause-goes c =
    let p = c.args.prepared.now.program in
    let n = view_of c.args.self.now in
    let t = c.args.space.now in
    let last = c.in-Some.last in
    let enough = c.in-Some.ensures.enough in
    if_ok c.send_held.result _ _
    (λ q goes h.
    last_comes p n t c.args.base c.args.part c.args.steps last.steps last.value (Call c.args.callee) h c.in-Some.ensures.takes (omega (arith, enough))
    ∙ ap (λ i. after_values p n t (Argument (Call c.args.callee) 0 0 c.args.base) (finish (context_of p) (Call c.args.callee) (drop c.args.base n.held ++ last.value ∷ [])) h (n.left - (i + 1))) (sym c.steps_together-all.ensures)
    ∙ goes 0 h)
    c.send_held.ensures.goes

pub returns-in-Some-clause-within : goal.returns-in-Some-clause-within
returns-in-Some-clause-within c clusters h = c.send_held.ensures.within clusters h (c.in-Some.ensures.within clusters h)

pub returns-in-Some-clause-asks : goal.returns-in-Some-clause-asks
returns-in-Some-clause-asks c clusters h = c.send_held.ensures.asks clusters h (c.in-Some.ensures.within clusters h)

pub returns-in-None-clause-goes : goal.returns-in-None-clause-goes
returns-in-None-clause-goes c = λ h.
    let p = c.args.prepared.now.program in
    let n = view_of c.args.self.now in
    let code = code_of p h.world in
    let s = state_of p n c.args.space.now h in
    let part = c.args.part in
    let k = n.left - (c.args.steps + 1) in
    let spent : k ≡ n.left - c.args.steps - 1 = omega arith in
    sym (rest_push code n.frames (Argument (Call c.args.callee) (part + 1) 0 c.args.base) n.held (means code (tree_at p.nodes.items part) s k))
    ∙ ap (λ fs. outcome_of code fs n.held (Enter part) s k) (sym c.push_within.ensures)
    ∙ ap (λ i. outcome_of code c.push_within.new.items.items n.held (Enter part) s i) spent

pub returns-in-None-clause-within : goal.returns-in-None-clause-within
returns-in-None-clause-within c clusters h =
    let k = reach (length c.args.space.now.slots) clusters in
    let n = view_of c.args.self.now in
    let fs = c.push_within.new.items.items in
    let waits = back_reached k n (Argument (Call c.args.callee) (c.args.part + 1) 0 c.args.base) fs c.push_within.ensures h tt in
    with_left k _ _ (with_control k (record n { frames = fs }) (Enter c.args.part) waits tt)
