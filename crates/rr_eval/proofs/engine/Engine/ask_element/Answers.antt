-- The receiver, the index and the value are evaluated at once.
use Rattle.std.proofs.Common.{◌≡◌, ◌∙◌, ◌+◌, ◌∷◌, [], ap, sym, subst, refl, length}
use Rattle.rr_tree.specs.Tree.{tree_at}
use Rattle.rr_eval.specs.declared.call.Callee.TheVariants.{SetIndex}
use Rattle.rr_eval.specs.declared.call.Target.TheVariants.{Call}
use Rattle.rr_eval.specs.Rules.{rule, finish}
use Rattle.rr_eval.specs.Turns.{context_of}
use Rattle.rr_eval.specs.Usual.{ComesTo}
use Rattle.rr_eval.specs.Views.{view_of}
use Rattle.rr_eval.specs.Within.{reach, IsReached}
use Rattle.rr_eval.proofs.Holding.{all_cons, all_nil}
use Rattle.rr_eval.proofs.QuickRequests.{three_come}
use Rattle.rr_eval.proofs.engine.Engine.ask_element.Goals as goal

pub returns-clause-goes : goal.returns-clause-goes
returns-clause-goes c h =
    let p = c.args.prepared.now.program in
    let ns = p.nodes.items in
    let own = context_of p in
    let m = view_of c.args.self.now in
    let t = c.args.space.now in
    let found = c.in-Some.found in
    let at = c.in-Some-quick_before.at in
    let last = c.in-Some-quick_before-2.last in
    let script = rule own (tree_at ns c.args.here) in
    let next = finish own (Call SetIndex) in
    let steps : found.steps + at.steps + last.steps ≡ c.steps_together-steps.result = ap (λ i. i + last.steps) (sym c.steps_together-some.ensures) ∙ sym c.steps_together-steps.ensures in
    c.ask_with.ensures.goes p t
    (subst (λ i. ComesTo p m t script i (next (found.value ∷ at.value ∷ last.value ∷ []))) steps
    (three_come p m t script (tree_at ns c.args.receiver) (tree_at ns c.args.index) (tree_at ns c.args.value) found.steps at.steps last.steps found.value at.value last.value next c.requires.script c.in-Some.ensures.takes c.in-Some-quick_before.ensures.takes c.in-Some-quick_before-2.ensures.takes))
    (c.if-not-is_asked_for.ensures refl) h

pub returns-clause-asks : goal.returns-clause-asks
returns-clause-asks c clusters h =
    let k = reach (length c.args.space.now.slots) clusters in
    let at = c.in-Some-quick_before.at.value in
    let last = c.in-Some-quick_before-2.last.value in
    c.ask_with.ensures.asks k (c.in-Some.ensures.within clusters h)
    (all_cons (IsReached k) at (last ∷ []) (c.in-Some-quick_before.ensures.within clusters h) (all_cons (IsReached k) last [] (c.in-Some-quick_before-2.ensures.within clusters h) (all_nil (IsReached k))))
