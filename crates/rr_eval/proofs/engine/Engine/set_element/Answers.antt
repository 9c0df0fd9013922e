-- The receiver is evaluated at once, or behind a frame.
use Rattle.std.proofs.Common.{◌≡◌, ◌∙◌, ◌+◌, ◌-◌, ◌∷◌, [], suc, ap, sym, arith, length}
use Rattle.rr_tree.specs.Tree.{tree_at}
use Rattle.rr_eval.specs.declared.call.Callee.TheVariants.{SetIndex}
use Rattle.rr_eval.specs.declared.call.Target.TheVariants.{Call}
use Rattle.rr_eval.specs.Frames.{first_tree, runs_in}
use Rattle.rr_eval.specs.Rules.{values, with_value, on_value, finish}
use Rattle.rr_eval.specs.Turns.{context_of, code_of, state_of, after_script, remaining_with}
use Rattle.rr_eval.specs.Views.{view_of}
use Rattle.rr_eval.specs.Within.{reach}
use Rattle.rr_eval.proofs.Entered.{stepped}
use Rattle.rr_eval.proofs.Holding.{with_left}
use Rattle.rr_eval.proofs.QuickParts.{part_comes}
use Rattle.rr_eval.proofs.engine.Engine.set_element.Goals as goal

pub set_found-requires-clause-comes : goal.set_found-requires-clause-comes
set_found-requires-clause-comes c = λ h n.
    let p = c.args.prepared.now.program in
    let ns = p.nodes.items in
    let m = view_of c.args.self.now in
    let t = c.args.space.now in
    let found = c.in-Some.found in
    let next = finish (context_of p) (Call SetIndex) in
    ap (λ r. runs_in (code_of p h.world) r (state_of p m t h) (found.steps + n)) c.requires.script
    ∙ part_comes p m t (tree_at ns c.args.receiver) found.steps found.value (on_value (λ v. values (tree_at ns c.args.index ∷ tree_at ns c.args.value ∷ []) (v ∷ []) next)) c.in-Some.ensures.takes h n

pub set_found-requires-clause-value : goal.set_found-requires-clause-value
set_found-requires-clause-value c k h = c.in-Some.ensures.within k h

pub returns-in-None-clause-goes : goal.returns-in-None-clause-goes
returns-in-None-clause-goes c = λ h.
    let p = c.args.prepared.now.program in
    let ns = p.nodes.items in
    let own = context_of p in
    let m = view_of c.args.self.now in
    let t = c.args.space.now in
    let value = c.args.value in
    let some : m.left ≡ suc (m.left - 1) = omega arith in
    let place : value ≡ value + 1 - 1 = omega arith in
    stepped p m t (m.left - 1) (tree_at ns c.args.here) (ap (first_tree ns) c.requires.control) some h
    ∙ ap (λ r. after_script p m t r h (m.left - 1)) c.requires.script
    ∙ ap (λ i. after_script p m t (with_value (tree_at ns c.args.receiver) (λ v. values (tree_at ns c.args.index ∷ tree_at ns i ∷ []) (v ∷ []) (finish own (Call SetIndex)))) h (m.left - 1)) place
    ∙ c.enter_above.ensures.goes p t h (m.left - 1)
    ∙ ap (λ n. remaining_with p (view_of c.enter_above.new.self) t h (n - 1)) (sym c.enter_above.ensures.left)

pub returns-in-None-clause-within : goal.returns-in-None-clause-within
returns-in-None-clause-within c clusters h =
    let k = reach (length c.args.space.now.slots) clusters in
    with_left k (view_of c.enter_above.new.self) _ (c.enter_above.ensures.within k h tt)
