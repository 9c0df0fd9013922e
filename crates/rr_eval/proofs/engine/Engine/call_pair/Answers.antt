-- The receiver is evaluated at once, or behind a frame.
use Rattle.std.proofs.Common.{◌≡◌, ◌∙◌, ◌+◌, ◌-◌, ◌∷◌, [], suc, ap, sym, refl, arith, length}
use Rattle.rr_tree.specs.Tree.{tree_at}
use Rattle.rr_eval.specs.declared.call.Target.TheVariants.{Call}
use Rattle.rr_eval.specs.Frames.{first_tree}
use Rattle.rr_eval.specs.Rules.{values, finish}
use Rattle.rr_eval.specs.Turns.{context_of, after_script, remaining_with}
use Rattle.rr_eval.specs.Views.{view_of}
use Rattle.rr_eval.specs.Within.{reach, IsReached}
use Rattle.rr_eval.proofs.Entered.{stepped}
use Rattle.rr_eval.proofs.Holding.{all_cons, all_nil, with_left}
use Rattle.rr_eval.proofs.Invoking.{if_ok}
use Rattle.rr_eval.proofs.QuickParts.{held_nested}
use Rattle.rr_eval.proofs.QuickSends.{holds_push, pair_first, stands_without}
use Rattle.rr_eval.proofs.Splatted.{if_err, items_reached}
use Rattle.rr_eval.proofs.engine.Engine.call_pair.Goals as goal

pub returns-in_ok-push-in-Some-clause-goes : goal.returns-in_ok-push-in-Some-clause-goes
returns-in_ok-push-in-Some-clause-goes c =
    let p = c.args.prepared.now.program in
    let m = view_of c.args.self.now in
    let t = c.args.space.now in
    let found = c.in-Some.found in
    let enough = c.in-Some.ensures.enough in
    if_ok c.call_last.result _ _
    (λ q goes h. pair_first p m t c.args.here c.len-base.result c.args.receiver c.args.argument found.steps found.value c.push.new.self.items (Call c.args.callee) h c.requires.control c.requires.script c.in-Some.ensures.takes (omega arith) c.in_ok-push-in-Some.ensures.items (omega (arith, enough)) ∙ goes h)
    c.call_last.ensures.goes

pub returns-in-None-clause-goes : goal.returns-in-None-clause-goes
returns-in-None-clause-goes c = λ h.
    let p = c.args.prepared.now.program in
    let ns = p.nodes.items in
    let own = context_of p in
    let m = view_of c.args.self.now in
    let t = c.args.space.now in
    let argument = c.args.argument in
    let some : m.left ≡ suc (m.left - 1) = omega arith in
    let place : argument ≡ argument + 1 - 1 = omega arith in
    stepped p m t (m.left - 1) (tree_at ns c.args.here) (ap (first_tree ns) c.requires.control) some h
    ∙ ap (λ r. after_script p m t r h (m.left - 1)) c.requires.script
    ∙ ap (λ i. after_script p m t (values (tree_at ns c.args.receiver ∷ tree_at ns i ∷ []) [] (finish own (Call c.args.callee))) h (m.left - 1)) place
    ∙ c.open_send.ensures.goes p t h (m.left - 1)
    ∙ ap (λ n. remaining_with p (view_of c.open_send.new.self) t h (n - 1)) (sym c.open_send.ensures.left)

pub returns-in-None-clause-within : goal.returns-in-None-clause-within
returns-in-None-clause-within c clusters h =
    let k = reach (length c.args.space.now.slots) clusters in
    with_left k (view_of c.open_send.new.self) _ (c.open_send.ensures.within k h)

pub call_last-requires-clause-nested : goal.call_last-requires-clause-nested
call_last-requires-clause-nested c =
    let m = view_of c.args.self.now in
    let held = c.push.new.self.items in
    held_nested m (record m { held = held }) c.len-base.result (omega arith) (holds_push m held c.in-Some.found.value c.in_ok-push-in-Some.ensures.items) c.requires.nested

pub returns-in_ok-push-in-Some-clause-within : goal.returns-in_ok-push-in-Some-clause-within
returns-in_ok-push-in-Some-clause-within c clusters h =
    let k = reach (length c.args.space.now.slots) clusters in
    let v = c.in-Some.found.value in
    c.call_last.ensures.within clusters (items_reached k (view_of c.args.self.now) c.push.new.self.items (v ∷ []) c.in_ok-push-in-Some.ensures.items h (all_cons (IsReached k) v [] (c.in-Some.ensures.within clusters h) (all_nil (IsReached k))))

pub returns-in_ok-push-in-Some-clause-asks : goal.returns-in_ok-push-in-Some-clause-asks
returns-in_ok-push-in-Some-clause-asks c clusters h =
    let k = reach (length c.args.space.now.slots) clusters in
    let v = c.in-Some.found.value in
    c.call_last.ensures.asks clusters (items_reached k (view_of c.args.self.now) c.push.new.self.items (v ∷ []) c.in_ok-push-in-Some.ensures.items h (all_cons (IsReached k) v [] (c.in-Some.ensures.within clusters h) (all_nil (IsReached k))))

pub returns-in_ok-push-in-Some-clause-err : goal.returns-in_ok-push-in-Some-clause-err
returns-in_ok-push-in-Some-clause-err c t =
    let m = view_of c.args.self.now in
    let held = c.push.new.self.items in
    if_err c.call_last.result _ _
    (λ f is. stands_without m (record m { held = held }) (view_of c.call_last.new.self) t f c.len-base.result held (omega arith) (holds_push m held c.in-Some.found.value c.in_ok-push-in-Some.ensures.items) refl is)
    (c.call_last.ensures.err t)
