-- The index is evaluated at once, or behind a frame.
use Rattle.std.proofs.Common.{◌≡◌, ℕ, ◌∙◌, ◌+◌, ◌-◌, ◌++◌, ◌∷◌, [], ap, sym, refl, arith, drop, length}
use Rattle.std.proofs.lemmas.List.{append_assoc}
use Rattle.rr_tree.specs.Tree.{tree_at}
use Rattle.rr_eval.specs.declared.call.Callee.TheVariants.{SetIndex}
use Rattle.rr_eval.specs.declared.call.Target.TheVariants.{Call}
use Rattle.rr_eval.specs.declared.frame.Frame.TheVariants.{Argument}
use Rattle.rr_eval.specs.Rules.{values, finish}
use Rattle.rr_eval.specs.Turns.{context_of, after_script, after_values, continuing}
use Rattle.rr_eval.specs.Views.{view_of}
use Rattle.rr_eval.specs.Within.{reach, IsReached}
use Rattle.rr_eval.proofs.Holding.{all_cons, all_nil, with_left}
use Rattle.rr_eval.proofs.Invoking.{if_ok}
use Rattle.rr_eval.proofs.QuickParts.{held_nested, nested_stands}
use Rattle.rr_eval.proofs.QuickSends.{comes_first, holds_values, element_comes, stands_without}
use Rattle.rr_eval.proofs.Splatted.{if_err, items_reached}
use Rattle.rr_eval.proofs.engine.Engine.set_found.Goals as goal

pub returns-in-Ok-clause-goes : goal.returns-in-Ok-clause-goes
returns-in-Ok-clause-goes c = λ h.
    let p = c.args.prepared.now.program in
    let ns = p.nodes.items in
    let own = context_of p in
    let m = view_of c.args.self.now in
    let t = c.args.space.now in
    let value = c.args.value in
    let found = c.args.found in
    let enough = c.requires.enough in
    let k = m.left - (found.steps + 1) in
    let place : value ≡ value + 1 - 1 = omega arith in
    let next = λ (i : ℕ). values (tree_at ns c.args.index ∷ tree_at ns i ∷ []) (found.value ∷ []) (finish own (Call SetIndex)) in
    let spent : c.keep_receiver.new.self.left - (found.steps + 1) ≡ c.keep_receiver.new.self.left - found.steps - 1 = omega arith in
    comes_first p m t c.args.here found.steps (next value) h c.requires.control c.requires.comes (omega (arith, enough))
    ∙ ap (λ i. after_script p m t (next i) h k) place
    ∙ c.in-Ok.ensures.goes p t h k
    ∙ ap (λ i. continuing p (view_of c.keep_receiver.new.self) t c.in-Ok.request h (i - (found.steps + 1))) (sym c.in-Ok.ensures.left)
    ∙ ap (λ i. continuing p (view_of c.keep_receiver.new.self) t c.in-Ok.request h i) spent

pub returns-in-Ok-clause-within : goal.returns-in-Ok-clause-within
returns-in-Ok-clause-within c clusters h =
    let k = reach (length c.args.space.now.slots) clusters in
    with_left k (view_of c.keep_receiver.new.self) _ (c.in-Ok.ensures.within k h (c.requires.value clusters h))

pub returns-in-Ok-clause-asks : goal.returns-in-Ok-clause-asks
returns-in-Ok-clause-asks c clusters h = c.in-Ok.ensures.asks (reach (length c.args.space.now.slots) clusters)

pub returns-in-Err-clause-nested : goal.returns-in-Err-clause-nested
returns-in-Err-clause-nested c = nested_stands (view_of c.args.self.now) (view_of c.keep_receiver.new.self) c.args.space.now c.in-Err.fault (c.in-Err.ensures.err c.args.space.now) c.requires.nested

pub call_last-requires-clause-nested : goal.call_last-requires-clause-nested
call_last-requires-clause-nested c =
    let p = c.args.prepared.now.program in
    let m = view_of c.args.self.now in
    let base = c.len-base.result in
    let v = c.args.found.value in
    let w = c.in-Some.at.value in
    let held = c.push_reserved-in-Some.new.self.items in
    let pushed : held ≡ m.held ++ v ∷ w ∷ [] =
    c.push_reserved-in-Some.ensures.items
    ∙ ap (λ l. l ++ w ∷ []) (c.push_reserved.ensures.items ∙ ap (λ l. l ++ v ∷ []) c.in_ok-reserve-in-Some.ensures.items)
    ∙ append_assoc m.held (v ∷ []) (w ∷ []) in
    held_nested m (record m { held = held }) base (omega arith) (holds_values m held (v ∷ w ∷ []) pushed) c.requires.nested

pub returns-in_ok-reserve-in-Some-clause-goes : goal.returns-in_ok-reserve-in-Some-clause-goes
returns-in_ok-reserve-in-Some-clause-goes c =
    let p = c.args.prepared.now.program in
    let m = view_of c.args.self.now in
    let base = c.len-base.result in
    let v = c.args.found.value in
    let w = c.in-Some.at.value in
    let held = c.push_reserved-in-Some.new.self.items in
    let pushed : held ≡ m.held ++ v ∷ w ∷ [] =
    c.push_reserved-in-Some.ensures.items
    ∙ ap (λ l. l ++ w ∷ []) (c.push_reserved.ensures.items ∙ ap (λ l. l ++ v ∷ []) c.in_ok-reserve-in-Some.ensures.items)
    ∙ append_assoc m.held (v ∷ []) (w ∷ []) in
    let t = c.args.space.now in
    let n = record m { held = held } in
    let steps = c.args.found.steps in
    let enough = c.in-Some.ensures.enough in
    let before = c.steps_together-before.ensures in
    if_ok c.call_last.result _ _
    (λ q goes h.
    element_comes p m t c.args.here base c.args.index c.args.value steps c.in-Some.at.steps v w held h c.requires.control c.requires.comes c.in-Some.ensures.takes (omega arith) pushed (omega (arith, enough, before))
    ∙ ap (λ i. after_values p n t (Argument (Call SetIndex) 0 0 base) (values (tree_at p.nodes.items c.args.value ∷ []) (drop base held) (finish (context_of p) (Call SetIndex))) h (m.left - (i + 1))) (sym c.steps_together-steps.ensures)
    ∙ goes h)
    c.call_last.ensures.goes

pub returns-in_ok-reserve-in-Some-clause-within : goal.returns-in_ok-reserve-in-Some-clause-within
returns-in_ok-reserve-in-Some-clause-within c clusters h =
    let p = c.args.prepared.now.program in
    let m = view_of c.args.self.now in
    let base = c.len-base.result in
    let v = c.args.found.value in
    let w = c.in-Some.at.value in
    let held = c.push_reserved-in-Some.new.self.items in
    let pushed : held ≡ m.held ++ v ∷ w ∷ [] =
    c.push_reserved-in-Some.ensures.items
    ∙ ap (λ l. l ++ w ∷ []) (c.push_reserved.ensures.items ∙ ap (λ l. l ++ v ∷ []) c.in_ok-reserve-in-Some.ensures.items)
    ∙ append_assoc m.held (v ∷ []) (w ∷ []) in
    let k = reach (length c.args.space.now.slots) clusters in
    c.call_last.ensures.within clusters (items_reached k m held (v ∷ w ∷ []) pushed h (all_cons (IsReached k) v (w ∷ []) (c.requires.value clusters h) (all_cons (IsReached k) w [] (c.in-Some.ensures.within clusters h) (all_nil (IsReached k)))))

pub returns-in_ok-reserve-in-Some-clause-asks : goal.returns-in_ok-reserve-in-Some-clause-asks
returns-in_ok-reserve-in-Some-clause-asks c clusters h =
    let p = c.args.prepared.now.program in
    let m = view_of c.args.self.now in
    let base = c.len-base.result in
    let v = c.args.found.value in
    let w = c.in-Some.at.value in
    let held = c.push_reserved-in-Some.new.self.items in
    let pushed : held ≡ m.held ++ v ∷ w ∷ [] =
    c.push_reserved-in-Some.ensures.items
    ∙ ap (λ l. l ++ w ∷ []) (c.push_reserved.ensures.items ∙ ap (λ l. l ++ v ∷ []) c.in_ok-reserve-in-Some.ensures.items)
    ∙ append_assoc m.held (v ∷ []) (w ∷ []) in
    let k = reach (length c.args.space.now.slots) clusters in
    c.call_last.ensures.asks clusters (items_reached k m held (v ∷ w ∷ []) pushed h (all_cons (IsReached k) v (w ∷ []) (c.requires.value clusters h) (all_cons (IsReached k) w [] (c.in-Some.ensures.within clusters h) (all_nil (IsReached k)))))

pub returns-in_ok-reserve-in-Some-clause-err : goal.returns-in_ok-reserve-in-Some-clause-err
returns-in_ok-reserve-in-Some-clause-err c t =
    let p = c.args.prepared.now.program in
    let m = view_of c.args.self.now in
    let base = c.len-base.result in
    let v = c.args.found.value in
    let w = c.in-Some.at.value in
    let held = c.push_reserved-in-Some.new.self.items in
    let pushed : held ≡ m.held ++ v ∷ w ∷ [] =
    c.push_reserved-in-Some.ensures.items
    ∙ ap (λ l. l ++ w ∷ []) (c.push_reserved.ensures.items ∙ ap (λ l. l ++ v ∷ []) c.in_ok-reserve-in-Some.ensures.items)
    ∙ append_assoc m.held (v ∷ []) (w ∷ []) in
    if_err c.call_last.result _ _
    (λ f is. stands_without m (record m { held = held }) (view_of c.call_last.new.self) t f base held (omega arith) (holds_values m held (v ∷ w ∷ []) pushed) refl is)
    (c.call_last.ensures.err t)
