-- The first arguments are evaluated at once, and then the next one, or the call is done.
use Rattle.std.proofs.Common.{◌≡◌, ◌∙◌, ◌+◌, ◌-◌, ◌≤◌, ◌++◌, ◌∷◌, [], ap, sym, arith, length, length-append, drop, take}
use Rattle.std.proofs.lemmas.List.{take-append-le}
use Rattle.rr_tree.specs.Nodes.{trees_before}
use Rattle.rr_eval.specs.declared.call.Target.TheVariants.{Call}
use Rattle.rr_eval.specs.declared.frame.Frame.TheVariants.{Argument}
use Rattle.rr_eval.specs.Rules.{arguments, finish}
use Rattle.rr_eval.specs.Turns.{context_of, after_values}
use Rattle.rr_eval.specs.Views.{view_of}
use Rattle.rr_eval.specs.Within.{reach}
use Rattle.rr_eval.proofs.Invoking.{if_ok}
use Rattle.rr_eval.proofs.QuickParts.{held_nested, nested_stands}
use Rattle.rr_eval.proofs.QuickSends.{sent_waits, last_apart, stands_without, apart_reached}
use Rattle.rr_eval.proofs.Splatted.{if_err}
use Rattle.rr_eval.proofs.engine.Engine.call_found.Goals as goal

pub returns-then-parts-gt0-clause-goes : goal.returns-then-parts-gt0-clause-goes
returns-then-parts-gt0-clause-goes c = λ h.
    let p = c.args.prepared.now.program in
    let ns = p.nodes.items in
    let m = view_of c.args.self.now in
    let n = view_of c.hold_sent.new.self in
    let t = c.args.space.now in
    let found = c.args.found in
    let parts = c.in_ok-parts.parts in
    let enough = c.in_ok-parts.ensures.enough in
    sent_waits p m n t c.args.here c.len-base.result found.steps parts.steps c.args.end parts.rest found.value (trees_before ns c.args.end c.args.count) c.args.callee h c.requires.control c.requires.comes c.in_ok-parts.ensures.comes (omega arith) c.in_ok-parts.ensures.holds (omega (arith, enough))
    ∙ ap (λ i. after_values p n t (Argument (Call c.args.callee) c.args.end 0 c.len-base.result) (arguments (context_of p) (trees_before ns c.args.end parts.rest) (drop c.len-base.result n.held) (finish (context_of p) (Call c.args.callee))) h (n.left - (i + 1))) (sym c.steps_together-steps.ensures)
    ∙ c.enter_part.ensures.goes p t h

pub enter_part-requires-clause-nested : goal.enter_part-requires-clause-nested
enter_part-requires-clause-nested c = held_nested (view_of c.args.self.now) (view_of c.hold_sent.new.self) c.len-base.result (omega arith) c.in_ok-parts.ensures.holds c.requires.nested

pub returns-clause-goes : goal.returns-clause-goes
returns-clause-goes c =
    let p = c.args.prepared.now.program in
    let ns = p.nodes.items in
    let m = view_of c.args.self.now in
    let n = view_of c.hold_sent.new.self in
    let t = c.args.space.now in
    let found = c.args.found in
    let parts = c.in_ok-parts.parts in
    let base = c.len-base.result in
    let held = c.pop.new.self.items in
    let last = c.in-Some.last in
    let enough = c.in_ok-parts.ensures.enough in
    let rest = c.in_ok-parts.ensures.rest in
    let none : parts.rest ≡ 0 = omega (arith, c.if-parts-gt0.false) in
    let all : n.held ≡ held ++ last ∷ [] = c.in-Some.ensures.items in
    let size = ap length all ∙ length-append held (last ∷ []) in
    let le : base ≤ length held = omega (arith, rest, size) in
    if_ok c.send_held.result _ _
    (λ q goes h.
    sent_waits p m n t c.args.here base found.steps parts.steps c.args.end parts.rest found.value (trees_before ns c.args.end c.args.count) c.args.callee h c.requires.control c.requires.comes c.in_ok-parts.ensures.comes (omega arith) c.in_ok-parts.ensures.holds (omega (arith, enough))
    ∙ last_apart p n t base c.args.end parts.rest (n.left - (found.steps + parts.steps + 1)) held last c.args.callee h none all le
    ∙ ap (λ i. after_values p (record n { held = held }) t (Argument (Call c.args.callee) c.args.end 0 base) (finish (context_of p) (Call c.args.callee) (drop base held ++ last ∷ [])) h (n.left - (i + 1))) (sym c.steps_together-steps.ensures)
    ∙ goes c.args.end h)
    c.send_held.ensures.goes

pub returns-clause-err : goal.returns-clause-err
returns-clause-err c t =
    let m = view_of c.args.self.now in
    let n = view_of c.hold_sent.new.self in
    let base = c.len-base.result in
    let held = c.pop.new.self.items in
    let last = c.in-Some.last in
    let rest = c.in_ok-parts.ensures.rest in
    let none : c.in_ok-parts.parts.rest ≡ 0 = omega (arith, c.if-parts-gt0.false) in
    let all : n.held ≡ held ++ last ∷ [] = c.in-Some.ensures.items in
    let size = ap length all ∙ length-append held (last ∷ []) in
    let le : base ≤ length held = omega (arith, rest, size) in
    if_err c.send_held.result _ _
    (λ f is. stands_without m n (view_of c.send_held.new.self) t f base held (omega arith) c.in_ok-parts.ensures.holds (sym (ap (take base) all ∙ take-append-le base held (last ∷ []) le)) is)
    (c.send_held.ensures.err t)

pub returns-clause-within : goal.returns-clause-within
returns-clause-within c clusters h =
    let k = reach (length c.args.space.now.slots) clusters in
    let reached = apart_reached k (view_of c.hold_sent.new.self) c.pop.new.self.items c.in-Some.last c.in-Some.ensures.items (c.hold_sent.ensures.within clusters h (c.requires.value clusters h)) in
    c.send_held.ensures.within clusters reached.0 reached.1

pub returns-clause-asks : goal.returns-clause-asks
returns-clause-asks c clusters h =
    let k = reach (length c.args.space.now.slots) clusters in
    let reached = apart_reached k (view_of c.hold_sent.new.self) c.pop.new.self.items c.in-Some.last c.in-Some.ensures.items (c.hold_sent.ensures.within clusters h (c.requires.value clusters h)) in
    c.send_held.ensures.asks clusters reached.0 reached.1

pub returns-in_err-parts-clause-nested : goal.returns-in_err-parts-clause-nested
returns-in_err-parts-clause-nested c = nested_stands (view_of c.args.self.now) (view_of c.hold_sent.new.self) c.args.space.now c.in_err-parts.field-0.0 (c.in_err-parts.ensures.err c.args.space.now) c.requires.nested
