-- The first arguments are evaluated at once, and then the next one, or the method runs.
use Rattle.std.proofs.Common.{◌≡◌, ◌∙◌, ◌+◌, ◌-◌, ap, sym, subst, refl, arith, drop, length}
use Rattle.rr_tree.specs.Nodes.{trees_before}
use Rattle.rr_eval.specs.declared.call.Callee.TheVariants.{Name}
use Rattle.rr_eval.specs.declared.call.Target.TheVariants.{Call}
use Rattle.rr_eval.specs.declared.frame.Frame.TheVariants.{Argument}
use Rattle.rr_eval.specs.Prepared.{callable_of}
use Rattle.rr_eval.specs.Rules.{arguments, finish}
use Rattle.rr_eval.specs.Turns.{context_of, IsNested, after_values, remaining_with}
use Rattle.rr_eval.specs.Views.{view_of}
use Rattle.rr_eval.specs.Within.{reach, IsReached, AreReached}
use Rattle.rr_eval.proofs.Holding.{all_nil, with_left}
use Rattle.rr_eval.proofs.QuickParts.{held_nested, view_back}
use Rattle.rr_eval.proofs.QuickSends.{sent_held, sent_waits}
use Rattle.rr_eval.proofs.engine.Engine.send_all.Goals as goal

pub returns-then-parts-gt0-clause-goes : goal.returns-then-parts-gt0-clause-goes
returns-then-parts-gt0-clause-goes c = λ _ h.
    let p = c.args.prepared.now.program in
    let ns = p.nodes.items in
    let m = view_of c.args.self.now in
    let n = view_of c.hold_receiver-parts.new.self in
    let t = c.args.space.now in
    let found = c.args.found in
    let parts = c.hold_receiver-parts.result in
    let base = c.len-base.result in
    let end = c.args.first + c.args.count in
    let callee = Name c.args.name in
    let at : base ≡ length m.held = omega arith in
    let enough = c.hold_receiver-parts.ensures.enough in
    let before = c.steps_together-before.ensures in
    sent_waits p m n t c.args.here base found.steps parts.steps end parts.rest found.value (trees_before ns end c.args.count) callee h c.requires.control c.requires.comes c.hold_receiver-parts.ensures.comes at c.hold_receiver-parts.ensures.holds (omega (arith, enough, before))
    ∙ ap (λ i. after_values p n t (Argument (Call callee) end 0 base) (arguments (context_of p) (trees_before ns end parts.rest) (drop base n.held) (finish (context_of p) (Call callee))) h (n.left - (i + 1))) (sym c.steps_together-steps.ensures)
    ∙ c.enter_part.ensures.goes p t h

pub enter_part-requires-clause-nested : goal.enter_part-requires-clause-nested
enter_part-requires-clause-nested c = held_nested (view_of c.args.self.now) (view_of c.hold_receiver-parts.new.self) c.len-base.result (omega arith) c.hold_receiver-parts.ensures.holds c.requires.nested

pub begin_sent-requires-clause-nested : goal.begin_sent-requires-clause-nested
begin_sent-requires-clause-nested c = held_nested (view_of c.args.self.now) (view_of c.hold_receiver-parts.new.self) c.len-base.result (omega arith) c.hold_receiver-parts.ensures.holds c.requires.nested

pub returns-then-begin_sent-clause-goes : goal.returns-then-begin_sent-clause-goes
returns-then-begin_sent-clause-goes c = λ _ h.
    let p = c.args.prepared.now.program in
    let ns = p.nodes.items in
    let m = view_of c.args.self.now in
    let n = view_of c.hold_receiver-parts.new.self in
    let t = c.args.space.now in
    let found = c.args.found in
    let parts = c.hold_receiver-parts.result in
    let base = c.len-base.result in
    let end = c.args.first + c.args.count in
    let at : base ≡ length m.held = omega arith in
    let none : parts.rest ≡ 0 = omega (arith, c.if-parts-gt0.false) in
    let enough = c.hold_receiver-parts.ensures.enough in
    let before = c.steps_together-before.ensures in
    let steps = c.steps_together-steps.ensures in
    let all = found.steps + parts.steps in
    let spent : c.begin_sent.new.self.left - (all + 1) ≡ c.begin_sent.new.self.left - c.steps_together-steps.result - 1 = omega (arith, steps) in
    sent_held p m n t c.args.here base found.steps parts.steps end parts.rest found.value c.args.name (callable_of ns c.args.definition.now) (trees_before ns end c.args.count) h c.requires.control c.requires.comes c.hold_receiver-parts.ensures.comes at c.hold_receiver-parts.ensures.holds c.hold_receiver-parts.ensures.first c.requires.joins c.requires.method none (omega (arith, enough, before))
    ∙ c.begin_sent.ensures.goes c.if-begin_sent.true p c.args.name h (n.left - (all + 1))
    ∙ ap (λ i. remaining_with p (view_of c.begin_sent.new.self) t h (i - (all + 1))) (sym c.begin_sent.ensures.left)
    ∙ ap (λ i. remaining_with p (view_of c.begin_sent.new.self) t h i) spent
    ∙ c.enter_single.ensures.goes t h

pub returns-then-begin_sent-clause-within : goal.returns-then-begin_sent-clause-within
returns-then-begin_sent-clause-within c clusters h =
    let k = reach (length c.args.space.now.slots) clusters in
    c.enter_single.ensures.within k (with_left k (view_of c.begin_sent.new.self) _ (c.begin_sent.ensures.within clusters (c.hold_receiver-parts.ensures.within clusters h (c.requires.value clusters h)) (c.requires.value clusters h) (all_nil (IsReached k))))

pub returns-clause-same : goal.returns-clause-same
returns-clause-same c = λ _.
    let n = view_of c.hold_receiver-parts.new.self in
    let at : c.len-base.result ≡ length c.args.self.now.held.items = omega arith in
    view_back (view_of c.args.self.now) n (view_of c.begin_sent.new.self) c.len-base.result c.truncate.new.self.items at c.hold_receiver-parts.ensures.holds (ap view_of (c.begin_sent.ensures.same c.if-begin_sent.false)) c.truncate.ensures.items

pub returns-clause-nested : goal.returns-clause-nested
returns-clause-nested c = subst IsNested (sym (returns-clause-same c refl)) c.requires.nested

pub returns-clause-within : goal.returns-clause-within
returns-clause-within c clusters h = subst (AreReached (reach (length c.args.space.now.slots) clusters)) (sym (returns-clause-same c refl)) h
