-- The first arguments are evaluated at once, and then the next one, or the method runs.
use Rattle.std.proofs.Common.{◌≡◌, ◌∙◌, ◌+◌, ◌-◌, ap, sym, subst, refl, arith, length}
use Rattle.rr_tree.specs.Nodes.{trees_before}
use Rattle.rr_eval.specs.Prepared.{callable_of}
use Rattle.rr_eval.specs.Turns.{IsNested, remaining_with}
use Rattle.rr_eval.specs.Views.{view_of}
use Rattle.rr_eval.specs.Within.{reach, IsReached, AreReached}
use Rattle.rr_eval.proofs.Holding.{all_nil, with_left}
use Rattle.rr_eval.proofs.QuickCalls.{own_held, own_waits}
use Rattle.rr_eval.proofs.QuickParts.{held_nested, view_back}
use Rattle.rr_eval.proofs.engine.Engine.call_all.Goals as goal

pub returns-then-parts-gt0-clause-goes : goal.returns-then-parts-gt0-clause-goes
returns-then-parts-gt0-clause-goes c = λ _ h.
    let p = c.args.prepared.now.program in
    let ns = p.nodes.items in
    let m = view_of c.args.self.now in
    let n = view_of c.hold_parts-parts.new.self in
    let t = c.args.space.now in
    let parts = c.hold_parts-parts.result in
    let base = c.len-base.result in
    let at : base ≡ length m.held = omega arith in
    let enough = c.hold_parts-parts.ensures.enough in
    own_waits p m n t c.args.here base parts.steps (c.args.first + c.args.count) parts.rest c.args.name (callable_of ns c.args.definition.now) (trees_before ns (c.args.first + c.args.count) c.args.count) h c.requires.control c.requires.script c.requires.method at c.hold_parts-parts.ensures.holds c.hold_parts-parts.ensures.takes (omega (arith, enough))
    ∙ c.enter_part.ensures.goes p t h

pub enter_part-requires-clause-nested : goal.enter_part-requires-clause-nested
enter_part-requires-clause-nested c = held_nested (view_of c.args.self.now) (view_of c.hold_parts-parts.new.self) c.len-base.result (omega arith) c.hold_parts-parts.ensures.holds c.requires.nested

pub begin_method-requires-clause-nested : goal.begin_method-requires-clause-nested
begin_method-requires-clause-nested c = held_nested (view_of c.args.self.now) (view_of c.hold_parts-parts.new.self) c.len-base.result (omega arith) c.hold_parts-parts.ensures.holds c.requires.nested

pub returns-then-begin_method-clause-goes : goal.returns-then-begin_method-clause-goes
returns-then-begin_method-clause-goes c = λ _ h.
    let p = c.args.prepared.now.program in
    let ns = p.nodes.items in
    let m = view_of c.args.self.now in
    let n = view_of c.hold_parts-parts.new.self in
    let t = c.args.space.now in
    let parts = c.hold_parts-parts.result in
    let base = c.len-base.result in
    let at : base ≡ length m.held = omega arith in
    let spent : c.begin_method.new.self.left - (parts.steps + 1) ≡ c.begin_method.new.self.left - parts.steps - 1 = omega arith in
    let none : parts.rest ≡ 0 = omega (arith, c.if-parts-gt0.false) in
    let enough = c.hold_parts-parts.ensures.enough in
    own_held p m n t c.args.here base parts.steps (c.args.first + c.args.count) parts.rest c.args.name (callable_of ns c.args.definition.now) (trees_before ns (c.args.first + c.args.count) c.args.count) h c.requires.control c.requires.script c.requires.method at c.hold_parts-parts.ensures.holds c.hold_parts-parts.ensures.takes none (omega (arith, enough))
    ∙ c.begin_method.ensures.goes c.if-begin_method.true p c.args.name t h (n.left - (parts.steps + 1))
    ∙ ap (λ i. remaining_with p (view_of c.begin_method.new.self) t h (i - (parts.steps + 1))) (sym c.begin_method.ensures.left)
    ∙ ap (λ i. remaining_with p (view_of c.begin_method.new.self) t h i) spent
    ∙ c.enter_single.ensures.goes t h

pub returns-then-begin_method-clause-within : goal.returns-then-begin_method-clause-within
returns-then-begin_method-clause-within c clusters h =
    let k = reach (length c.args.space.now.slots) clusters in
    c.enter_single.ensures.within k (with_left k (view_of c.begin_method.new.self) _ (c.begin_method.ensures.within k (c.hold_parts-parts.ensures.within clusters h) (all_nil (IsReached k))))

pub returns-clause-same : goal.returns-clause-same
returns-clause-same c = λ _.
    let n = view_of c.hold_parts-parts.new.self in
    let at : c.len-base.result ≡ length c.args.self.now.held.items = omega arith in
    view_back (view_of c.args.self.now) n (view_of c.begin_method.new.self) c.len-base.result c.truncate.new.self.items at c.hold_parts-parts.ensures.holds (ap view_of (c.begin_method.ensures.same c.if-begin_method.false)) c.truncate.ensures.items

pub returns-clause-nested : goal.returns-clause-nested
returns-clause-nested c = subst IsNested (sym (returns-clause-same c refl)) c.requires.nested

pub returns-clause-within : goal.returns-clause-within
returns-clause-within c clusters h = subst (AreReached (reach (length c.args.space.now.slots) clusters)) (sym (returns-clause-same c refl)) h
