-- The next part is evaluated, or the last value is what the call waits for.
use Rattle.std.proofs.Common.{◌≡◌, ◌∙◌, ◌-◌, ◌<◌, ◌≤◌, ◌++◌, ◌∷◌, [], sym, ap, arith, length, length-append}
use Rattle.rr_eval.specs.declared.frame.Control.TheVariants.{Enter}
use Rattle.rr_eval.specs.declared.frame.Frame.TheVariants.{Item}
use Rattle.rr_eval.specs.Frames.{outcome_of}
use Rattle.rr_eval.specs.Turns.{code_of, state_of}
use Rattle.rr_eval.specs.Views.{view_of}
use Rattle.rr_eval.specs.Within.{reach}
use Rattle.rr_eval.proofs.Holding.{with_control}
use Rattle.rr_eval.proofs.Invoking.{if_ok}
use Rattle.rr_eval.proofs.Splatted.{item_next, last_held, last_reached, back_reached, if_err}
use Rattle.rr_eval.proofs.engine.Engine.go_behind.Goals as goal

pub returns-then-count-gt0-clause-goes : goal.returns-then-count-gt0-clause-goes
returns-then-count-gt0-clause-goes c = λ h.
    let p = c.args.prepared.now.program in
    let t = c.args.space.now in
    let m = view_of c.args.self.now in
    let code = code_of p h.world in
    let s = state_of p m t h in
    let place = c.saturating_sub.result in
    let some : 0 < c.args.count = omega (arith, c.if-count-gt0.true) in
    item_next code m.frames c.args.target c.args.end c.args.count place c.args.base m.held s m.left some c.saturating_sub.ensures
    ∙ ap (λ fs. outcome_of code fs m.held (Enter place) s m.left) (sym c.push_within.ensures)

pub returns-then-count-gt0-clause-within : goal.returns-then-count-gt0-clause-within
returns-then-count-gt0-clause-within c clusters h =
    let k = reach (length c.args.space.now.slots) clusters in
    let m = view_of c.args.self.now in
    let fs = c.push_within.new.items.items in
    with_control k (record m { frames = fs }) (Enter c.saturating_sub.result) (back_reached k m (Item c.args.target c.args.end (c.args.count - 1) c.args.base) fs c.push_within.ensures h tt) tt

pub returns-clause-goes : goal.returns-clause-goes
returns-clause-goes c =
    let p = c.args.prepared.now.program in
    let t = c.args.space.now in
    let m = view_of c.args.self.now in
    let held = c.pop.new.self.items in
    let last = c.in-Some.last in
    let all : m.held ≡ held ++ last ∷ [] = c.in-Some.ensures.items in
    let none : c.args.count ≡ 0 = omega (arith, c.if-count-gt0.false) in
    let more = c.requires.some none in
    let size = ap length all ∙ length-append held (last ∷ []) in
    let le : c.args.base ≤ length held = omega (arith, more, size) in
    if_ok c.resume_other.result _ _
    (λ q goes h. last_held p m t c.args.target c.args.end c.args.count c.args.base held last h m.left none all le ∙ goes h)
    c.resume_other.ensures.goes

pub returns-clause-within : goal.returns-clause-within
returns-clause-within c clusters h =
    let k = reach (length c.args.space.now.slots) clusters in
    let m = view_of c.args.self.now in
    let reached = last_reached k m c.pop.new.self.items c.in-Some.last c.in-Some.ensures.items h in
    c.resume_other.ensures.within clusters reached.0 tt reached.1

pub returns-clause-asks : goal.returns-clause-asks
returns-clause-asks c clusters h =
    let k = reach (length c.args.space.now.slots) clusters in
    let m = view_of c.args.self.now in
    let reached = last_reached k m c.pop.new.self.items c.in-Some.last c.in-Some.ensures.items h in
    c.resume_other.ensures.asks clusters reached.0 tt reached.1

pub returns-clause-back : goal.returns-clause-back
returns-clause-back c =
    let p = c.args.prepared.now.program in
    let t = c.args.space.now in
    let m = view_of c.args.self.now in
    let held = c.pop.new.self.items in
    let last = c.in-Some.last in
    let all : m.held ≡ held ++ last ∷ [] = c.in-Some.ensures.items in
    let none : c.args.count ≡ 0 = omega (arith, c.if-count-gt0.false) in
    let more = c.requires.some none in
    let size = ap length all ∙ length-append held (last ∷ []) in
    let le : c.args.base ≤ length held = omega (arith, more, size) in
    if_err c.resume_other.result _ _
    (λ f goes h. last_held p m t c.args.target c.args.end c.args.count c.args.base held last h m.left none all le ∙ goes h)
    c.resume_other.ensures.back
