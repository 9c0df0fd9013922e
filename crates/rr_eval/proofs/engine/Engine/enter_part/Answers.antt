-- The next part is evaluated over the values that are held.
use Rattle.std.proofs.Common.{◌≡◌, ◌∙◌, ◌+◌, ◌-◌, ap, sym, arith}
use Rattle.rr_eval.specs.declared.frame.Control.TheVariants.{Enter}
use Rattle.rr_eval.specs.declared.frame.Frame.TheVariants.{Item}
use Rattle.rr_eval.specs.Frames.{outcome_of}
use Rattle.rr_eval.specs.Turns.{code_of, state_of}
use Rattle.rr_eval.specs.Views.{view_of}
use Rattle.rr_eval.proofs.Holding.{with_control, with_left}
use Rattle.rr_eval.proofs.Splatted.{item_next, back_reached}
use Rattle.rr_eval.proofs.engine.Engine.enter_part.Goals as goal

pub returns-clause-goes : goal.returns-clause-goes
returns-clause-goes c = λ p t h.
    let m = view_of c.args.self.now in
    let code = code_of p h.world in
    let s = state_of p m t h in
    let place = c.saturating_sub.result in
    let parts = c.args.parts in
    let k = m.left - (parts.steps + 1) in
    let spent : k ≡ m.left - parts.steps - 1 = omega arith in
    item_next code m.frames c.args.target c.args.end parts.rest place c.args.base m.held s k c.requires.some c.saturating_sub.ensures
    ∙ ap (λ fs. outcome_of code fs m.held (Enter place) s k) (sym c.push_within.ensures)
    ∙ ap (λ i. outcome_of code c.push_within.new.items.items m.held (Enter place) s i) spent

pub returns-clause-within : goal.returns-clause-within
returns-clause-within c k h =
    let m = view_of c.args.self.now in
    let parts = c.args.parts in
    let fs = c.push_within.new.items.items in
    let waits = back_reached k m (Item c.args.target c.args.end (parts.rest - 1) c.args.base) fs c.push_within.ensures h tt in
    with_left k _ _ (with_control k (record m { frames = fs }) (Enter c.saturating_sub.result) waits tt)
