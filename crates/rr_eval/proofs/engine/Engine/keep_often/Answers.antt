-- The next part is evaluated.
use Rattle.std.proofs.Common.{◌≡◌, sym, ap, ◌-◌, ◌∙◌, [], ◌∷◌, ◌++◌}
use Rattle.rr_eval.specs.declared.frame.Frame.TheVariants.{Item}
use Rattle.rr_eval.specs.declared.frame.Control.TheVariants.{Enter}
use Rattle.rr_eval.specs.Frames.{outcome_of}
use Rattle.rr_eval.specs.Turns.{code_of, state_of}
use Rattle.rr_eval.specs.Views.{view_of}
use Rattle.rr_eval.proofs.Splatted.{item_kept}
use Rattle.rr_eval.proofs.engine.Engine.keep_often.Goals as goal

pub returns-clause-goes : goal.returns-clause-goes
returns-clause-goes c = λ _ p t h n.
    let m = view_of c.args.self.now in
    let s = state_of p m t h in
    let place = c.saturating_sub.result in
    let frames = m.frames ++ Item c.args.target c.args.end (c.args.count - 1) c.args.base ∷ [] in
    let pushed : c.push_within.new.items.items ≡ frames = c.push_within.ensures in
    item_kept (code_of p h.world) m.frames c.args.target c.args.end c.args.count place c.args.base m.held c.args.value s n c.requires.some c.saturating_sub.ensures c.requires.base
    ∙ ap (λ held. outcome_of (code_of p h.world) frames held (Enter place) s n) (sym c.push_reserved.ensures.items)
    ∙ ap (λ fs. outcome_of (code_of p h.world) fs c.push_reserved.new.self.items (Enter place) s n) (sym pushed)
