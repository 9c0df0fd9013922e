-- The key is kept, and the value is evaluated.
use Rattle.std.proofs.Common.{◌≡◌, sym, ap, refl, ◌∙◌, [], ◌∷◌, ◌++◌}
use Rattle.rr_tree.specs.Tree.{tree_at}
use Rattle.rr_eval.specs.declared.frame.Frame.TheVariants.{Value}
use Rattle.rr_eval.specs.declared.frame.Control.TheVariants.{Enter}
use Rattle.rr_eval.specs.Frames.{means, outcome_of}
use Rattle.rr_eval.specs.Turns.{code_of, state_of}
use Rattle.rr_eval.specs.Views.{view_of}
use Rattle.rr_eval.proofs.Unwind.{kept_over}
use Rattle.rr_eval.proofs.engine.Engine.keep_key.Goals as goal

pub returns-clause-goes : goal.returns-clause-goes
returns-clause-goes c p t h n =
    let m = view_of c.args.self.now in
    let s = state_of p m t h in
    let code = code_of p h.world in
    let f = Value c.args.end c.args.count c.args.base in
    let frames = m.frames ++ f ∷ [] in
    let pushed : c.push_within.new.items.items ≡ frames = c.push_within.ensures in
    kept_over code m.frames f c.args.base m.held c.args.value (means code (tree_at p.nodes.items c.args.next) s n) (λ l. refl) (λ l. refl) c.requires.base
    ∙ ap (λ held. outcome_of code frames held (Enter c.args.next) s n) (sym c.in_ok-push.ensures.items)
    ∙ ap (λ fs. outcome_of code fs c.push.new.self.items (Enter c.args.next) s n) (sym pushed)
