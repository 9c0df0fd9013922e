-- The receiver is kept, and the index is evaluated.
use Rattle.std.proofs.Common.{◌≡◌, sym, ap, refl, arith, ◌∙◌, [], ◌∷◌, ◌++◌, ◌≤◌, length, reverse, take}
use Rattle.std.proofs.lemmas.List.{take_all, drop_all}
use Rattle.rr_tree.specs.Tree.{tree_at}
use Rattle.rr_eval.specs.declared.call.Callee.TheVariants.{SetIndex}
use Rattle.rr_eval.specs.declared.call.Target.TheVariants.{Call}
use Rattle.rr_eval.specs.declared.frame.Frame.TheVariants.{Argument}
use Rattle.rr_eval.specs.declared.frame.Control.TheVariants.{Enter}
use Rattle.rr_eval.specs.Script.{after}
use Rattle.rr_eval.specs.Frames.{means, runs_in, resumed, unwind, outcome_of}
use Rattle.rr_eval.specs.Turns.{code_of, state_of}
use Rattle.rr_eval.specs.Views.{view_of}
use Rattle.rr_eval.proofs.Unwind.{kept_over}
use Rattle.rr_eval.proofs.engine.Engine.keep_receiver.Goals as goal

pub returns-clause-goes : goal.returns-clause-goes
returns-clause-goes c p t h n =
    let m = view_of c.args.self.now in
    let s = state_of p m t h in
    let code = code_of p h.world in
    let base = c.len-base.result in
    let value = c.args.value in
    let f = Argument (Call SetIndex) c.args.end 1 base in
    let frames = m.frames ++ f ∷ [] in
    let o = means code (tree_at p.nodes.items c.args.index) s n in
    let all : length m.held ≤ base = omega (arith, c.len-base.ensures) in
    let pushed : c.push_within.new.items.items ≡ frames = c.push_within.ensures in
    ap (λ l. unwind code (reverse m.frames) l (after o (λ a. runs_in code (resumed code f (value ∷ []) a)))) (sym (take_all base m.held all))
    ∙ ap (λ l. unwind code (reverse m.frames) (take base m.held) (after o (λ a. runs_in code (resumed code f (l ++ value ∷ []) a)))) (sym (drop_all base m.held all))
    ∙ kept_over code m.frames f base m.held value o (λ l. refl) (λ l. refl) (omega (arith, c.len-base.ensures))
    ∙ ap (λ held. outcome_of code frames held (Enter c.args.index) s n) (sym c.in_ok-push.ensures.items)
    ∙ ap (λ fs. outcome_of code fs c.push.new.self.items (Enter c.args.index) s n) (sym pushed)
