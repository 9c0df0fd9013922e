-- The key is evaluated first, and then the value and the other pairs.
use Rattle.std.proofs.Common.{◌≡◌, sym, ap, ◌-◌, ◌∙◌, [], ◌∷◌, ◌++◌, reverse, take, drop}
use Rattle.rr_tree.specs.Tree.{tree_at}
use Rattle.rr_eval.specs.declared.frame.Frame.TheVariants.{Key}
use Rattle.rr_eval.specs.declared.frame.Control.TheVariants.{Enter}
use Rattle.rr_eval.specs.Frames.{means, runs_in, unwind, outcome_of}
use Rattle.rr_eval.specs.Turns.{code_of, state_of}
use Rattle.rr_eval.specs.Views.{view_of}
use Rattle.rr_eval.proofs.Pairing.{pairs_from}
use Rattle.rr_eval.proofs.Unwind.{rest_push}
use Rattle.rr_eval.proofs.engine.Engine.enter_pair.Goals as goal

pub returns-clause-goes : goal.returns-clause-goes
returns-clause-goes c t h n =
    let p = c.args.program.now in
    let m = view_of c.args.self.now in
    let s = state_of p m t h in
    let code = code_of p h.world in
    let pair = c.pair_at-pair.result in
    let f = Key pair.1 c.args.end (c.args.count - 1) c.args.base in
    let frames = m.frames ++ f ∷ [] in
    let pushed : c.push_within.new.items.items ≡ frames = c.push_within.ensures in
    ap (λ r. unwind code (reverse m.frames) (take c.args.base m.held) (runs_in code r s n))
    (sym (pairs_from code c.args.end c.args.count c.saturating_sub.result pair.0 pair.1 c.args.base (drop c.args.base m.held) c.requires.some c.saturating_sub.ensures c.pair_at-pair.ensures.key c.pair_at-pair.ensures.value))
    ∙ sym (rest_push code m.frames f m.held (means code (tree_at p.nodes.items pair.0) s n))
    ∙ ap (λ fs. outcome_of code fs m.held (Enter pair.0) s n) (sym pushed)
