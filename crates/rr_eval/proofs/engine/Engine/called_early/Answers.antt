-- The call comes to the method, which the choice ends.
use Rattle.std.proofs.Common.{◌≡◌, ◌+◌, ◌∙◌, [], ◌∷◌, None, ap, arith, refl, suc, sym}
use Rattle.rr_tree.specs.Nodes.{trees_before}
use Rattle.rr_tree.specs.Tree.{tree_at}
use Rattle.rr_eval.specs.declared.call.Callee.TheVariants.{Name}
use Rattle.rr_eval.specs.Blocks.{running}
use Rattle.rr_eval.specs.Dispatch.{dispatched}
use Rattle.rr_eval.specs.Frames.{means, runs_in}
use Rattle.rr_eval.specs.Prepared.{callable_of}
use Rattle.rr_eval.specs.Turns.{context_of, code_of, state_of}
use Rattle.rr_eval.specs.Views.{view_of}
use Rattle.rr_eval.proofs.Depth.{meaning_rule}
use Rattle.rr_eval.proofs.QuickCalls.{own_comes}
use Rattle.rr_eval.proofs.QuickParts.{first_more, first_none}
use Rattle.rr_eval.proofs.engine.Engine.called_early.Goals as goal

pub returns-clause-takes : goal.returns-clause-takes
returns-clause-takes c = λ h n.
    let p = c.args.prepared.now.program in
    let ns = p.nodes.items in
    let own = context_of p in
    let code = code_of p h.world in
    let m = view_of c.args.self.now in
    let t = c.args.space.now in
    let s = state_of p m t h in
    let name = c.args.name in
    let first = c.args.first in
    let found = c.args.found in
    let ended = c.in_ok-ended.ended in
    let f = callable_of ns c.args.definition.now in
    let tree = tree_at ns c.args.here in
    let trees = trees_before ns (first + 1) 1 in
    let itself = (running m.calls.frames).itself in
    let vs = found.value ∷ [] in
    let takes = first_more p m t trees (first + 1) 0 1 found.steps first 0 [] vs found.value (first_none p m t trees [] refl) (omega arith) (omega arith) (omega arith) refl c.requires.plain c.requires.takes in
    let sum : ended.steps + found.steps + 1 + n ≡ suc (0 + found.steps + (ended.steps + n)) = omega arith in
    ap (means code tree s) sum
    ∙ meaning_rule own h.world tree s (0 + found.steps + (ended.steps + n))
    ∙ own_comes p m t c.args.here (0 + found.steps) name f trees [] vs c.requires.script c.requires.method takes h (ended.steps + n)
    ∙ ap (λ o. runs_in code (dispatched own o (Name name) None itself vs) s (ended.steps + n)) (sym (c.requires.method h))
    ∙ c.in_ok-ended.ensures.comes name t h n

pub returns-clause-within : goal.returns-clause-within
returns-clause-within c = c.in_ok-ended.ensures.within
