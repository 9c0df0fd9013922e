-- The part is evaluated, and its value given to the block.
use Rattle.std.proofs.Common.{◌≡◌, ◌+◌, ◌∙◌, ◌∷◌, [], ap, arith, refl, subst, suc, sym}
use Rattle.rr_frames.specs.declared.activation.Activation.{Activation}
use Rattle.rr_tree.specs.Nodes.{trees_before}
use Rattle.rr_tree.specs.Tree.{tree_at}
use Rattle.rr_tree.specs.declared.node.Node.TheVariants.{Yield}
use Rattle.rr_eval.specs.Blocks.{yield_to}
use Rattle.rr_eval.specs.Frames.{means, runs_in}
use Rattle.rr_eval.specs.Nodes.{evaluated_tree}
use Rattle.rr_eval.specs.Rules.{rule}
use Rattle.rr_eval.specs.Turns.{context_of, code_of, state_of}
use Rattle.rr_eval.specs.Usual.{TakeFirst}
use Rattle.rr_eval.specs.Views.{view_of}
use Rattle.rr_eval.proofs.Depth.{meaning_rule}
use Rattle.rr_eval.proofs.Lists.{yield_is}
use Rattle.rr_eval.proofs.QuickCalls.{yield_comes}
use Rattle.rr_eval.proofs.QuickParts.{first_more, first_none}
use Rattle.rr_eval.proofs.engine.Engine.do_yield.Goals as goal

pub returns-clause-sets : goal.returns-clause-sets
returns-clause-sets c = λ t h i.
    let p = c.args.prepared.now.program in
    let ns = p.nodes.items in
    let own = context_of p in
    let code = code_of p h.world in
    let m = view_of c.args.self.now in
    let s = state_of p m t h in
    let node = c.in-Some-Yield-default-eq1 in
    let value = c.in_ok-given.given in
    let done = c.in_ok-done.done in
    let tree = tree_at ns c.args.place in
    let vs = value.value ∷ [] in
    let trees = trees_before ns (node.first + 1) 1 in
    let one : node.field-0-1 ≡ 1 = omega (arith, node.field-0-1-test) in
    let script = ap (rule own) (node.ensures.tree ∙ ap (evaluated_tree ns) node.field-0-is ∙ ap (λ k. evaluated_tree ns (Yield node.first k)) one) ∙ sym (yield_is ns own node.first 1) in
    let none : 0 + value.steps ≡ value.steps = omega arith in
    let first : TakeFirst p m t trees value.steps vs [] =
    subst (λ k. TakeFirst p m t trees k vs []) none
    (first_more p m t trees (node.first + 1) 0 1 value.steps node.first 0 [] vs value.value (first_none p m t trees [] refl) (omega arith) (omega arith) (omega arith) refl c.in_ok-given.ensures.plain (c.in_ok-given.ensures.takes t)) in
    let given_is = ap (λ (a : Activation). a.given) (sym c.running.ensures) ∙ c.in-Block.is in
    let sum : done.steps + value.steps + 1 + i ≡ suc (value.steps + (done.steps + i)) = omega arith in
    ap (means code tree s) sum
    ∙ meaning_rule own h.world tree s (value.steps + (done.steps + i))
    ∙ yield_comes p m t c.args.place value.steps trees [] vs script first h (done.steps + i)
    ∙ ap (λ g. runs_in code (yield_to own g vs s.memory) s (done.steps + i)) given_is
    ∙ c.in_ok-done.ensures.sets t h i
