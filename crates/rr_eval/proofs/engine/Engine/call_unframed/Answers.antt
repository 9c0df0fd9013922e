-- The call comes to the method, which gives the value.
use Rattle.std.proofs.Common.{◌≡◌, ◌+◌, ◌∙◌, [], None, Some, ap, arith, suc, sym, take}
use Rattle.std.proofs.lemmas.List.{length-take}
use Rattle.std.specs.Option.{option_map}
use Rattle.rr_tree.specs.Nodes.{trees_before}
use Rattle.rr_tree.specs.Tree.{tree_at}
use Rattle.rr_eval.specs.declared.call.Callee.TheVariants.{Name}
use Rattle.rr_eval.specs.Blocks.{running}
use Rattle.rr_eval.specs.Dispatch.{dispatched, method_for}
use Rattle.rr_eval.specs.Frames.{means, runs_in}
use Rattle.rr_eval.specs.Nodes.{evaluated_tree}
use Rattle.rr_eval.specs.Prepared.{callable_of}
use Rattle.rr_eval.specs.Rules.{own_method, rule}
use Rattle.rr_eval.specs.Requests.{Course}
use Rattle.rr_eval.specs.Turns.{context_of, code_of, state_of}
use Rattle.rr_eval.specs.Views.{view_of}
use Rattle.rr_eval.proofs.Depth.{meaning_rule}
use Rattle.rr_eval.proofs.Lists.{call_is}
use Rattle.rr_eval.proofs.QuickCalls.{own_comes}
use Rattle.rr_eval.proofs.engine.Engine.call_unframed.Goals as goal

pub slice_bounds-values-end : goal.slice_bounds-values-end
slice_bounds-values-end c = let most = c.if-count-gt4.false in let size = c.arguments_unframed.ensures.size in omega (arith, most, size)

pub slice_bounds-method_unframed-end : goal.slice_bounds-method_unframed-end
slice_bounds-method_unframed-end c =
    let most = c.if-count-gt4.false in
    let size = c.arguments_unframed.ensures.size in
    let all = length-take c.in-Some-Call.count c.arguments_unframed.new.values in
    omega (arith, most, size, all)

pub returns-clause-takes : goal.returns-clause-takes
returns-clause-takes c = λ h n.
    let p = c.args.prepared.now.program in
    let ns = p.nodes.items in
    let own = context_of p in
    let code = code_of p h.world in
    let m = view_of c.args.self.now in
    let t = c.args.space.now in
    let s = state_of p m t h in
    let node = c.in-Some-Call in
    let name = node.name in
    let steps = c.in_ok-steps.steps in
    let found = c.in_ok-found.found in
    let f = callable_of ns c.in-Some-Some.definition in
    let vs = take node.count c.arguments_unframed.new.values in
    let tree = tree_at ns c.args.place in
    let trees = trees_before ns (node.first + node.count) node.count in
    let itself = (running m.calls.frames).itself in
    let method : (g : Course) → Some f ≡ own_method own name.0 (state_of p m t g).memory = λ g.
    sym (ap (option_map (callable_of ns)) c.in-Some-Some.field-0-is) ∙ c.in-Some-Some.ensures.finds ∙ ap (λ v. method_for own t v (Name name)) c.itself.ensures.value in
    let script = ap (rule own) (node.ensures.tree ∙ ap (evaluated_tree ns) node.field-0-is) ∙ sym (call_is ns own name node.first node.count node.field-0-3) in
    let sum : found.steps + steps + 1 + n ≡ suc (steps + (found.steps + n)) = omega arith in
    ap (means code tree s) sum
    ∙ meaning_rule own h.world tree s (steps + (found.steps + n))
    ∙ own_comes p m t c.args.place steps name f trees [] vs script method (c.in_ok-steps.ensures.takes t) h (found.steps + n)
    ∙ ap (λ o. runs_in code (dispatched own o (Name name) None itself vs) s (found.steps + n)) (sym (method h))
    ∙ c.in_ok-found.ensures.comes name t h n

pub returns-clause-within : goal.returns-clause-within
returns-clause-within c = c.in_ok-found.ensures.within
