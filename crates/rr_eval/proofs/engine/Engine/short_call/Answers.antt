-- The call comes to the method, whose operators the chain has.
use Rattle.std.proofs.Common.{◌≡◌, ◌+◌, ◌≤◌, ◌∙◌, [], None, Some, ap, arith, false, length, refl, suc, sym, subst}
use Rattle.std.specs.Option.{option_map}
use Rattle.rr_parser.specs.Grammar.Names.{is_splat}
use Rattle.rr_tree.specs.Nodes.{trees_before}
use Rattle.rr_tree.specs.Tree.{tree_at}
use Rattle.rr_eval.specs.declared.call.Callee.TheVariants.{Name}
use Rattle.rr_eval.specs.declared.call_stack.Entry.TheVariants.{OfMethod}
use Rattle.rr_eval.specs.Blocks.{entered, invocation, running}
use Rattle.rr_eval.specs.Dispatch.{dispatched, method_for, run_work, way_of}
use Rattle.rr_eval.specs.Filled.{leaf_values}
use Rattle.rr_eval.specs.Frames.{means, runs_in}
use Rattle.rr_eval.specs.Nodes.{evaluated_tree}
use Rattle.rr_eval.specs.Prepared.{callable_of, method_of, work_in}
use Rattle.rr_eval.specs.Requests.{Course}
use Rattle.rr_eval.specs.Rules.{own_method, rule}
use Rattle.rr_eval.specs.Script.{See}
use Rattle.rr_eval.specs.SimpleParts.{IsSimple, linked, links_of}
use Rattle.rr_eval.specs.declared.simple_parts.SimplePart.TheVariants.{Apart}
use Rattle.rr_eval.specs.Turns.{context_of, code_of, state_of}
use Rattle.rr_eval.specs.Unframed.{TakesInside}
use Rattle.rr_eval.specs.Views.{view_of}
use Rattle.rr_eval.proofs.Depth.{meaning_rule}
use Rattle.rr_eval.proofs.Filled.{filled_call, leaves_take, list_fills, trees_as_many, values_as_many}
use Rattle.rr_eval.proofs.Frameless.{lies_called, method_gives}
use Rattle.rr_eval.proofs.Invoking.{as_many}
use Rattle.rr_eval.proofs.Lists.{call_is}
use Rattle.rr_eval.proofs.QuickCalls.{own_comes}
use Rattle.rr_eval.proofs.engine.Engine.short_call.Goals as goal

pub fill_chain-requires : goal.fill_chain-requires
fill_chain-requires c =
    let p = c.args.prepared.now.program in
    let ns = p.nodes.items in
    let node = c.in-Some-Call in
    let trees = trees_before ns (node.field-0-1 + node.count) node.count in
    let known = filled_call p c.args.prepared.now.simple.links.items c.in-Some-Apart-Call.chain (tree_at ns c.in-Some-Apart-Call.body) (tree_at ns c.args.place) node.name.0 trees (node.ensures.tree ∙ ap (evaluated_tree ns) node.field-0-is) (subst (IsSimple p c.args.prepared.now.simple.links.items (tree_at ns c.args.place)) (c.in-Some-Apart-Call.field-0-is ∙ ap Apart c.in-Some-Apart-Call.field-0-0-is) c.in-Some-Apart-Call.ensures) in
    record { short = known.0 }

pub returns-clause-takes : goal.returns-clause-takes
returns-clause-takes c = λ h n.
    let p = c.args.prepared.now.program in
    let ns = p.nodes.items in
    let own = context_of p in
    let code = code_of p h.world in
    let m = view_of c.args.self.now in
    let t = c.args.space.now in
    let s = state_of p m t h in
    let links = c.args.prepared.now.simple.links.items in
    let chain = c.in-Some-Apart-Call.chain in
    let node = c.in-Some-Call in
    let name = node.name in
    let count = node.count in
    let definition = c.in-Some-Some.definition in
    let run = c.in_ok-statements.statements in
    let home = c.in_ok-next_number.field-0 in
    let found = c.in_ok-found.found in
    let f = callable_of ns definition in
    let tree = tree_at ns c.args.place in
    let trees = trees_before ns (node.field-0-1 + count) count in
    let vs = leaf_values trees m.calls.frames in
    let itself = (running m.calls.frames).itself in
    let known = filled_call p links chain (tree_at ns c.in-Some-Apart-Call.body) tree name.0 trees (node.ensures.tree ∙ ap (evaluated_tree ns) node.field-0-is) (subst (IsSimple p c.args.prepared.now.simple.links.items (tree_at ns c.args.place)) (c.in-Some-Apart-Call.field-0-is ∙ ap Apart c.in-Some-Apart-Call.field-0-0-is) c.in-Some-Apart-Call.ensures) in
    let method : (g : Course) → Some f ≡ own_method own name.0 (state_of p m t g).memory = λ g.
    sym (ap (option_map (callable_of ns)) c.in-Some-Some.field-0-is) ∙ c.in-Some-Some.ensures.finds ∙ ap (λ v. method_for own t v (Name name)) c.itself.ensures.value in
    let script = ap (rule own) (node.ensures.tree ∙ ap (evaluated_tree ns) node.field-0-is) ∙ sym (call_is ns own name node.field-0-1 count node.field-0-3) in
    let other = c.if-statements-body.false in
    let there : run.node ≡ c.in-Some-Apart-Call.body = omega (arith, other) in
    let takes = leaves_take p m t trees known.2 in
    let many : length trees ≡ count = trees_as_many ns (node.field-0-1 + count) count in
    let given : length vs ≡ run.shape.parameters = values_as_many trees m.calls.frames ∙ many ∙ sym c.in_ok-statements.ensures.many in
    let way = way_of (Name name) None itself vs in
    let its = method_of ns run in
    let call = invocation way definition.class its in
    let lies = lies_called (OfMethod call) run.shape.parameters run.shape.size home vs m.calls.frames given c.in_ok-statements.ensures.fit (sym c.in_ok-next_number.ensures.number) in
    let whole = linked p (tree_at ns chain.first) (links_of links chain) in
    let fills = list_fills p m trees home (tree_at ns c.in-Some-Apart-Call.body) whole found.steps found.value known.3 (c.in_ok-found.ensures.fills trees home known.2) in
    let rest = found.steps + 1 + n in
    let sum : found.steps + count + 2 + n ≡ suc (length trees + rest) = omega (arith, many) in
    ap (means code tree s) sum
    ∙ meaning_rule own h.world tree s (length trees + rest)
    ∙ own_comes p m t c.args.place (length trees) name f trees [] vs script method takes h rest
    ∙ ap (λ o. runs_in code (dispatched own o (Name name) None itself vs) s rest) (sym (method h))
    ∙ ap (λ w. runs_in code (run_work own definition.class (work_in ns w) way vs) s rest) c.in_ok-statements.ensures.runs
    ∙ ap (λ x. runs_in code x s rest) (sym (as_many own its.parameters vs (See (λ k. entered own way definition.class its vs k.calls)) given))
    ∙ method_gives p m t call its.parameters its.size home (found.steps + 1) vs its.body found.value refl c.in_ok-next_number.ensures.room lies
    (subst (λ x. TakesInside p m vs home (tree_at ns x) (found.steps + 1) found.value) (sym there) fills) h n

pub returns-clause-few : goal.returns-clause-few
returns-clause-few c =
    let p = c.args.prepared.now.program in
    let ns = p.nodes.items in
    let node = c.in-Some-Call in
    let trees = trees_before ns (node.field-0-1 + node.count) node.count in
    let known = filled_call p c.args.prepared.now.simple.links.items c.in-Some-Apart-Call.chain (tree_at ns c.in-Some-Apart-Call.body) (tree_at ns c.args.place) node.name.0 trees (node.ensures.tree ∙ ap (evaluated_tree ns) node.field-0-is) (subst (IsSimple p c.args.prepared.now.simple.links.items (tree_at ns c.args.place)) (c.in-Some-Apart-Call.field-0-is ∙ ap Apart c.in-Some-Apart-Call.field-0-0-is) c.in-Some-Apart-Call.ensures) in
    omega (arith, known.1, trees_as_many ns (node.field-0-1 + node.count) node.count, c.in_ok-found.ensures.few)

pub returns-clause-plain : goal.returns-clause-plain
returns-clause-plain c =
    let ns = c.args.prepared.now.program.nodes.items in
    let node = c.in-Some-Call in
    subst (λ z. is_splat z ≡ false) (sym (node.ensures.tree ∙ ap (evaluated_tree ns) node.field-0-is)) refl

pub returns-clause-within : goal.returns-clause-within
returns-clause-within c = c.in_ok-found.ensures.within
