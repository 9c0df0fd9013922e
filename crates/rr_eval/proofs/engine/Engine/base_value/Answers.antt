-- The choice ends the method in the frame that it would have.
use Rattle.std.proofs.Common.{◌≡◌, ◌+◌, ◌<◌, ◌∙◌, None, Some, ap, arith, refl, sym, length, slice_get, rules, w64, to_z, of_z}
use Rattle.std.proofs.lemmas.Bool.Decides.{nat_tests}
use Rattle.std.proofs.lemmas.Option.{slice_get-get_or}
use Rattle.rr_space.specs.declared.refer.Ref.TheVariants.{Int}
use Rattle.rr_tree.specs.Tree.{tree_at}
use Rattle.rr_eval.specs.declared.call.Callee.TheVariants.{Name}
use Rattle.rr_eval.specs.declared.call_stack.Entry.TheVariants.{OfMethod}
use Rattle.rr_eval.specs.BaseCases.{part_of}
use Rattle.rr_eval.specs.Blocks.{invocation, entered, running}
use Rattle.rr_eval.specs.Dispatch.{run_work, way_of}
use Rattle.rr_eval.specs.Frames.{runs_in}
use Rattle.rr_eval.specs.Nodes.{evaluated_tree}
use Rattle.rr_eval.specs.Prepared.{method_of, work_in}
use Rattle.rr_eval.specs.Rules.{operation}
use Rattle.rr_eval.specs.Script.{See}
use Rattle.rr_eval.specs.Turns.{context_of, code_of, state_of}
use Rattle.rr_eval.specs.Unframed.{framed_with}
use Rattle.rr_eval.specs.Views.{view_of}
use Rattle.rr_eval.proofs.Bases.{base_ends, method_ends, sequence_ends}
use Rattle.rr_eval.proofs.Frameless.{lies_called, reads_own}
use Rattle.rr_eval.proofs.Invoking.{as_many}
use Rattle.rr_eval.proofs.engine.Engine.base_value.Goals as goal

pub returns-clause-comes : goal.returns-clause-comes
returns-clause-comes c = λ name t h i.
    let p = c.args.prepared.now.program in
    let ns = p.nodes.items in
    let own = context_of p in
    let m = view_of c.args.self.now in
    let vs = c.args.values.now in
    let base = c.args.base.now in
    let class = c.args.definition.now.class in
    let body = c.in_ok-body.body in
    let list = c.in-Some-Sequence in
    let found = c.in_ok-found.found in
    let home = c.in_ok-home.home in
    let way = way_of (Name name) None (running m.calls.frames).itself vs in
    let method = method_of ns body in
    let call = invocation way class method in
    let count = sym c.in_ok-body.ensures.many in
    let lies = lies_called (OfMethod call) body.shape.parameters body.shape.size home vs m.calls.frames count c.in_ok-body.ensures.fit (sym c.in_ok-home.ensures.number) in
    let at = list.ensures.tree ∙ ap (evaluated_tree ns) list.field-0-is in
    let sure = c.if-not-ends_statements.false in
    let first = c.ends_statements.ensures.first sure in
    let some = c.ends_statements.ensures.some sure in
    let single = c.ends_statements.ensures.single sure in
    let lookup = c.in_ok-argument.ensures.lookup in
    let argument = c.in_ok-argument.field-0.now in
    let tested = c.in_ok-tested.tested in
    let x = base.parameter in
    let test = lookup.0 in
    let inside : x < length vs = grind (arith, nat_tests) in
    let there : slice_get vs x ≡ Some argument = slice_get-get_or vs x argument inside ∙ ap Some (sym lookup.1) in
    let holds = c.if-not-is_truthy.false in
    let whole : to_z w64 (of_z w64 base.integer) ≡ base.integer = search rules in
    let steps = found.steps + base.steps + 4 in
    ap (λ w. runs_in (code_of p h.world) (run_work own class (work_in ns w) way vs) (state_of p m t h) (steps + i)) c.in_ok-body.ensures.runs
    ∙ ap (λ s. runs_in (code_of p h.world) s (state_of p m t h) (steps + i)) (sym (as_many own method.parameters vs (See (λ k. entered own way class method vs k.calls)) count))
    ∙ method_ends p m t call method.parameters method.size home steps vs method.body base.returns found.value refl c.in_ok-home.ensures.room lies
    (λ f u lie outside.
    let n = framed_with f m in
    let reads = reads_own m.calls.frames f vs home x argument lie there in
    let ends = base_ends p n u (tree_at ns base.place) (tree_at ns base.value) (part_of ns base.otherwise) base.op (record { depth = 0; slot = x }) base.integer base.returns base.steps found.steps (found.steps + base.steps + 3) found.value tested outside c.requires.is.0
    (λ k. ap (λ v. operation k base.op v (Int base.integer)) reads ∙ ap (λ z. operation k base.op argument (Int z)) (sym whole) ∙ c.in_ok-tested.ensures.gives k) (sym c.is_truthy.ensures ∙ holds) (c.in_ok-found.ensures.takes f u lie) refl in
    sequence_ends p n u (tree_at ns body.node) (list.first + list.count) list.count base.place (found.steps + base.steps + 3) steps base.returns found.value at some single (omega (arith, first)) ends (omega arith)) h i

pub returns-clause-within : goal.returns-clause-within
returns-clause-within c = c.in_ok-found.ensures.within
