-- The statements give the value in the frame that the method would have.
use Rattle.std.proofs.Common.{◌+◌, ◌∙◌, None, ap, refl, sym}
use Rattle.rr_tree.specs.Tree.{tree_at}
use Rattle.rr_eval.specs.declared.call.Callee.TheVariants.{Name}
use Rattle.rr_eval.specs.declared.call_stack.Entry.TheVariants.{OfMethod}
use Rattle.rr_eval.specs.Blocks.{invocation, entered, running}
use Rattle.rr_eval.specs.Dispatch.{run_work, way_of}
use Rattle.rr_eval.specs.Frames.{runs_in}
use Rattle.rr_eval.specs.Nodes.{evaluated_tree}
use Rattle.rr_eval.specs.Prepared.{method_of, work_in}
use Rattle.rr_eval.specs.Script.{See}
use Rattle.rr_eval.specs.Turns.{context_of, code_of, state_of}
use Rattle.rr_eval.specs.Unframed.{framed_with}
use Rattle.rr_eval.specs.Views.{view_of}
use Rattle.rr_eval.proofs.Frameless.{lies_called, method_gives, sequence_sets}
use Rattle.rr_eval.proofs.Invoking.{as_many}
use Rattle.rr_eval.proofs.engine.Engine.method_unframed.Goals as goal

pub returns-clause-comes : goal.returns-clause-comes
returns-clause-comes c = λ name t h i.
    let p = c.args.prepared.now.program in
    let ns = p.nodes.items in
    let own = context_of p in
    let m = view_of c.args.self.now in
    let vs = c.args.values.now in
    let class = c.args.definition.now.class in
    let body = c.in_ok-body.body in
    let list = c.in-Some-Sequence in
    let found = c.in_ok-found.found in
    let way = way_of (Name name) None (running m.calls.frames).itself vs in
    let method = method_of ns body in
    let call = invocation way class method in
    let count = sym c.in_ok-body.ensures.many in
    let fit = c.in_ok-body.ensures.fit in
    let lies = lies_called (OfMethod call) body.shape.parameters body.shape.size c.in_ok-home.home vs m.calls.frames count fit (sym c.in_ok-home.ensures.number) in
    let at = list.ensures.tree ∙ ap (evaluated_tree ns) list.field-0-is in
    ap (λ w. runs_in (code_of p h.world) (run_work own class (work_in ns w) way vs) (state_of p m t h) (found.steps + 1 + i)) c.in_ok-body.ensures.runs
    ∙ ap (λ x. runs_in (code_of p h.world) x (state_of p m t h) (found.steps + 1 + i)) (sym (as_many own method.parameters vs (See (λ k. entered own way class method vs k.calls)) count))
    ∙ method_gives p m t call method.parameters method.size c.in_ok-home.home (found.steps + 1) vs method.body found.value refl c.in_ok-home.ensures.room lies
    (λ f u lie. sequence_sets p (framed_with f m) (framed_with f m) u found.steps (list.first + list.count) list.count (tree_at ns body.node) found.value at (c.in_ok-found.ensures.takes f u lie)) h i

pub returns-clause-within : goal.returns-clause-within
returns-clause-within c = c.in_ok-found.ensures.within
