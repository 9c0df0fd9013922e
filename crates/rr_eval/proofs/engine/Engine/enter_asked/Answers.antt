-- A frame more for the method by which a value is asked, and what it holds is reached.
use Rattle.std.proofs.Common.{◌≡◌, ◌∙◌, ◌++◌, ◌∷◌, ◌-◌, [], ap, sym, refl, reverse, drop, take, length, nat_lt, slice_index_or, None}
use Rattle.rr_space.specs.declared.refer.Ref.TheVariants.{Nil}
use Rattle.rr_tree.specs.Tree.{tree_at}
use Rattle.rr_eval.specs.declared.call.Callee.TheVariants as callees
use Rattle.rr_eval.specs.declared.call_stack.Entry.TheVariants.{OfMethod}
use Rattle.rr_eval.specs.declared.frame.Frame.TheVariants.{Asked as AskedFrame}
use Rattle.rr_builtin.specs.declared.problem.Problem.TheVariants.{TooDeep}
use Rattle.rr_eval.specs.declared.problem.Problem.TheVariants.{BuiltIn}
use Rattle.rr_eval.specs.Basics.{throw}
use Rattle.rr_eval.specs.Blocks.{activation_in, invocation}
use Rattle.rr_eval.specs.Dispatch.{way_of}
use Rattle.rr_eval.specs.Frames.{evaluates, means, unwind}
use Rattle.rr_eval.specs.Prepared.{method_of}
use Rattle.rr_eval.specs.Speaking.{asked_on}
use Rattle.rr_eval.specs.Turns.{context_of, code_of, state_of, after_values}
use Rattle.rr_eval.specs.Views.{view_of}
use Rattle.rr_eval.proofs.Answered.{asked_enters, asking_reached, asked_too_deep, is_full}
use Rattle.rr_eval.proofs.Holding.{activation_within, calls_reached, held_reached, refused_reached}
use Rattle.rr_eval.proofs.Invoking.{has_room}
use Rattle.rr_eval.proofs.engine.Engine.enter_asked.Goals as goal

pub returns-in-Ok-clause-goes : goal.returns-in-Ok-clause-goes
returns-in-Ok-clause-goes c = λ p t h n.
    let m = view_of c.args.self.now in
    let a = c.args.asking in
    let stand = drop a.base m.held in
    let v = slice_index_or stand (a.seen - 1) Nil in
    let body = c.args.body in
    let code = code_of p h.world in
    let value : c.value_at.result ≡ v = c.value_at.ensures.is ∙ ap (λ l. slice_index_or l c.saturating_sub.result Nil) c.standing-stand.ensures.is ∙ ap (λ i. slice_index_or stand i Nil) c.saturating_sub.ensures in
    let call = c.invocation.ensures.is p ∙ ap (λ r. invocation (way_of (callees.Name a.name) None r []) c.args.class (method_of p.nodes.items body)) value in
    asked_enters p h.world m.frames m.held a v c.args.class body c.invocation.result c.push.new.self m.blocks c.push_within.new.items.items (state_of p m t h) n call
    (has_room m.calls c.in-Ok.ensures.room) refl (c.push_within.ensures ∙ ap (λ l. l ++ None ∷ []) c.reserve.ensures.items) c.in-Ok.ensures.pushed c.in-Ok.ensures.limit
    ∙ ap (λ fs. unwind code (reverse fs) m.held (means code (tree_at p.nodes.items body.node) (state_of p (record m { calls = c.push.new.self; blocks = c.push_within.new.items.items }) t h) n)) (sym c.push_within-in-Ok.ensures)

pub returns-in-Ok-clause-within : goal.returns-in-Ok-clause-within
returns-in-Ok-clause-within c k h =
    let m = view_of c.args.self.now in
    let receiver = c.value_at.ensures.within k (c.standing-stand.ensures.within k (held_reached k m h)) in
    let entry = c.invocation.ensures.within k (receiver, tt) in
    asking_reached k m c.args.asking _ _ _ c.args.body.shape.parameters c.args.body.shape.size c.args.body.node (activation_in (OfMethod c.invocation.result) m.calls.frames) c.push_within-in-Ok.ensures c.in-Ok.ensures.pushed h
    (activation_within k (OfMethod c.invocation.result) m.calls.frames (calls_reached k m h) entry)

pub returns-in-Err-Limit-Frames-clause-goes : goal.returns-in-Err-Limit-Frames-clause-goes
returns-in-Err-Limit-Frames-clause-goes c = λ p t h n.
    let m = view_of c.args.self.now in
    let a = c.args.asking in
    let stand = drop a.base m.held in
    let code = code_of p h.world in
    let f = AskedFrame a in
    let problem = BuiltIn TooDeep in
    let full = is_full (nat_lt (length m.calls.frames) m.calls.limit) c.in-Err-Limit-Frames.field-0 _ c.in-Err-Limit-Frames.field-0-is c.in-Err-Limit-Frames.ensures.fault in
    ap (unwind code (reverse m.frames) (take a.base m.held)) (asked_too_deep p h.world (evaluates code) a.name (slice_index_or stand (a.seen - 1) Nil) c.args.class c.args.body (asked_on (context_of p) a stand) (state_of p m t h) n full)
    ∙ ap (λ k. after_values p (record m { calls = k }) t f (throw (context_of p) problem) h n) (sym c.in-Err-Limit-Frames.ensures.refused)
    ∙ ap (λ b. after_values p (record m { calls = c.push.new.self; blocks = b }) t f (throw (context_of p) problem) h n) (sym c.reserve.ensures.items)
    ∙ c.refuse.ensures.goes p t h n

pub returns-in-Err-Limit-Frames-clause-within : goal.returns-in-Err-Limit-Frames-clause-within
returns-in-Err-Limit-Frames-clause-within c k h =
    c.refuse.ensures.within k (refused_reached k (view_of c.args.self.now) _ _ c.in-Err-Limit-Frames.ensures.refused c.reserve.ensures.items h)
