-- A method's statements are evaluated where there are as many arguments as it has parameters.
use Rattle.std.proofs.Common.{◌≡◌, ◌++◌, ◌∙◌, ap, sym, length}
use Rattle.std.specs.Option.{option_map}
use Rattle.rr_frames.specs.Frames.{list_of}
use Rattle.rr_tree.specs.Tree.{tree_at}
use Rattle.rr_eval.specs.declared.call_stack.Entry.TheVariants.{OfMethod}
use Rattle.rr_eval.specs.Blocks.{entered}
use Rattle.rr_eval.specs.Dispatch.{passed_on}
use Rattle.rr_eval.specs.Frames.{stand_of}
use Rattle.rr_eval.specs.Prepared.{method_of, way_in}
use Rattle.rr_eval.specs.Rules.{framed}
use Rattle.rr_eval.specs.Script.{See}
use Rattle.rr_eval.specs.Turns.{context_of, after_values}
use Rattle.rr_eval.specs.Views.{view_of}
use Rattle.rr_eval.proofs.Invoking.{as_many}
use Rattle.rr_eval.proofs.engine.Engine.begin_statements.Goals as goal

pub returns-clause-goes : goal.returns-clause-goes
returns-clause-goes c = λ done p t h n.
    let m = view_of c.args.self.now in
    let f = c.args.frame in
    let body = c.args.body in
    let vs = passed_on c.args.passing (stand_of f m.held ++ list_of c.args.last) in
    let count : c.count_of-given.result ≡ length vs = c.count_of-given.ensures ∙ ap (λ l. length (passed_on c.args.passing (l ++ list_of c.args.last))) c.standing.ensures.is in
    let same : length vs ≡ body.shape.parameters = sym count ∙ c.if-given-body.false in
    let own = context_of p in
    let ns = p.nodes.items in
    let next = See (λ k. entered own (way_in ns c.args.way) c.args.class (method_of ns body) vs k.calls) in
    ap (λ r. after_values p m t f r h n) (sym (as_many own body.shape.parameters vs next same))
    ∙ ap (λ i. after_values p m t f (framed own (OfMethod i) body.shape.parameters body.shape.size vs (option_map (tree_at ns) c.args.way.block) (tree_at ns body.node) m.calls) h n) (sym (c.invocation.ensures.is p))
    ∙ c.begin_body.ensures.goes done p t h n

pub returns-clause-within : goal.returns-clause-within
returns-clause-within c k h way last = c.begin_body.ensures.within k h (c.invocation.ensures.within k way) last
