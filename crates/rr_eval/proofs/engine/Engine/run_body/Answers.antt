-- A method's statements are evaluated where there are as many arguments as it has parameters.
use Rattle.std.proofs.Common.{◌≡◌, ◌++◌, ◌∙◌, ap, sym, length}
use Rattle.std.specs.Option.{option_map}
use Rattle.rr_frames.specs.Frames.{list_of}
use Rattle.rr_tree.specs.Tree.{tree_at}
use Rattle.rr_eval.specs.declared.call_stack.Entry.TheVariants.{OfMethod}
use Rattle.rr_builtin.specs.declared.problem.Problem.TheVariants.{Count}
use Rattle.rr_eval.specs.declared.problem.Problem.TheVariants.{BuiltIn}
use Rattle.rr_eval.specs.Blocks.{entered}
use Rattle.rr_eval.specs.Dispatch.{passed_on}
use Rattle.rr_eval.specs.Frames.{stand_of}
use Rattle.rr_eval.specs.Prepared.{method_of, way_in}
use Rattle.rr_eval.specs.Rules.{framed, throw}
use Rattle.rr_eval.specs.Script.{See}
use Rattle.rr_eval.specs.Turns.{context_of, after_values}
use Rattle.rr_eval.specs.Views.{view_of}
use Rattle.rr_eval.proofs.Invoking.{as_many, others, on_ok}
use Rattle.rr_eval.proofs.engine.Engine.run_body.Goals as goal

pub returns-then-given-body-clause-goes : goal.returns-then-given-body-clause-goes
returns-then-given-body-clause-goes c =
    let m = view_of c.args.self.now in
    let f = c.args.frame in
    let body = c.args.body in
    let vs = passed_on c.args.passing (stand_of f m.held ++ list_of c.args.last) in
    let count : c.count_of-given.result ≡ length vs = c.count_of-given.ensures ∙ ap (λ l. length (passed_on c.args.passing (l ++ list_of c.args.last))) c.standing.ensures.is in
    let same : length vs ≡ body.shape.parameters = sym count ∙ c.if-given-body.true in
    on_ok c.enter.result _ _
    (λ goes p t h n.
    let own = context_of p in
    let ns = p.nodes.items in
    let next = See (λ k. entered own (way_in ns c.args.way) c.args.class (method_of ns body) vs k.calls) in
    ap (λ r. after_values p m t f r h n) (sym (as_many own body.shape.parameters vs next same))
    ∙ ap (λ i. after_values p m t f (framed own (OfMethod i) body.shape.parameters body.shape.size vs (option_map (tree_at ns) c.args.way.block) (tree_at ns body.node) m.calls) h n) (sym (c.invocation.ensures.is p))
    ∙ goes p t h n)
    c.enter.ensures.goes

pub returns-then-given-body-clause-within : goal.returns-then-given-body-clause-within
returns-then-given-body-clause-within c k h way last =
    c.enter.ensures.within k h (c.invocation.ensures.within k way) last

pub returns-else-given-body-clause-goes : goal.returns-else-given-body-clause-goes
returns-else-given-body-clause-goes c p t h n =
    let m = view_of c.args.self.now in
    let f = c.args.frame in
    let own = context_of p in
    let ns = p.nodes.items in
    let body = c.args.body in
    let vs = passed_on c.args.passing (stand_of f m.held ++ list_of c.args.last) in
    let next = See (λ k. entered own (way_in ns c.args.way) c.args.class (method_of ns body) vs k.calls) in
    let count : c.count_of-given.result ≡ length vs = c.count_of-given.ensures ∙ ap (λ l. length (passed_on c.args.passing (l ++ list_of c.args.last))) c.standing.ensures.is in
    let other = λ (e : length vs ≡ body.shape.parameters). c.if-given-body.false (count ∙ e) in
    ap (λ r. after_values p m t f r h n) (sym (others own body.shape.parameters vs next other))
    ∙ ap (λ k. after_values p m t f (throw own (BuiltIn (Count k body.shape.parameters body.shape.parameters))) h n) (sym count)
    ∙ ap (λ e. after_values p m t f (throw own e) h n) (sym c.wrong_count.ensures)
    ∙ c.refuse.ensures.goes p t h n
