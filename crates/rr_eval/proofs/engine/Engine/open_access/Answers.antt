-- The receiver comes first.
use Rattle.std.proofs.Common.{◌∙◌, ap}
use Rattle.rr_tree.specs.Tree.{tree_at}
use Rattle.rr_eval.specs.Nodes.{evaluated_tree}
use Rattle.rr_eval.specs.Turns.{context_of, after_script}
use Rattle.rr_eval.specs.Updating.{access_rule}
use Rattle.rr_eval.specs.Views.{view_of}
use Rattle.rr_eval.proofs.Updates.{index_accessed, attribute_accessed, no_access}
use Rattle.rr_eval.proofs.engine.Engine.open_access.Goals as goal

pub returns-in-Index-clause-goes : goal.returns-in-Index-clause-goes
returns-in-Index-clause-goes c t h n =
    let p = c.args.program.now in
    let ns = p.nodes.items in
    let m = view_of c.args.self.now in
    ap (λ a. after_script p m t (access_rule (context_of p) c.args.how a (tree_at ns c.args.value)) h n) (c.evaluated_node.ensures.tree ∙ ap (evaluated_tree ns) c.in-Index.is)
    ∙ ap (λ r. after_script p m t r h n) (index_accessed p h.world c.args.how c.in-Index.receiver c.in-Index.index c.args.value c.len-base.result)
    ∙ c.enter_above.ensures.goes p t h n

pub returns-in-Send-clause-goes : goal.returns-in-Send-clause-goes
returns-in-Send-clause-goes c t h n =
    let p = c.args.program.now in
    let ns = p.nodes.items in
    let m = view_of c.args.self.now in
    ap (λ a. after_script p m t (access_rule (context_of p) c.args.how a (tree_at ns c.args.value)) h n) c.evaluated_node.ensures.tree
    ∙ ap (λ r. after_script p m t r h n) (attribute_accessed p h.world c.args.how c.in-Send.receiver c.in-Send.name _ _ _ c.args.value c.len-base.result c.evaluated_node.result c.in-Send.is)
    ∙ c.enter_above-in-Send.ensures.goes p t h n

pub returns-in_default-clause-goes : goal.returns-in_default-clause-goes
returns-in_default-clause-goes c t h n =
    let p = c.args.program.now in
    let ns = p.nodes.items in
    let m = view_of c.args.self.now in
    let tree = tree_at ns c.args.value in
    ap (λ a. after_script p m t (access_rule (context_of p) c.args.how a tree) h n) c.evaluated_node.ensures.tree
    ∙ ap (λ r. after_script p m t r h n) (no_access ns (context_of p) c.args.how c.evaluated_node.result tree c.in_default.not-Index c.in_default.not-Send c.evaluated_node.ensures.evaluated)

pub returns-in-Index-clause-within : goal.returns-in-Index-clause-within
returns-in-Index-clause-within c k h = c.enter_above.ensures.within k h tt

pub returns-in-Send-clause-within : goal.returns-in-Send-clause-within
returns-in-Send-clause-within c k h = c.enter_above-in-Send.ensures.within k h tt
