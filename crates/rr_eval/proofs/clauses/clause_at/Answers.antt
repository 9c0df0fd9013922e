-- The classes of a clause are its list.
use Rattle.std.proofs.Common.{sym, ap, ◌∙◌}
use Rattle.rr_eval.specs.Nodes.{evaluated_tree}
use Rattle.rr_eval.specs.Rescuing.{class_parts}
use Rattle.rr_eval.proofs.Trees.{items_listed}
use Rattle.rr_eval.proofs.clauses.clause_at.Goals as goal

pub returns-in-Clause-clause-classes : goal.returns-in-Clause-clause-classes
returns-in-Clause-clause-classes c =
    let ns = c.args.program.now.nodes.items in
    sym (ap class_parts (c.evaluated_node.ensures.tree ∙ ap (evaluated_tree ns) c.in-Clause.is) ∙ items_listed _)
