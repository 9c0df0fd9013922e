-- Each list by its rule.
use Rattle.std.proofs.Common.{◌+◌, ◌∙◌, [], ap}
use Rattle.rr_tree.specs.Nodes.{trees_before}
use Rattle.rr_eval.specs.declared.call.Target.TheVariants.{Do}
use Rattle.rr_eval.specs.declared.call.Task.TheVariants.{MakeArray, MakeText}
use Rattle.rr_eval.specs.Nodes.{evaluated_tree}
use Rattle.rr_eval.specs.Rules.{rule, arguments, finish}
use Rattle.rr_eval.specs.Turns.{context_of}
use Rattle.rr_eval.proofs.Trees.{items_listed}
use Rattle.rr_eval.proofs.engine.Engine.visit_text.Goals as goal

pub visit_list-requires-clause-script : goal.visit_list-requires-clause-script
visit_list-requires-clause-script c =
    let ns = c.args.prepared.now.program.nodes.items in
    let own = context_of c.args.prepared.now.program in
    let list = c.in-Some-Interpolation in
    ap (rule own) (list.ensures.tree ∙ ap (evaluated_tree ns) list.field-0-is)
    ∙ ap (λ ts. arguments own ts [] (finish own (Do MakeText))) (items_listed (trees_before ns (list.first + list.count) list.count))

pub visit_list-requires-in-Some-Array-clause-script : goal.visit_list-requires-in-Some-Array-clause-script
visit_list-requires-in-Some-Array-clause-script c =
    let ns = c.args.prepared.now.program.nodes.items in
    let own = context_of c.args.prepared.now.program in
    let list = c.in-Some-Array in
    ap (rule own) (list.ensures.tree ∙ ap (evaluated_tree ns) list.field-0-is)
    ∙ ap (λ ts. arguments own ts [] (finish own (Do MakeArray))) (items_listed (trees_before ns (list.first + list.count) list.count))
