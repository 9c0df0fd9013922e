-- The rule of a node that evaluates a part first is what its frame waits for.
use Rattle.std.proofs.Common.{◌≡◌, ◌+◌, sym, ap, ◌∙◌}
use Rattle.rr_tree.specs.Nodes.{trees_before}
use Rattle.rr_tree.specs.Tree.{tree_at, repeat}
use Rattle.rr_eval.specs.Nodes.{evaluated_tree}
use Rattle.rr_eval.specs.Rescuing.{rescue_rule}
use Rattle.rr_eval.specs.Rules.{rule, loop_rule}
use Rattle.rr_eval.specs.Script.{Go, Ret}
use Rattle.rr_eval.specs.Turns.{context_of}
use Rattle.rr_eval.proofs.Trees.{items_listed}
use Rattle.rr_eval.proofs.usual.awaited_part.Goals as goal

pub returns-in-And-clause-script : goal.returns-in-And-clause-script
returns-in-And-clause-script c = λ p w e. ap (rule (context_of p)) (e ∙ ap (evaluated_tree p.nodes.items) c.in-And.is)

pub returns-in-Or-clause-script : goal.returns-in-Or-clause-script
returns-in-Or-clause-script c = λ p w e. ap (rule (context_of p)) (e ∙ ap (evaluated_tree p.nodes.items) c.in-Or.is)

pub returns-in-Not-clause-script : goal.returns-in-Not-clause-script
returns-in-Not-clause-script c = λ p w e. ap (rule (context_of p)) (e ∙ ap (evaluated_tree p.nodes.items) c.in-Not.is)

pub returns-in-Binary-clause-script : goal.returns-in-Binary-clause-script
returns-in-Binary-clause-script c = λ p w e. ap (rule (context_of p)) (e ∙ ap (evaluated_tree p.nodes.items) c.in-Binary.is)

pub returns-in-Choose-clause-script : goal.returns-in-Choose-clause-script
returns-in-Choose-clause-script c = λ p w e. ap (rule (context_of p)) (e ∙ ap (evaluated_tree p.nodes.items) c.in-Choose.is)

pub returns-in-Assign-clause-script : goal.returns-in-Assign-clause-script
returns-in-Assign-clause-script c = λ p w e. ap (rule (context_of p)) (e ∙ ap (evaluated_tree p.nodes.items) c.in-Assign.is)

pub returns-in-Break-clause-script : goal.returns-in-Break-clause-script
returns-in-Break-clause-script c = λ p w e. ap (rule (context_of p)) (e ∙ ap (evaluated_tree p.nodes.items) c.in-Break.is)

pub returns-in-Next-clause-script : goal.returns-in-Next-clause-script
returns-in-Next-clause-script c = λ p w e. ap (rule (context_of p)) (e ∙ ap (evaluated_tree p.nodes.items) c.in-Next.is)

pub returns-in-Return-clause-script : goal.returns-in-Return-clause-script
returns-in-Return-clause-script c = λ p w e. ap (rule (context_of p)) (e ∙ ap (evaluated_tree p.nodes.items) c.in-Return.is)

pub returns-in-Loop-clause-script : goal.returns-in-Loop-clause-script
returns-in-Loop-clause-script c = λ p w e.
    let ns = p.nodes.items in
    let until = c.in-Loop.until in
    let a = tree_at ns c.in-Loop.condition in
    let b = tree_at ns c.in-Loop.body in
    let there : tree_at ns c.args.here ≡ repeat until a b = e ∙ ap (evaluated_tree ns) c.in-Loop.is in
    ap (rule (context_of p)) there ∙ ap (λ loop. loop_rule until a b (Go loop Ret)) (sym there)

pub returns-in-Negate-clause-script : goal.returns-in-Negate-clause-script
returns-in-Negate-clause-script c = λ p w e. ap (rule (context_of p)) (e ∙ ap (evaluated_tree p.nodes.items) c.in-Negate.is)

pub returns-in-SetField-clause-script : goal.returns-in-SetField-clause-script
returns-in-SetField-clause-script c = λ p w e. ap (rule (context_of p)) (e ∙ ap (evaluated_tree p.nodes.items) c.in-SetField.is)

pub returns-in-Rescue-clause-script : goal.returns-in-Rescue-clause-script
returns-in-Rescue-clause-script c = λ p w e.
    let ns = p.nodes.items in
    let own = context_of p in
    let clauses = trees_before ns (c.in-Rescue.first + c.in-Rescue.count) c.in-Rescue.count in
    ap (rule own) (e ∙ ap (evaluated_tree ns) c.in-Rescue.is)
    ∙ ap (λ cs. Go (tree_at ns c.in-Rescue.body) (rescue_rule own cs (tree_at ns c.in-Rescue.otherwise))) (items_listed clauses)

pub returns-in-Ensure-clause-script : goal.returns-in-Ensure-clause-script
returns-in-Ensure-clause-script c = λ p w e. ap (rule (context_of p)) (e ∙ ap (evaluated_tree p.nodes.items) c.in-Ensure.is)
