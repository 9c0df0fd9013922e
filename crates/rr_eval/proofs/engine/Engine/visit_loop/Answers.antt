-- The rule of a loop is what its frame waits for.
use Rattle.std.proofs.Common.{sym, ap, ◌∙◌}
use Rattle.rr_tree.specs.Tree.{tree_at}
use Rattle.rr_eval.specs.Rules.{rule, loop_rule}
use Rattle.rr_eval.specs.Script.{Go, Ret}
use Rattle.rr_eval.specs.Turns.{context_of}
use Rattle.rr_eval.proofs.engine.Engine.visit_loop.Goals as goal

pub first_value-requires-clause-script : goal.first_value-requires-clause-script
first_value-requires-clause-script c w =
    let p = c.args.prepared.now.program in
    let ns = p.nodes.items in
    ap (rule (context_of p)) c.requires.tree
    ∙ ap (λ loop. loop_rule c.args.until (tree_at ns c.args.condition) (tree_at ns c.args.body) (Go loop Ret)) (sym c.requires.tree)
