-- The receiver and one argument are evaluated.
use Rattle.std.proofs.Common.{◌≡◌, ◌+◌, ◌∷◌, [], subst}
use Rattle.rr_tree.specs.Nodes.{trees_before}
use Rattle.rr_tree.specs.Tree.{tree_at}
use Rattle.rr_eval.specs.declared.call.Callee.TheVariants.{Name}
use Rattle.rr_eval.specs.declared.call.Target.TheVariants.{Call}
use Rattle.rr_eval.specs.Rules.{rule, with_value, arguments, finish}
use Rattle.rr_eval.specs.Turns.{context_of}
use Rattle.rr_eval.proofs.QuickRequests.{takes_argument}
use Rattle.rr_eval.proofs.engine.Engine.ask_name.Goals as goal

pub ask_pair-requires-clause-script : goal.ask_pair-requires-clause-script
ask_pair-requires-clause-script c =
    let p = c.args.prepared.now.program in
    let ns = p.nodes.items in
    let own = context_of p in
    let script = rule own (tree_at ns c.args.here) in
    let receiver = tree_at ns c.args.receiver in
    let next = finish own (Call (Name c.args.name)) in
    takes_argument p script receiver c.args.first next
    (subst (λ k. script ≡ with_value receiver (λ v. arguments own (trees_before ns (c.args.first + k) k) (v ∷ []) next)) c.in-1.is c.requires.script)
