-- The receiver is evaluated at once.
use Rattle.std.proofs.Common.{◌∷◌, [], refl, length}
use Rattle.rr_tree.specs.Tree.{tree_at}
use Rattle.rr_eval.specs.declared.call.Target.TheVariants.{Call}
use Rattle.rr_eval.specs.Rules.{rule, finish}
use Rattle.rr_eval.specs.Turns.{context_of}
use Rattle.rr_eval.specs.Views.{view_of}
use Rattle.rr_eval.specs.Within.{reach, IsReached}
use Rattle.rr_eval.proofs.Holding.{all_nil}
use Rattle.rr_eval.proofs.QuickRequests.{value_comes}
use Rattle.rr_eval.proofs.engine.Engine.ask_bare.Goals as goal

pub returns-clause-goes : goal.returns-clause-goes
returns-clause-goes c h =
    let p = c.args.prepared.now.program in
    let ns = p.nodes.items in
    let own = context_of p in
    let m = view_of c.args.self.now in
    let t = c.args.space.now in
    let found = c.in-Some.found in
    c.ask_with.ensures.goes p t
    (value_comes p m t (rule own (tree_at ns c.args.here)) (tree_at ns c.args.receiver) found.steps found.value (λ v. finish own (Call c.args.callee) (v ∷ [])) c.requires.script c.in-Some.ensures.takes)
    (c.if-not-is_asked_for.ensures refl) h

pub returns-clause-asks : goal.returns-clause-asks
returns-clause-asks c clusters h =
    let k = reach (length c.args.space.now.slots) clusters in
    c.ask_with.ensures.asks k (c.in-Some.ensures.within clusters h) (all_nil (IsReached k))
