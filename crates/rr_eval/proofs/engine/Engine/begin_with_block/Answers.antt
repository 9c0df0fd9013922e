-- The call begins as if nothing had been tried.
use Rattle.std.proofs.Common.{subst, sym, ◌∷◌, []}
use Rattle.rr_tree.specs.Tree.{tree_at}
use Rattle.rr_eval.specs.declared.call.Target.TheVariants.{Iterate}
use Rattle.rr_eval.specs.declared.engine.Engine.{Engine}
use Rattle.rr_eval.specs.Rules.{rule, finish}
use Rattle.rr_eval.specs.Turns.{context_of}
use Rattle.rr_eval.specs.Usual.{ComesTo}
use Rattle.rr_eval.specs.Views.{view_of}
use Rattle.rr_eval.proofs.engine.Engine.begin_with_block.Goals as goal

pub call_with_block-requires-clause-comes : goal.call_with_block-requires-clause-comes
call_with_block-requires-clause-comes c =
    let p = c.args.prepared.now.program in
    let own = context_of p in
    let found = c.args.found in
    let target = Iterate c.args.name c.args.block in
    subst (λ (e : Engine). ComesTo p (view_of e) c.args.space.now (rule own (tree_at p.nodes.items c.args.here)) found.steps (finish own target (found.value ∷ []))) (sym (c.start_turns.ensures.same c.if-start_turns.false)) c.requires.comes
