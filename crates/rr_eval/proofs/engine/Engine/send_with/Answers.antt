-- The arguments come behind the receiver, and where nothing was done all is as before.
use Rattle.std.proofs.Common.{◌≡◌, ◌+◌, ◌∷◌, [], subst, arith}
use Rattle.rr_tree.specs.Nodes.{trees_before}
use Rattle.rr_tree.specs.Tree.{tree_at}
use Rattle.rr_eval.specs.declared.call.Callee.TheVariants.{Name}
use Rattle.rr_eval.specs.declared.call.Target.TheVariants.{Call}
use Rattle.rr_eval.specs.Rules.{rule, arguments, finish}
use Rattle.rr_eval.specs.Turns.{context_of}
use Rattle.rr_eval.specs.Usual.{ComesTo}
use Rattle.rr_eval.specs.Views.{view_of}
use Rattle.rr_eval.proofs.QuickSends.{usual_goes, usual_falls}
use Rattle.rr_eval.proofs.engine.Engine.send_with.Goals as goal

pub returns-then-count-eq0-clause-goes : goal.returns-then-count-eq0-clause-goes
returns-then-count-eq0-clause-goes c = usual_goes c.args.prepared.now.program (view_of c.args.self.now) (view_of c.send_bare.new.self) c.args.space.now c.send_bare.result c.send_bare.ensures.goes c.send_bare.ensures.same

pub returns-then-count-eq0-clause-falls : goal.returns-then-count-eq0-clause-falls
returns-then-count-eq0-clause-falls c = usual_falls (view_of c.args.self.now) (view_of c.send_bare.new.self) c.args.here c.send_bare.result c.requires.control c.send_bare.ensures.spends c.send_bare.ensures.size c.send_bare.ensures.same

pub send_one-requires-clause-comes : goal.send_one-requires-clause-comes
send_one-requires-clause-comes c =
    let p = c.args.prepared.now.program in
    let ns = p.nodes.items in
    let own = context_of p in
    let found = c.args.found in
    let next = finish own (Call (Name c.args.name)) in
    let one : c.args.count ≡ 1 = omega (arith, c.if-count-eq1.true) in
    subst (λ n. ComesTo p (view_of c.args.self.now) c.args.space.now (rule own (tree_at ns c.args.here)) found.steps (arguments own (trees_before ns (c.args.first + n) n) (found.value ∷ []) next)) one c.requires.comes

pub returns-clause-goes : goal.returns-clause-goes
returns-clause-goes c = usual_goes c.args.prepared.now.program (view_of c.args.self.now) (view_of c.send_one.new.self) c.args.space.now c.send_one.result c.send_one.ensures.goes c.send_one.ensures.same

pub returns-clause-falls : goal.returns-clause-falls
returns-clause-falls c = usual_falls (view_of c.args.self.now) (view_of c.send_one.new.self) c.args.here c.send_one.result c.requires.control c.send_one.ensures.spends c.send_one.ensures.size c.send_one.ensures.same

pub returns-2-clause-goes : goal.returns-2-clause-goes
returns-2-clause-goes c = usual_goes c.args.prepared.now.program (view_of c.args.self.now) (view_of c.send_all.new.self) c.args.space.now c.send_all.result c.send_all.ensures.goes c.send_all.ensures.same

pub returns-2-clause-falls : goal.returns-2-clause-falls
returns-2-clause-falls c = usual_falls (view_of c.args.self.now) (view_of c.send_all.new.self) c.args.here c.send_all.result c.requires.control c.send_all.ensures.spends c.send_all.ensures.size c.send_all.ensures.same
