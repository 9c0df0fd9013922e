-- The variable gets the value.
use Rattle.std.proofs.Common.{◌∙◌, ap, arith, length}
use Rattle.rr_tree.specs.Tree.{binary, tree_at}
use Rattle.rr_eval.specs.declared.frame.Frame.TheVariants.{Store}
use Rattle.rr_eval.specs.Frames.{first_tree}
use Rattle.rr_eval.specs.Views.{view_of}
use Rattle.rr_eval.specs.Within.{reach}
use Rattle.rr_eval.proofs.Holding.{with_left}
use Rattle.rr_eval.proofs.Quickly.{under_tree}
use Rattle.rr_eval.proofs.engine.Engine.update_variable.Goals as goal

pub returns-in-Some-clause-goes : goal.returns-in-Some-clause-goes
returns-in-Some-clause-goes c = λ _ h.
    let p = c.args.prepared.now.program in
    let ns = p.nodes.items in
    let t = c.args.space.now in
    let m = view_of c.args.self.now in
    let found = c.in-Some.found in
    let enough = c.in-Some.ensures.enough in
    under_tree p m t (tree_at ns c.args.here) (binary c.args.op (tree_at ns c.args.a) (tree_at ns c.args.b)) found.steps found.value (Store c.args.variable) h (ap (first_tree ns) c.requires.control) c.requires.script tt c.in-Some.ensures.takes (omega (arith, enough))
    ∙ c.store_usual.ensures.goes h

pub returns-in-Some-clause-within : goal.returns-in-Some-clause-within
returns-in-Some-clause-within c clusters h =
    let k = reach (length c.args.space.now.slots) clusters in
    c.store_usual.ensures.within clusters (with_left k (view_of c.args.self.now) _ h) (c.in-Some.ensures.within clusters h)
