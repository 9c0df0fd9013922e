-- The left operand has its value.
use Rattle.std.proofs.Common.{◌∙◌, ap, arith, refl, length}
use Rattle.rr_tree.specs.Tree.{binary, tree_at}
use Rattle.rr_eval.specs.declared.frame.Frame.TheVariants.{Left}
use Rattle.rr_eval.specs.Frames.{first_tree}
use Rattle.rr_eval.specs.Views.{view_of}
use Rattle.rr_eval.specs.Within.{reach}
use Rattle.rr_eval.proofs.Holding.{with_left}
use Rattle.rr_eval.proofs.Quickly.{under_tree}
use Rattle.rr_eval.proofs.engine.Engine.operate_first.Goals as goal

pub returns-in-Some-clause-goes : goal.returns-in-Some-clause-goes
returns-in-Some-clause-goes c h =
    let p = c.args.prepared.now.program in
    let ns = p.nodes.items in
    let t = c.args.space.now in
    let m = view_of c.args.self.now in
    let found = c.in-Some.found in
    let enough = c.in-Some.ensures.enough in
    under_tree p m t (binary c.args.op (tree_at ns c.args.a) (tree_at ns c.args.b)) (tree_at ns c.args.a) found.steps found.value (Left c.args.op c.args.b) h (ap (first_tree ns) c.requires.control) (λ w. refl) tt c.in-Some.ensures.takes (omega (arith, enough))
    ∙ c.operate_left.ensures.goes h

pub returns-in-Some-clause-within : goal.returns-in-Some-clause-within
returns-in-Some-clause-within c clusters h =
    let k = reach (length c.args.space.now.slots) clusters in
    c.operate_left.ensures.within clusters (with_left k (view_of c.args.self.now) _ h) (c.in-Some.ensures.within clusters h)
