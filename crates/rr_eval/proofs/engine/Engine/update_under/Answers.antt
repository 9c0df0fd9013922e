-- The frame waits for the operator, whose left operand may have its value already.
use Rattle.std.proofs.Common.{◌≡◌, ◌-◌, ◌∙◌, suc, ap, arith, sym, length}
use Rattle.rr_tree.specs.Tree.{tree_at}
use Rattle.rr_eval.specs.Frames.{first_tree}
use Rattle.rr_eval.specs.Turns.{after_script, remaining_with}
use Rattle.rr_eval.specs.Views.{view_of}
use Rattle.rr_eval.specs.Within.{reach}
use Rattle.rr_eval.proofs.Entered.{stepped}
use Rattle.rr_eval.proofs.Holding.{with_left}
use Rattle.rr_eval.proofs.engine.Engine.update_under.Goals as goal

pub returns-clause-goes : goal.returns-clause-goes
returns-clause-goes c h =
    let p = c.args.prepared.now.program in
    let t = c.args.space.now in
    let m = view_of c.args.self.now in
    let some : m.left ≡ suc (m.left - 1) = omega arith in
    stepped p m t (m.left - 1) (tree_at p.nodes.items c.args.here) (ap (first_tree p.nodes.items) c.requires.control) some h
    ∙ ap (λ r. after_script p m t r h (m.left - 1)) (c.requires.script h.world)
    ∙ c.operate_above.ensures.goes p t h (m.left - 1)
    ∙ ap (λ n. remaining_with p (view_of c.operate_above.new.self) t h (n - 1)) (sym c.operate_above.ensures.left)
    ∙ c.operate_first.ensures.goes h

pub returns-clause-within : goal.returns-clause-within
returns-clause-within c clusters h frame =
    let k = reach (length c.args.space.now.slots) clusters in
    c.operate_first.ensures.within clusters (with_left k (view_of c.operate_above.new.self) _ (c.operate_above.ensures.within k h frame))
