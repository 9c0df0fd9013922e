-- The block's tree does what its statements do.
use Rattle.std.proofs.Common.{◌≡◌, ◌-◌, ◌∙◌, suc, ap, reverse, arith, subst, sym}
use Rattle.rr_tree.specs.Tree.{tree_at}
use Rattle.rr_eval.specs.Frames.{first_tree, unwind}
use Rattle.rr_eval.specs.Turns.{code_of, state_of, after_script, remaining}
use Rattle.rr_eval.specs.Views.{view_of}
use Rattle.rr_eval.specs.Within.{IsControlReached}
use Rattle.rr_eval.proofs.Entered.{stepped}
use Rattle.rr_eval.proofs.Holding.{with_control, with_left}
use Rattle.rr_eval.proofs.Unwind.{part_only}
use Rattle.rr_eval.proofs.engine.Engine.visit_body.Goals as goal

pub returns-clause-goes : goal.returns-clause-goes
returns-clause-goes c = λ t h.
    let p = c.args.program.now in
    let m = view_of c.args.self.now in
    let code = code_of p h.world in
    let some : m.left ≡ suc (m.left - 1) = omega arith in
    stepped p m t (m.left - 1) (tree_at p.nodes.items c.args.here) (ap (first_tree p.nodes.items) c.requires.control) some h
    ∙ ap (λ r. after_script p m t r h (m.left - 1)) c.requires.script
    ∙ ap (unwind code (reverse m.frames) m.held) (part_only code c.args.body (state_of p m t h) (m.left - 1))
    ∙ ap (λ x. remaining p (record m { control = x; left = m.left - 1 }) t h) (sym c.enter.ensures)

pub returns-clause-within : goal.returns-clause-within
returns-clause-within c k h =
    let m = view_of c.args.self.now in
    with_left k (record m { control = c.enter.new.self }) _ (with_control k m c.enter.new.self h (subst (IsControlReached k) (sym c.enter.ensures) tt))
