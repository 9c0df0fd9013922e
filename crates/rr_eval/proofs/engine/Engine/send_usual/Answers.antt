-- The receiver comes first, behind a frame where it needs one.
use Rattle.std.proofs.Common.{◌≡◌, ◌∙◌, ◌-◌, suc, ap, sym, arith, length}
use Rattle.rr_tree.specs.Tree.{tree_at}
use Rattle.rr_eval.specs.Frames.{first_tree}
use Rattle.rr_eval.specs.Turns.{after_script, remaining_with}
use Rattle.rr_eval.specs.Views.{view_of}
use Rattle.rr_eval.specs.Within.{reach}
use Rattle.rr_eval.proofs.Entered.{stepped}
use Rattle.rr_eval.proofs.Holding.{with_left}
use Rattle.rr_eval.proofs.engine.Engine.send_usual.Goals as goal

pub returns-in-None-clause-goes : goal.returns-in-None-clause-goes
returns-in-None-clause-goes c = λ h.
    let p = c.args.prepared.now.program in
    let ns = p.nodes.items in
    let m = view_of c.args.self.now in
    let t = c.args.space.now in
    let some : m.left ≡ suc (m.left - 1) = omega arith in
    stepped p m t (m.left - 1) (tree_at ns c.args.here) (ap (first_tree ns) c.requires.control) some h
    ∙ ap (λ r. after_script p m t r h (m.left - 1)) c.requires.script
    ∙ c.open_receiver.ensures.goes p t h (m.left - 1)
    ∙ ap (λ n. remaining_with p (view_of c.open_receiver.new.self) t h (n - 1)) (sym c.open_receiver.ensures.left)

pub returns-in-None-clause-within : goal.returns-in-None-clause-within
returns-in-None-clause-within c clusters h =
    let k = reach (length c.args.space.now.slots) clusters in
    with_left k (view_of c.open_receiver.new.self) _ (c.open_receiver.ensures.within k h)
