-- A step is the only use of a rule. Where the operands are no leaves, nothing was changed before it.
use Rattle.std.proofs.Common.{◌≡◌, ◌<◌, suc, ◌-◌, Some, sym, ap, subst, ◌∙◌, arith}
use Rattle.rr_tree.specs.Tree.{tree_at, binary}
use Rattle.rr_eval.specs.Frames.{first_tree}
use Rattle.rr_eval.specs.Turns.{remaining, remaining_with}
use Rattle.rr_eval.specs.Views.{view_of}
use Rattle.rr_eval.specs.Within.{AreReached}
use Rattle.rr_eval.proofs.Entered.{stepped}
use Rattle.rr_eval.proofs.Holding.{with_left}
use Rattle.rr_eval.proofs.engine.Engine.visit_operation.Goals as goal
use Rattle.rr_eval.proofs.engine.Engine.visit_operation.Goals.{else-self-stop-gt2-via-then-self-stop-gt2+else-visit_leaves, else-self-stop-gt2-via-else-self-stop-gt2}

pub returns-clause-goes : goal.returns-clause-goes
returns-clause-goes c t h =
    let p = c.args.program.now in
    let ns = p.nodes.items in
    let tree = binary c.args.op (tree_at ns c.args.a) (tree_at ns c.args.b) in
    let same : c.else-self-stop-gt2.self ≡ c.args.self.now = elim c.else-self-stop-gt2.branch [
      | else-self-stop-gt2-via-then-self-stop-gt2+else-visit_leaves w ↦ w.self-is ∙ w.visit_leaves.ensures.not w.if-visit_leaves.false
      | else-self-stop-gt2-via-else-self-stop-gt2 w ↦ w.self-is
    ] in
    let m = view_of c.else-self-stop-gt2.self in
    let first = subst (λ s. first_tree ns s.control ≡ Some tree) (sym same) c.requires.first in
    let more = subst (λ s. c.args.stop < s.left) (sym same) c.requires.some in
    let some : m.left ≡ suc (m.left - 1) = omega (arith, more) in
    ap (λ s. remaining p (view_of s) t h) (sym same)
    ∙ stepped p m t (m.left - 1) tree first some h
    ∙ c.enter_above.ensures.goes p t h (m.left - 1)
    ∙ ap (λ n. remaining_with p (view_of c.enter_above.new.self) t h (n - 1)) (sym c.enter_above.ensures.left)

pub returns-clause-within : goal.returns-clause-within
returns-clause-within c k h =
    let entered = λ (before : AreReached k (view_of c.else-self-stop-gt2.self)). with_left k (view_of c.enter_above.new.self) (c.enter_above.new.self.left - 1) (c.enter_above.ensures.within k before tt) in
    elim c.else-self-stop-gt2.branch [
      | else-self-stop-gt2-via-then-self-stop-gt2+else-visit_leaves w ↦ entered (subst (λ s. AreReached k (view_of s)) (sym w.self-is) (w.visit_leaves.ensures.within k h))
      | else-self-stop-gt2-via-else-self-stop-gt2 w ↦ entered (subst (λ s. AreReached k (view_of s)) (sym w.self-is) h)
    ]
