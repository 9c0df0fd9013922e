use Rattle.std.proofs.Common.{◌≡◌, ◌∙◌, ◌+◌, ◌-◌, ◌<◌, ℕ, length, ap, sym, arith, false, nat_eq}
use Rattle.rr_tree.specs.Ancestors.{descends, is_among, holds_of}
use Rattle.rr_tree.proofs.Above.{differ, one_less}
use Rattle.rr_tree.proofs.program.Program.descends.Goals as goal

pub loop-step-init : goal.loop-step-init
unfolding descends
loop-step-init c =
    let steps : length c.args.self.now.classes.items + 32 ≡ c.len.result + 32 - 0 = omega (arith, c.len.ensures) in
    ap (λ (m : ℕ). is_among c.args.self.now m c.args.class.0 c.args.ancestor.0) steps

pub loop-step-preserved : goal.loop-step-preserved
loop-step-preserved c =
    let p = c.args.self.now in
    let less : c.loop-step.step < c.len.result + 32 = omega arith in
    let other : nat_eq c.loop-step.current.0 c.args.ancestor.0 ≡ false = differ c.loop-step.current.0 c.args.ancestor.0 c.if-current-ancestor.false in
    c.loop-step.invariant ∙ one_less p (c.len.result + 32) c.loop-step.step c.loop-step.current.0 c.args.ancestor.0 less other
    ∙ ap (holds_of (λ s. is_among p (c.len.result + 32 - (c.loop-step.step + 1)) s c.args.ancestor.0)) (sym c.in-Some.ensures)
