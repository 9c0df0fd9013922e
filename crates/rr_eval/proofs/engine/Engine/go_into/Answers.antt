-- `nil` takes one step.
use Rattle.std.proofs.Common.{◌≡◌, ◌+◌, ◌-◌, ◌∙◌, ap, sym, arith, refl, reverse}
use Rattle.rr_space.specs.declared.refer.Ref.TheVariants.{Nil}
use Rattle.rr_tree.specs.Tree.{tree_at, nil}
use Rattle.rr_eval.specs.Frames.{means, unwind}
use Rattle.rr_eval.specs.Nodes.{evaluated_tree}
use Rattle.rr_eval.specs.Turns.{code_of, state_of, remaining_with}
use Rattle.rr_eval.specs.Views.{view_of}
use Rattle.rr_eval.proofs.Holding.{with_left}
use Rattle.rr_eval.proofs.Quickly.{answers}
use Rattle.rr_eval.proofs.engine.Engine.go_into.Goals as goal

pub returns-in-Some-Nil-clause-goes : goal.returns-in-Some-Nil-clause-goes
returns-in-Some-Nil-clause-goes c = λ t h.
    let p = c.args.prepared.now.program in
    let ns = p.nodes.items in
    let m = view_of c.args.self.now in
    let code = code_of p h.world in
    let s = state_of p m t h in
    let there : tree_at ns c.args.part ≡ nil = c.in-Some-Nil.ensures.tree ∙ ap (evaluated_tree ns) c.in-Some-Nil.field-0-is in
    let all : m.left ≡ 1 + (m.left - 1) = omega arith in
    ap (λ k. unwind code (reverse m.frames) m.held (means code (tree_at ns c.args.part) s k)) all
    ∙ ap (unwind code (reverse m.frames) m.held) (answers code (tree_at ns c.args.part) nil s Nil there (λ n. refl) (m.left - 1))
    ∙ c.give_top.ensures.goes p t h (m.left - 1)
    ∙ ap (remaining_with p (view_of c.give_top.new.self) t h) (sym c.give_top.ensures.left)

pub returns-in-Some-Nil-clause-within : goal.returns-in-Some-Nil-clause-within
returns-in-Some-Nil-clause-within c k h = c.give_top.ensures.within k (with_left k (view_of c.args.self.now) _ h) tt
