-- The iteration ends with the turn.
use Rattle.std.proofs.Common.{List, None, Ok, Some, ◌≡◌, ◌+◌, ◌-◌, ◌<◌, ◌∙◌, ◌∷◌, [], ap, arith, drop, length, refl, reverse, subst, sym, take}
use Rattle.rr_space.specs.declared.refer.Ref.{Ref}
use Rattle.rr_eval.specs.declared.frame.Control.TheVariants.{Give}
use Rattle.rr_eval.specs.declared.frame.Frame.TheVariants.{Turned}
use Rattle.rr_eval.specs.declared.iterating.Ahead.TheVariants.{Another}
use Rattle.rr_eval.specs.declared.problem.Answer.TheVariants.{Gave}
use Rattle.rr_eval.specs.Blocks.{shape_in}
use Rattle.rr_eval.specs.Endings.{BreaksInside}
use Rattle.rr_eval.specs.Frames.{iterated, runs_in, unwind}
use Rattle.rr_eval.specs.Iterating.{ahead, continued_with, kept}
use Rattle.rr_eval.specs.Nodes.{evaluated_tree}
use Rattle.rr_eval.specs.Turns.{context_of, code_of, state_of, remaining}
use Rattle.rr_eval.specs.Views.{view_of}
use Rattle.rr_eval.specs.Within.{reach, IsControlReached}
use Rattle.rr_tree.specs.Tree.{tree_at}
use Rattle.rr_eval.proofs.Breaks.{turn_breaks}
use Rattle.rr_eval.proofs.Holding.{with_cleared, with_left}
use Rattle.rr_eval.proofs.engine.Engine.break_turn.Goals as goal

pub returns-clause-goes : goal.returns-clause-goes
returns-clause-goes c done = λ v h.
    let p = c.args.prepared.now.program in
    let ns = p.nodes.items in
    let own = context_of p in
    let code = code_of p h.world in
    let t = c.args.space.now in
    let old = c.args.self.now in
    let m = view_of old in
    let i = c.args.iteration in
    let stand = drop i.base m.held in
    let turn = c.in-Some-Another-Some-None-default in
    let node = c.in-Some-Block-default-eq1-default-default in
    let broken = c.in-Some-break_unframed.broken in
    let few = c.in-Some-break_unframed.ensures.few in
    let enough = c.if-self-stop-le-STEPS.false in
    let some = c.if-size-eq0.false in
    let k = old.left - broken.steps in
    let sum : old.left ≡ broken.steps + k = omega (arith, few, enough) in
    let stands = c.standing-stand.ensures.is in
    let is : turn.field-0 ≡ Another (Some turn.given) None turn.field-0-2 =
    turn.field-0-is ∙ ap (λ x. Another x turn.field-0-1 turn.field-0-2) turn.field-0-0-is ∙ ap (λ x. Another (Some turn.given) x turn.field-0-2) turn.field-0-1-is in
    let one : node.field-0-1 ≡ 1 = omega (arith, node.field-0-1-test) in
    let shape : shape_in (Some (tree_at ns i.block)) ≡ Some (record { parameters = 1; size = node.size }) =
    ap (λ z. shape_in (Some z)) (node.ensures.tree ∙ ap (evaluated_tree ns) node.field-0-is) ∙ ap (λ x. Some (record { parameters = x; size = node.size })) one in
    let its = continued_with own (iterated code i stand) v in
    let inside = subst (λ x. BreaksInside p m (turn.given ∷ []) x (tree_at ns i.block) broken.steps broken.value) c.top-home.ensures c.in-Some-break_unframed.ensures.breaks in
    ap (λ j. unwind code (reverse m.frames) (take i.base m.held) (runs_in code its (state_of p m t h) j)) sum
    ∙ ap (unwind code (reverse m.frames) (take i.base m.held)) (turn_breaks p m t h i stand turn.field-0-2 turn.given v broken.value node.size broken.steps k
    (subst (λ (vs : List Ref). kept i.visits v vs t ≡ Ok None) stands (turn.ensures.keeps v)) (ap (λ (vs : List Ref). ahead i.visits vs t) (sym stands) ∙ sym turn.ensures.is ∙ is) (λ shape. turn.ensures.apart (Some turn.given) None turn.field-0-2 shape is)
    shape (omega (arith, some)) c.in-Some.ensures.room inside)
    ∙ ap (λ held. remaining p (record m { control = Give (Gave broken.value); held = held; left = k }) t h) (sym c.clear.ensures)
    ∙ ap (λ x. remaining p (record m { control = x; held = c.clear.new.held.items; left = k }) t h) (sym c.give.ensures)

pub returns-clause-within : goal.returns-clause-within
returns-clause-within c clusters h =
    let k = reach (length c.args.space.now.slots) clusters in
    let m = view_of c.args.self.now in
    let broken = c.in-Some-break_unframed.broken in
    let value : IsControlReached k (Give (Gave broken.value)) = c.in-Some-break_unframed.ensures.within k in
    with_left k (record m { control = c.give.new.self; held = c.clear.new.held.items }) (c.args.self.now.left - broken.steps)
    (with_cleared k m (Turned c.args.iteration) c.clear.new.held.items c.give.new.self c.clear.ensures h (subst (IsControlReached k) (sym c.give.ensures) value))
