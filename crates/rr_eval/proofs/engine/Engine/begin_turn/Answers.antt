-- A frame more for a turn, and what it holds is reached.
use Rattle.std.proofs.Common.{◌++◌, ◌∙◌, ap, subst, sym, reverse, refl, take, drop, None}
use Rattle.rr_tree.specs.Tree.{tree_at}
use Rattle.rr_frames.specs.Frames.{list_of}
use Rattle.rr_eval.specs.declared.call_stack.Entry.TheVariants.{OfBlock}
use Rattle.rr_eval.specs.Blocks.{activation_in, opened}
use Rattle.rr_eval.specs.Frames.{means, runs_in, iterated, unwind}
use Rattle.rr_eval.specs.Script.{Ret, Evaluate, TurnPart}
use Rattle.rr_eval.specs.Turns.{context_of, code_of, state_of, remaining_with}
use Rattle.rr_eval.specs.Views.{view_of}
use Rattle.rr_eval.specs.Within.{AreReached}
use Rattle.rr_eval.proofs.Holding.{activation_within, calls_reached, turn_reached}
use Rattle.rr_eval.proofs.Invoking.{has_room}
use Rattle.rr_eval.proofs.Rounds.{turn_enters}
use Rattle.rr_eval.proofs.engine.Engine.begin_turn.Goals as goal

pub returns-then-push_two-clause-goes : goal.returns-then-push_two-clause-goes
returns-then-push_two-clause-goes c = λ _ p t h n is.
    let m = view_of c.args.self.now in
    let code = code_of p h.world in
    let s = state_of p m t h in
    let i = c.args.iteration in
    let values = list_of c.args.first ++ list_of c.args.last in
    let next = Evaluate (TurnPart (iterated code i (drop i.base m.held))) Ret in
    ap (λ home. unwind code (reverse m.frames) (take i.base m.held) (runs_in code (opened (context_of p) (OfBlock home) c.args.shape.parameters c.args.shape.size values None m.calls next) s n)) (sym c.top-home.ensures)
    ∙ turn_enters code m.frames m.held i (OfBlock c.top-home.result) c.args.shape values c.push_two.new.self m.blocks c.push_within.new.items.items s n
    is (has_room m.calls (c.push_two.ensures.room c.if-push_two.true)) refl c.push_within.ensures (c.push_two.ensures.pushed c.if-push_two.true) c.push_two.ensures.limit
    ∙ ap (λ fs. unwind code (reverse fs) m.held (means code (tree_at p.nodes.items i.block) (state_of p (record m { calls = c.push_two.new.self; blocks = c.push_within.new.items.items }) t h) n)) (sym c.push_within-then-push_two.ensures)
    ∙ ap (λ x. remaining_with p (record m { control = x; frames = c.push_within-then-push_two.new.items.items; calls = c.push_two.new.self; blocks = c.push_within.new.items.items }) t h n) (sym c.enter.ensures)

pub returns-then-push_two-clause-within : goal.returns-then-push_two-clause-within
returns-then-push_two-clause-within c k h values =
    let m = view_of c.args.self.now in
    subst (λ x. AreReached k (record m { control = x; frames = c.push_within-then-push_two.new.items.items; calls = c.push_two.new.self; blocks = c.push_within.new.items.items })) (sym c.enter.ensures)
    (turn_reached k m c.args.iteration _ _ _ c.args.shape.parameters c.args.shape.size c.args.iteration.block (list_of c.args.first ++ list_of c.args.last) (activation_in (OfBlock c.top-home.result) m.calls.frames) c.push_within-then-push_two.ensures (c.push_two.ensures.pushed c.if-push_two.true) h
    (activation_within k (OfBlock c.top-home.result) m.calls.frames (calls_reached k m h) tt) values)
