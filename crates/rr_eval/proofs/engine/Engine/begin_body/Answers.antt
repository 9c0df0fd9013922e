-- A frame more, and what it holds is reached.
use Rattle.std.proofs.Common.{◌++◌, ◌∷◌, [], ◌∙◌, ap, subst, sym, reverse, refl}
use Rattle.std.specs.Option.{option_map}
use Rattle.rr_tree.specs.Tree.{tree_at}
use Rattle.rr_frames.specs.Frames.{list_of}
use Rattle.rr_eval.specs.Blocks.{activation_in, framed}
use Rattle.rr_eval.specs.Dispatch.{passed_on}
use Rattle.rr_eval.specs.Frames.{means, runs_in, below_of, unwind, waits_for}
use Rattle.rr_eval.specs.Turns.{context_of, code_of, state_of, remaining_with}
use Rattle.rr_eval.specs.Views.{view_of}
use Rattle.rr_eval.specs.Within.{IsReached, AreReached}
use Rattle.rr_eval.proofs.Holding.{activation_within, all_append, calls_reached, held_reached, enter_reached}
use Rattle.rr_eval.proofs.Invoking.{enters, has_room}
use Rattle.rr_eval.proofs.engine.Engine.begin_body.Goals as goal

pub returns-then-push_usual-clause-goes : goal.returns-then-push_usual-clause-goes
returns-then-push_usual-clause-goes c = λ _ p t h n.
    let m = view_of c.args.self.now in
    let code = code_of p h.world in
    let s = state_of p m t h in
    let below = below_of c.args.frame m.held in
    let values = c.passed.result.0.now ++ list_of c.passed.result.1 in
    let tree = tree_at p.nodes.items c.args.body in
    ap (λ vs. unwind code (reverse m.frames) below (runs_in code (framed (context_of p) c.args.entry c.args.shape.parameters c.args.shape.size vs (option_map (tree_at p.nodes.items) c.args.block) tree m.calls) s n))
    (ap (λ vs. passed_on c.args.passing (vs ++ list_of c.args.last)) (sym c.standing.ensures.is) ∙ sym c.passed.ensures.are)
    ∙ enters code m.frames below c.args.entry c.args.shape.parameters c.args.shape.size values c.args.block c.args.body c.push_usual.new.self m.blocks c.push_within.new.items.items s n
    (has_room m.calls (c.push_usual.ensures.room c.if-push_usual.true)) refl c.push_within.ensures (c.push_usual.ensures.pushed c.if-push_usual.true) c.push_usual.ensures.limit
    ∙ ap (λ held. unwind code (reverse (m.frames ++ waits_for c.args.entry ∷ [])) held (means code tree (state_of p (record m { calls = c.push_usual.new.self; blocks = c.push_within.new.items.items }) t h) n)) (sym c.clear.ensures)
    ∙ ap (λ fs. unwind code (reverse fs) c.clear.new.held.items (means code tree (state_of p (record m { calls = c.push_usual.new.self; blocks = c.push_within.new.items.items }) t h) n)) (sym (c.push_within-then-push_usual.ensures ∙ ap (λ f. m.frames ++ f ∷ []) c.leaving.ensures))
    ∙ ap (λ x. remaining_with p (record m { control = x; frames = c.push_within-then-push_usual.new.items.items; held = c.clear.new.held.items; calls = c.push_usual.new.self; blocks = c.push_within.new.items.items }) t h n) (sym c.enter.ensures)

pub returns-then-push_usual-clause-within : goal.returns-then-push_usual-clause-within
returns-then-push_usual-clause-within c k h itself last =
    let m = view_of c.args.self.now in
    let inside = c.passed.ensures.within k (c.standing.ensures.within k (held_reached k m h)) last in
    subst (λ x. AreReached k (record m { control = x; frames = c.push_within-then-push_usual.new.items.items; held = c.clear.new.held.items; calls = c.push_usual.new.self; blocks = c.push_within.new.items.items })) (sym c.enter.ensures)
    (enter_reached k m c.args.frame _ _ _ _ c.args.entry c.args.shape.parameters c.args.shape.size c.args.body (c.passed.result.0.now ++ list_of c.passed.result.1) (activation_in c.args.entry m.calls.frames) (c.push_within-then-push_usual.ensures ∙ ap (λ f. m.frames ++ f ∷ []) c.leaving.ensures) c.clear.ensures (c.push_usual.ensures.pushed c.if-push_usual.true) h itself (activation_within k c.args.entry m.calls.frames (calls_reached k m h) itself)
    (all_append (IsReached k) c.passed.result.0.now (list_of c.passed.result.1) inside.0 inside.1))
