-- A frame more, and what it holds is reached.
use Rattle.std.proofs.Common.{◌++◌, ◌∷◌, [], ◌∙◌, ap, sym, reverse, refl, None}
use Rattle.rr_eval.specs.declared.call_stack.Entry.TheVariants.{OfBlock}
use Rattle.rr_tree.specs.Tree.{tree_at}
use Rattle.rr_eval.specs.Blocks.{activation_in}
use Rattle.rr_eval.specs.Frames.{means, below_of, unwind, waits_for}
use Rattle.rr_eval.specs.Turns.{code_of, state_of}
use Rattle.rr_eval.specs.Views.{view_of}
use Rattle.rr_eval.proofs.Holding.{activation_within, calls_reached, enter_reached, refused_reached}
use Rattle.rr_eval.proofs.Invoking.{enters, has_room}
use Rattle.rr_eval.proofs.engine.Engine.enter_spread.Goals as goal

pub returns-in-Ok-clause-goes : goal.returns-in-Ok-clause-goes
returns-in-Ok-clause-goes c = λ p t h n.
    let m = view_of c.args.self.now in
    let code = code_of p h.world in
    let s = state_of p m t h in
    let below = below_of c.args.frame m.held in
    let values = c.args.values.now in
    let entry = OfBlock c.args.home in
    let tree = tree_at p.nodes.items c.args.body in
    enters code m.frames below entry c.args.shape.parameters c.args.shape.size values None c.args.body c.push_all.new.self m.blocks c.push_within.new.items.items s n
    (has_room m.calls c.in-Ok.ensures.room) refl (c.push_within.ensures ∙ ap (λ l. l ++ None ∷ []) c.reserve.ensures.items) c.in-Ok.ensures.pushed c.in-Ok.ensures.limit
    ∙ ap (λ held. unwind code (reverse (m.frames ++ waits_for entry ∷ [])) held (means code tree (state_of p (record m { calls = c.push_all.new.self; blocks = c.push_within.new.items.items }) t h) n)) (sym c.clear.ensures)
    ∙ ap (λ fs. unwind code (reverse fs) c.clear.new.held.items (means code tree (state_of p (record m { calls = c.push_all.new.self; blocks = c.push_within.new.items.items }) t h) n)) (sym c.push_within-in-Ok.ensures)

pub returns-in-Ok-clause-within : goal.returns-in-Ok-clause-within
returns-in-Ok-clause-within c k h values =
    let m = view_of c.args.self.now in
    let entry = OfBlock c.args.home in
    enter_reached k m c.args.frame _ _ _ _ entry c.args.shape.parameters c.args.shape.size c.args.body c.args.values.now (activation_in entry m.calls.frames) c.push_within-in-Ok.ensures c.clear.ensures c.in-Ok.ensures.pushed h tt (activation_within k entry m.calls.frames (calls_reached k m h) tt)
    values

pub returns-in-Err-Limit-Frames-clause-within : goal.returns-in-Err-Limit-Frames-clause-within
returns-in-Err-Limit-Frames-clause-within c k h last =
    c.refuse.ensures.within k (refused_reached k (view_of c.args.self.now) _ _ c.in-Err-Limit-Frames.ensures.refused c.reserve.ensures.items h)
