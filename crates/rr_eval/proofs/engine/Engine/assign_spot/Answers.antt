-- A target is a step for the targets that are left.
use Rattle.std.proofs.Common.{◌≡◌, ◌-◌, ◌∙◌, ap, sym, drop, take, slice_index_or, reverse, Some, None}
use Rattle.std.specs.Option.{option_map}
use Rattle.rr_space.specs.declared.refer.Ref.TheVariants.{Nil}
use Rattle.rr_tree.specs.Tree.{tree_at}
use Rattle.rr_eval.specs.declared.frame.Control.TheVariants.{Assign}
use Rattle.rr_eval.specs.declared.frame.Frame.TheVariants.{Assigned}
use Rattle.rr_eval.specs.Basics.{variable_of}
use Rattle.rr_eval.specs.Frames.{unwind, outcome_of}
use Rattle.rr_eval.specs.Several.{spot_of, next_value}
use Rattle.rr_eval.specs.Turns.{code_of, state_of}
use Rattle.rr_eval.specs.Views.{view_of}
use Rattle.rr_eval.proofs.Holding.{held_reached}
use Rattle.rr_eval.proofs.Spots.{assigns_over, frame_reached}
use Rattle.rr_eval.proofs.Targets.{none_assigned}
use Rattle.rr_eval.proofs.engine.Engine.assign_spot.Goals as goal

pub returns-in-Some-clause-goes : goal.returns-in-Some-clause-goes
returns-in-Some-clause-goes c t h n =
    let p = c.args.program.now in
    let ns = p.nodes.items in
    let m = view_of c.args.self.now in
    let x = c.args.assigning in
    let code = code_of p h.world in
    let s = state_of p m t h in
    let stand = drop x.base m.held in
    let parts = drop x.used (take x.parts stand) in
    let is : c.standing-stand.result.now ≡ stand = c.standing-stand.ensures.is in
    let left : c.parts_left-parts.result.now ≡ parts = c.parts_left-parts.ensures.are ∙ ap (λ l. drop x.used (take x.parts l)) is in
    let place = c.saturating_sub-target.result in
    let behind = c.next_value-place.result.1 in
    let at : place ≡ x.end - x.left = c.saturating_sub-target.ensures in
    let other : variable_of (tree_at ns place) ≡ None = ap (λ k. variable_of (tree_at ns k)) at ∙ c.requires.other in
    let spot : spot_of (tree_at ns place) parts ≡ Some c.in-Some.spot = ap (spot_of (tree_at ns place)) (sym left) ∙ sym c.spot_of.ensures.is ∙ ap (option_map (λ r. r.0)) c.in-Some.is in
    let value : c.next_value-place.result.0 ≡ next_value (drop x.place stand) = c.next_value-place.ensures.value ∙ ap (λ l. next_value (drop x.place l)) is in
    let rest : drop behind stand ≡ drop 1 (drop x.place stand) = ap (drop behind) (sym is) ∙ c.next_value-place.ensures.behind ∙ ap (λ l. drop 1 (drop x.place l)) is in
    assigns_over code m.frames x m.held place c.in-Some.own behind c.in-Some.spot c.next_value-place.result.0 s n c.requires.some at other spot c.in-Some.ensures.own value rest
    ∙ ap (λ fs. outcome_of code fs m.held (Assign c.in-Some.spot c.next_value-place.result.0) s n) (sym c.push_within.ensures)

pub returns-in-None-clause-goes : goal.returns-in-None-clause-goes
returns-in-None-clause-goes c t h n =
    let p = c.args.program.now in
    let ns = p.nodes.items in
    let m = view_of c.args.self.now in
    let x = c.args.assigning in
    let code = code_of p h.world in
    let s = state_of p m t h in
    let stand = drop x.base m.held in
    let parts = drop x.used (take x.parts stand) in
    let is : c.standing-stand.result.now ≡ stand = c.standing-stand.ensures.is in
    let left : c.parts_left-parts.result.now ≡ parts = c.parts_left-parts.ensures.are ∙ ap (λ l. drop x.used (take x.parts l)) is in
    let place = c.saturating_sub-target.result in
    let at : place ≡ x.end - x.left = c.saturating_sub-target.ensures in
    let other : variable_of (tree_at ns place) ≡ None = ap (λ k. variable_of (tree_at ns k)) at ∙ c.requires.other in
    let none : spot_of (tree_at ns place) parts ≡ None = ap (spot_of (tree_at ns place)) (sym left) ∙ sym c.spot_of.ensures.is ∙ ap (option_map (λ r. r.0)) c.in-None.is in
    ap (unwind code (reverse m.frames) (take x.base m.held)) (none_assigned code x.end place x.left parts (drop x.place stand) (slice_index_or stand x.parts Nil) s n c.requires.some at other none)
    ∙ c.refuse.ensures.goes p t h n

pub returns-in-Some-clause-within : goal.returns-in-Some-clause-within
returns-in-Some-clause-within c k h =
    let stand = c.standing-stand.ensures.within k (held_reached k (view_of c.args.self.now) h) in
    let value = c.next_value-place.ensures.within k stand in
    let spot = c.in-Some.ensures.within k (c.parts_left-parts.ensures.within k stand) in
    frame_reached k (view_of c.args.self.now) (Assigned _) _ (Assign c.in-Some.spot c.next_value-place.result.0) c.push_within.ensures h tt (spot, value)
