-- The turn is done without its frame.
use Rattle.std.proofs.Common.{List, None, Ok, Some, ◌≡◌, ◌+◌, ◌-◌, ◌∙◌, ◌∷◌, [], ap, arith, drop, length, refl, reverse, subst, sym, take, rules, w64, to_z, of_z}
use Rattle.rr_space.specs.declared.refer.Ref.{Ref}
use Rattle.rr_eval.specs.declared.engine.Engine.{Engine}
use Rattle.rr_eval.specs.declared.frame.Frame.TheVariants.{Turned}
use Rattle.rr_eval.specs.declared.iterating.Ahead.TheVariants.{Another}
use Rattle.rr_eval.specs.declared.iterating.Visits.TheVariants.{Times}
use Rattle.rr_eval.specs.Frames.{iterated, runs_in, unwind}
use Rattle.rr_eval.specs.Iterating.{ahead, below, continued_with, kept}
use Rattle.rr_eval.specs.Turns.{context_of, code_of, state_of, after_values}
use Rattle.rr_eval.specs.Unframed.{SetsInside}
use Rattle.rr_eval.specs.Views.{view_of}
use Rattle.rr_eval.specs.Within.{AreReached}
use Rattle.rr_tree.specs.Tree.{tree_at}
use Rattle.rr_eval.proofs.Frameless.{turn_goes}
use Rattle.rr_eval.proofs.engine.Engine.go_time.Goals as goal

pub returns-clause-goes : goal.returns-clause-goes
returns-clause-goes c = λ v t h.
    let p = c.args.prepared.now.program in
    let own = context_of p in
    let code = code_of p h.world in
    let old = c.args.self.now in
    let m = view_of old in
    let new = c.statements_unframed.new.self in
    let i = c.args.iteration in
    let stand = drop i.base m.held in
    let turn = c.in-Another-Some-None-Times in
    let done = c.in_ok-done.done in
    let few = c.in_ok-done.ensures.few in
    let enough = c.requires.steps in
    let k = old.left - done.steps in
    let done_then : Engine = record old { calls = new.calls } in
    let more = Times turn.next in
    let is : c.below.result ≡ Another (Some turn.given) None more =
    turn.is ∙ ap (λ x. Another x turn.field-1 turn.field-2) turn.field-0-is ∙ ap (λ x. Another (Some turn.given) x turn.field-2) turn.field-1-is ∙ ap (λ x. Another (Some turn.given) None x) turn.field-2-is in
    let sum : old.left ≡ done.steps + k = omega (arith, few, enough) in
    let whole : to_z w64 (of_z w64 c.args.here) ≡ c.args.here = search rules in
    let read : to_z w64 (of_z w64 turn.next) ≡ turn.next = search rules in
    let its = continued_with own (iterated code i stand) v in
    let next = λ (held : List Ref). continued_with own (iterated code (record i { visits = more }) (drop i.base held)) done.value in
    let inside = subst (λ x. SetsInside p m (turn.given ∷ []) x (tree_at p.nodes.items i.block) done.steps done.value (view_of done_then)) c.requires.home
    (subst (λ (e : Engine). SetsInside p m (turn.given ∷ []) c.args.home (tree_at p.nodes.items i.block) done.steps done.value (view_of e)) c.in_ok-done.ensures.others c.in_ok-done.ensures.sets) in
    ap (λ j. unwind code (reverse m.frames) (take i.base m.held) (runs_in code its (state_of p m t h) j)) sum
    ∙ ap (unwind code (reverse m.frames) (take i.base m.held)) (turn_goes p m (view_of done_then) t h i stand more turn.given v done.value c.args.size done.steps k
    (ap (λ x. kept x v stand t) c.requires.visits) (ap (λ x. ahead x stand t) c.requires.visits ∙ ap (below c.args.here) c.requires.bound ∙ ap (λ z. below z c.args.bound) (sym whole) ∙ sym c.below.ensures.is ∙ is) (λ shape. refl) c.requires.shape c.requires.size c.requires.frames inside)
    ∙ ap (λ (e : Engine). after_values p (record (view_of e) { left = e.left - done.steps }) t (Turned (record i { visits = more })) (next (view_of e).held) h (e.left - done.steps)) (sym c.in_ok-done.ensures.others)
    ∙ ap (λ z. after_values p (record (view_of new) { left = new.left - done.steps }) t (Turned (record i { visits = Times z })) (continued_with own (iterated code (record i { visits = Times z }) (drop i.base (view_of new).held)) done.value) h (new.left - done.steps)) (sym read)

pub returns-clause-within : goal.returns-clause-within
unfolding AreReached
returns-clause-within c k h =
    let all = c.in_ok-done.ensures.within k h in
    record { control = all.control; frames = all.frames; held = all.held; calls = all.calls; rescuing = all.rescuing }

pub returns-clause-value : goal.returns-clause-value
returns-clause-value c = c.in_ok-done.ensures.value
