-- The variables get what the right side has for them.
use Rattle.std.proofs.Common.{◌≡◌, ◌∙◌, ap, sym, subst, refl, length, drop, take, reverse, Some, IfSome}
use Rattle.std.specs.List.{All}
use Rattle.std.specs.Option.{option_map}
use Rattle.rr_tree.specs.Nodes.{trees_before}
use Rattle.rr_eval.specs.Blocks.{to_given}
use Rattle.rr_eval.specs.Frames.{runs_in, unwind}
use Rattle.rr_eval.specs.Script.{State, Script}
use Rattle.rr_eval.specs.Several.{right_values, assign_each}
use Rattle.rr_eval.specs.Turns.{context_of, code_of, state_of, remaining_with}
use Rattle.rr_eval.specs.Views.{view_of}
use Rattle.rr_eval.specs.Within.{reach, IsReached}
use Rattle.rr_eval.proofs.Holding.{calls_reached}
use Rattle.rr_eval.proofs.Spots.{with_variables}
use Rattle.rr_eval.proofs.Targets.{none_left}
use Rattle.rr_eval.proofs.engine.Engine.resume_variables.Goals as goal

pub returns-clause-goes : goal.returns-clause-goes
returns-clause-goes c h =
    let p = c.args.program.now in
    let ns = p.nodes.items in
    let own = context_of p in
    let code = code_of p h.world in
    let m = view_of c.take_top.new.self in
    let t = c.args.space.now in
    let s = state_of p m t h in
    let n = m.left in
    let v = c.args.value in
    let base = c.args.base in
    let ts = trees_before ns c.args.end c.args.count in
    let parts = drop base m.held in
    let r = c.assign_variables.result in
    let u = record s { memory = record s.memory { calls = c.assign_variables.new.calls } } in
    let goes = λ (script : Script) (y : State). unwind code (reverse m.frames) (take base m.held) (runs_in code script y n) in
    let given : right_values t v ≡ Some c.in-Some.values.items = sym c.in-Ok.ensures.are ∙ ap (option_map (λ vs. vs.items)) c.in-Some.is in
    let none : r.0 ≡ 0 = none_left r.0 (λ some. c.if-not-are_variables.ensures refl r.0 some c.assign_variables.ensures.fewer (c.assign_variables.ensures.other some)) in
    c.take_top.ensures.goes p t h
    ∙ ap (λ o. goes (to_given own o (λ vs. assign_each own ts parts vs v)) s) given
    ∙ ap (λ vs. goes (assign_each own ts parts vs v) s) (sym c.as_slice.ensures.value)
    ∙ ap (unwind code (reverse m.frames) (take base m.held)) (c.assign_variables.ensures.goes h.world parts v s n)
    ∙ ap (λ k. goes (assign_each own (trees_before ns c.args.end k) parts (drop r.1 c.as_slice.result.now) v) u) none
    ∙ c.give_over.ensures.goes p t h n
    ∙ ap (remaining_with p (view_of c.give_over.new.self) t h) (sym c.give_over.ensures.left)

pub returns-clause-within : goal.returns-clause-within
returns-clause-within c clusters h =
    let k = reach (length c.args.space.now.slots) clusters in
    let m = view_of c.take_top.new.self in
    let low = c.take_top.ensures.within k h in
    let value = c.take_top.ensures.given k h in
    let values : All (IsReached k) c.in-Some.values.items = subst (λ o. IfSome o (λ vs. All (IsReached k) vs.items)) c.in-Some.is (c.in-Ok.ensures.within clusters value) in
    let given = subst (All (IsReached k)) (sym c.as_slice.ensures.value) values in
    c.give_over.ensures.within k (with_variables k m c.assign_variables.new.calls low (c.assign_variables.ensures.within k given (calls_reached k m low))) value
