-- The targets get what the right side has for them.
use Rattle.std.proofs.Common.{◌≡◌, ◌∙◌, ◌-◌, ap, sym, subst, arith, length, drop, take, reverse, Some, IfSome}
use Rattle.std.specs.List.{All}
use Rattle.std.specs.Option.{option_map}
use Rattle.rr_tree.specs.Nodes.{trees_before}
use Rattle.rr_eval.specs.Blocks.{to_given}
use Rattle.rr_eval.specs.Frames.{Nested, runs_in, unwind}
use Rattle.rr_eval.specs.Several.{right_values, assign_each}
use Rattle.rr_eval.specs.Turns.{context_of, code_of, state_of}
use Rattle.rr_eval.specs.Views.{view_of}
use Rattle.rr_eval.specs.Within.{reach, IsReached}
use Rattle.rr_eval.proofs.Answered.{with_all}
use Rattle.rr_eval.proofs.Holding.{all_append, all_cons, held_reached}
use Rattle.rr_eval.proofs.Spots.{below_more, right_over}
use Rattle.rr_eval.proofs.engine.Engine.resume_several.Goals as goal

pub assign_next-requires-clause-nested : goal.assign_next-requires-clause-nested
assign_next-requires-clause-nested c =
    let m = view_of c.args.self.now in
    let push = c.in_ok-hold_right.ensures.held in
    subst (λ l. Nested (reverse m.frames) l) (below_more c.args.base m.held c.hold_right.new.held.items _ push c.requires.base) c.requires.nested

pub returns-clause-goes : goal.returns-clause-goes
returns-clause-goes c h n =
    let p = c.args.program.now in
    let own = context_of p in
    let code = code_of p h.world in
    let m = view_of c.args.self.now in
    let t = c.args.space.now in
    let s = state_of p m t h in
    let v = c.args.value in
    let base = c.args.base in
    let ts = trees_before p.nodes.items c.args.end c.args.count in
    let given : right_values t v ≡ Some c.in-Some.values.items = sym c.in_ok-values.ensures.are ∙ ap (option_map (λ vs. vs.items)) c.in-Some.is in
    ap (λ o. unwind code (reverse m.frames) (take base m.held) (runs_in code (to_given own o (λ vs. assign_each own ts (drop base m.held) vs v)) s n)) given
    ∙ ap (λ vs. unwind code (reverse m.frames) (take base m.held) (runs_in code (assign_each own ts (drop base m.held) vs v) s n)) (sym c.as_slice.ensures.value)
    ∙ right_over code m.frames c.args.end c.args.count base (c.len.result - base) m.held c.hold_right.new.held.items c.as_slice.result.now v s n c.in_ok-hold_right.ensures.held c.requires.base (omega arith)
    ∙ c.assign_next.ensures.goes t h n

pub returns-clause-within : goal.returns-clause-within
returns-clause-within c clusters h value =
    let k = reach (length c.args.space.now.slots) clusters in
    let m = view_of c.args.self.now in
    let values : All (IsReached k) c.in-Some.values.items = subst (λ o. IfSome o (λ vs. All (IsReached k) vs.items)) c.in-Some.is (c.in_ok-values.ensures.within clusters value) in
    let given = subst (All (IsReached k)) (sym c.as_slice.ensures.value) values in
    let all = subst (All (IsReached k)) (sym c.in_ok-hold_right.ensures.held) (all_append (IsReached k) m.held _ (held_reached k m h) (all_cons (IsReached k) c.args.value c.as_slice.result.now value given)) in
    c.assign_next.ensures.within k (with_all k m c.hold_right.new.held.items h all)

pub returns-in_default-clause-within : goal.returns-in_default-clause-within
returns-in_default-clause-within c clusters h value = c.refuse.ensures.within (reach (length c.args.space.now.slots) clusters) h
