-- The first pair is evaluated, and then the others.
use Rattle.std.proofs.Common.{sym, ap, subst, arith, ◌+◌, ◌∙◌, ◌≤◌, [], length, reverse, take, drop}
use Rattle.std.proofs.lemmas.List.{take_all, drop_all}
use Rattle.rr_tree.specs.Nodes.{trees_before}
use Rattle.rr_eval.specs.declared.call.Target.TheVariants.{Do}
use Rattle.rr_eval.specs.declared.call.Task.TheVariants.{MakeHash}
use Rattle.rr_eval.specs.Frames.{runs_in, unwind, Nested}
use Rattle.rr_eval.specs.Rules.{values, finish, pair_parts}
use Rattle.rr_eval.specs.Turns.{context_of, code_of, state_of}
use Rattle.rr_eval.specs.Views.{view_of}
use Rattle.rr_eval.proofs.Holding.{with_frames}
use Rattle.rr_eval.proofs.engine.Engine.open_pairs.Goals as goal

pub enter_pair-requires-clause-nested : goal.enter_pair-requires-clause-nested
enter_pair-requires-clause-nested c =
    let m = view_of c.args.self.now in
    let all : length m.held ≤ c.len-base.result = omega (arith, c.len-base.ensures) in
    subst (λ l. Nested (reverse c.reserve.new.self.items) l) (sym (take_all c.len-base.result m.held all)) (subst (λ fs. Nested (reverse fs) m.held) (sym c.reserve.ensures.items) c.requires.nested)

pub returns-in_ok-reserve-in_default-clause-goes : goal.returns-in_ok-reserve-in_default-clause-goes
returns-in_ok-reserve-in_default-clause-goes c t h n =
    let p = c.args.program.now in
    let m = view_of c.args.self.now in
    let s = state_of p m t h in
    let code = code_of p h.world in
    let base = c.len-base.result in
    let parts = pair_parts (trees_before p.nodes.items (c.args.first + c.args.count) c.args.count) in
    let done = finish (context_of p) (Do MakeHash) in
    let all : length m.held ≤ base = omega (arith, c.len-base.ensures) in
    ap (λ l. unwind code (reverse m.frames) l (runs_in code (values parts [] done) s n)) (sym (take_all base m.held all))
    ∙ ap (λ l. unwind code (reverse m.frames) (take base m.held) (runs_in code (values parts l done) s n)) (sym (drop_all base m.held all))
    ∙ ap (λ fs. unwind code (reverse fs) (take base m.held) (runs_in code (values parts (drop base m.held) done) s n)) (sym c.reserve.ensures.items)
    ∙ c.enter_pair.ensures.goes t h n

pub returns-in_ok-reserve-in_default-clause-within : goal.returns-in_ok-reserve-in_default-clause-within
returns-in_ok-reserve-in_default-clause-within c k h = c.enter_pair.ensures.within k (with_frames k (view_of c.args.self.now) _ c.reserve.ensures.items h)
