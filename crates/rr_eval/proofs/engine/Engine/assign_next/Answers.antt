-- The variables that come next have their values.
use Rattle.std.proofs.Common.{◌≡◌, ◌∙◌, ap, sym, arith, drop, take, slice_index_or, reverse}
use Rattle.rr_space.specs.declared.refer.Ref.TheVariants.{Nil}
use Rattle.rr_tree.specs.Nodes.{trees_before}
use Rattle.rr_eval.specs.declared.problem.Answer.TheVariants.{Gave}
use Rattle.rr_eval.specs.Frames.{runs_in, unwind}
use Rattle.rr_eval.specs.Script.{State, Script, Ret}
use Rattle.rr_eval.specs.Several.{assign_each}
use Rattle.rr_eval.specs.Turns.{context_of, code_of, state_of}
use Rattle.rr_eval.specs.Views.{view_of}
use Rattle.rr_eval.proofs.Holding.{calls_reached, held_reached}
use Rattle.rr_eval.proofs.Spots.{with_variables}
use Rattle.rr_eval.proofs.engine.Engine.assign_next.Goals as goal

pub assign_spot-requires-clause-other : goal.assign_spot-requires-clause-other
assign_spot-requires-clause-other c = c.assign_variables-left.ensures.other (omega arith)

pub returns-then-left-eq0-clause-goes : goal.returns-then-left-eq0-clause-goes
returns-then-left-eq0-clause-goes c t h n =
    let p = c.args.program.now in
    let ns = p.nodes.items in
    let own = context_of p in
    let m = view_of c.args.self.now in
    let x = c.args.assigning in
    let code = code_of p h.world in
    let s = state_of p m t h in
    let u = record s { memory = record s.memory { calls = c.assign_variables-left.new.calls } } in
    let stand = drop x.base m.held in
    let is : c.standing-stand.result.now ≡ stand = c.standing-stand.ensures.is in
    let parts = drop x.used (take x.parts stand) in
    let right = slice_index_or stand x.parts Nil in
    let r = c.assign_variables-left.result in
    let none : r.0 ≡ 0 = omega arith in
    let goes = λ (script : Script) (y : State). unwind code (reverse m.frames) (take x.base m.held) (runs_in code script y n) in
    ap (λ l. goes (assign_each own (trees_before ns x.end x.left) parts (drop x.place l) right) s) (sym is)
    ∙ ap (unwind code (reverse m.frames) (take x.base m.held)) (c.assign_variables-left.ensures.goes h.world parts right s n)
    ∙ ap (λ k. goes (assign_each own (trees_before ns x.end k) parts (drop r.1 c.standing-stand.result.now) right) u) none
    ∙ ap (λ w. goes (Ret (Gave w)) u) (ap (λ l. slice_index_or l x.parts Nil) (sym is) ∙ sym c.value_at-right.ensures.is)
    ∙ c.give_over.ensures.goes p t h n

pub returns-clause-goes : goal.returns-clause-goes
returns-clause-goes c t h n =
    let p = c.args.program.now in
    let ns = p.nodes.items in
    let own = context_of p in
    let m = view_of c.args.self.now in
    let x = c.args.assigning in
    let code = code_of p h.world in
    let s = state_of p m t h in
    let u = record s { memory = record s.memory { calls = c.assign_variables-left.new.calls } } in
    let stand = drop x.base m.held in
    let is : c.standing-stand.result.now ≡ stand = c.standing-stand.ensures.is in
    let parts = drop x.used (take x.parts stand) in
    let right = slice_index_or stand x.parts Nil in
    let r = c.assign_variables-left.result in
    let goes = λ (script : Script) (y : State). unwind code (reverse m.frames) (take x.base m.held) (runs_in code script y n) in
    ap (λ l. goes (assign_each own (trees_before ns x.end x.left) parts (drop x.place l) right) s) (sym is)
    ∙ ap (unwind code (reverse m.frames) (take x.base m.held)) (c.assign_variables-left.ensures.goes h.world parts right s n)
    ∙ ap (λ l. goes (assign_each own (trees_before ns x.end r.0) parts (drop r.1 l) right) u) is
    ∙ c.assign_spot.ensures.goes t h n

pub returns-then-left-eq0-clause-within : goal.returns-then-left-eq0-clause-within
returns-then-left-eq0-clause-within c k h =
    let m = view_of c.args.self.now in
    let stand = c.standing-stand.ensures.within k (held_reached k m h) in
    c.give_over.ensures.within k (with_variables k m c.assign_variables-left.new.calls h (c.assign_variables-left.ensures.within k stand (calls_reached k m h))) (c.value_at-right.ensures.within k stand)

pub returns-clause-within : goal.returns-clause-within
returns-clause-within c k h =
    let m = view_of c.args.self.now in
    let stand = c.standing-stand.ensures.within k (held_reached k m h) in
    c.assign_spot.ensures.within k (with_variables k m c.assign_variables-left.new.calls h (c.assign_variables-left.ensures.within k stand (calls_reached k m h)))
