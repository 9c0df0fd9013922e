-- An instance variable is read where there are no arguments.
use Rattle.std.proofs.Common.{◌≡◌, ◌++◌, ◌∙◌, ap, sym, length, reverse}
use Rattle.rr_frames.specs.Frames.{list_of}
use Rattle.rr_builtin.specs.Fields.{field_at}
use Rattle.rr_builtin.specs.declared.problem.Problem.TheVariants.{Count}
use Rattle.rr_eval.specs.declared.problem.Problem.TheVariants.{BuiltIn}
use Rattle.rr_eval.specs.Dispatch.{passed_on, valued_response}
use Rattle.rr_eval.specs.Fields.{field_response}
use Rattle.rr_eval.specs.Frames.{stand_of, unwind, runs_in}
use Rattle.rr_eval.specs.Rules.{settled, throw}
use Rattle.rr_eval.specs.Script.{See}
use Rattle.rr_eval.specs.Turns.{context_of, code_of, state_of, after_values}
use Rattle.rr_eval.specs.Views.{view_of}
use Rattle.rr_eval.specs.Within.{reach}
use Rattle.rr_eval.proofs.Holding.{without_values}
use Rattle.rr_eval.proofs.Invoking.{as_many, others}
use Rattle.rr_eval.proofs.engine.Engine.run_reader.Goals as goal

pub returns-then-given-eq0-clause-goes : goal.returns-then-given-eq0-clause-goes
returns-then-given-eq0-clause-goes c p class h n =
    let m = view_of c.args.self.now in
    let f = c.args.frame in
    let own = context_of p in
    let t = c.args.space.now in
    let by = c.args.way.value in
    let vs = passed_on c.args.passing (stand_of f m.held ++ list_of c.args.last) in
    let next = See (λ k. settled own (valued_response by (field_response k.table (field_at k.table c.args.way.receiver c.args.name.0)))) in
    let count : c.count_of-given.result ≡ length vs = c.count_of-given.ensures ∙ ap (λ l. length (passed_on c.args.passing (l ++ list_of c.args.last))) c.standing.ensures.is in
    let same : length vs ≡ 0 = sym count ∙ c.if-given-eq0.true in
    ap (λ r. after_values p m t f r h n) (sym (as_many own 0 vs next same))
    ∙ ap (λ r. after_values p m t f (settled own r) h n) (sym (c.valued_response.ensures.is ∙ ap (valued_response by) c.read_field-held.ensures.is))
    ∙ ap (λ held. unwind (code_of p h.world) (reverse m.frames) held (runs_in (code_of p h.world) (settled own c.valued_response.result) (state_of p m t h) n)) (sym c.clear.ensures)
    ∙ c.settle.ensures.goes p t h n

pub returns-then-given-eq0-clause-within : goal.returns-then-given-eq0-clause-within
returns-then-given-eq0-clause-within c clusters h way =
    let k = reach (length c.args.space.now.slots) clusters in
    c.settle.ensures.within k (without_values k (view_of c.args.self.now) c.args.frame _ c.clear.ensures h) (c.valued_response.ensures.within k way.1 (c.read_field-held.ensures.within clusters))

pub returns-else-given-eq0-clause-goes : goal.returns-else-given-eq0-clause-goes
returns-else-given-eq0-clause-goes c p class h n =
    let m = view_of c.args.self.now in
    let f = c.args.frame in
    let own = context_of p in
    let t = c.args.space.now in
    let vs = passed_on c.args.passing (stand_of f m.held ++ list_of c.args.last) in
    let next = See (λ k. settled own (valued_response c.args.way.value (field_response k.table (field_at k.table c.args.way.receiver c.args.name.0)))) in
    let count : c.count_of-given.result ≡ length vs = c.count_of-given.ensures ∙ ap (λ l. length (passed_on c.args.passing (l ++ list_of c.args.last))) c.standing.ensures.is in
    let other = λ (e : length vs ≡ 0). c.if-given-eq0.false (count ∙ e) in
    ap (λ r. after_values p m t f r h n) (sym (others own 0 vs next other))
    ∙ ap (λ k. after_values p m t f (throw own (BuiltIn (Count k 0 0))) h n) (sym count)
    ∙ ap (λ e. after_values p m t f (throw own e) h n) (sym c.wrong_count.ensures)
    ∙ c.refuse.ensures.goes p t h n

pub returns-else-given-eq0-clause-within : goal.returns-else-given-eq0-clause-within
returns-else-given-eq0-clause-within c clusters h way = c.refuse.ensures.within (reach (length c.args.space.now.slots) clusters) h
