-- A receiver is called by a name.
use Rattle.std.proofs.Common.{◌≡◌, ◌∙◌, ◌++◌, ap, sym, length, reverse, None}
use Rattle.rr_frames.specs.Frames.{list_of}
use Rattle.rr_builtin.specs.Fields.{field_at}
use Rattle.rr_eval.specs.declared.call.Callee.TheVariants.{Name}
use Rattle.rr_eval.specs.declared.call_stack.CallValue.TheVariants.{Method}
use Rattle.rr_eval.specs.Dispatch.{passed_on, run_work, way_of, valued_response}
use Rattle.rr_eval.specs.Fields.{field_response}
use Rattle.rr_eval.specs.Frames.{stand_of, unwind, runs_in}
use Rattle.rr_eval.specs.Prepared.{work_in}
use Rattle.rr_eval.specs.Rules.{settled}
use Rattle.rr_eval.specs.Script.{See}
use Rattle.rr_eval.specs.Turns.{context_of, code_of, state_of, after_values}
use Rattle.rr_eval.specs.Views.{view_of}
use Rattle.rr_eval.specs.Within.{reach}
use Rattle.rr_eval.proofs.Holding.{without_values}
use Rattle.rr_eval.proofs.Invoking.{as_many, of_method}
use Rattle.rr_eval.proofs.engine.Engine.begin_sent.Goals as goal

pub returns-in-Run-clause-goes : goal.returns-in-Run-clause-goes
returns-in-Run-clause-goes c = λ done p name h n.
    let m = view_of c.args.self.now in
    let f = c.args.frame in
    let ns = p.nodes.items in
    let own = context_of p in
    let vs = passed_on c.args.passing (stand_of f m.held ++ list_of c.args.last) in
    ap (λ w. after_values p m c.args.space.now f (run_work own c.args.definition.class (work_in ns w) (way_of (Name name) None c.args.receiver vs) vs) h n) c.in-Run.is
    ∙ c.begin_statements.ensures.goes done p c.args.space.now h n

pub returns-then-given-eq0-clause-goes : goal.returns-then-given-eq0-clause-goes
returns-then-given-eq0-clause-goes c = λ _ p name h n.
    let m = view_of c.args.self.now in
    let f = c.args.frame in
    let ns = p.nodes.items in
    let own = context_of p in
    let t = c.args.space.now in
    let vs = passed_on c.args.passing (stand_of f m.held ++ list_of c.args.last) in
    let next = See (λ k. settled own (valued_response Method (field_response k.table (field_at k.table c.args.receiver c.in-Read.name.0)))) in
    let count : c.count_of-given.result ≡ length vs = c.count_of-given.ensures ∙ ap (λ l. length (passed_on c.args.passing (l ++ list_of c.args.last))) c.standing.ensures.is in
    let same : length vs ≡ 0 = sym count ∙ c.if-given-eq0.true in
    ap (λ w. after_values p m t f (run_work own c.args.definition.class (work_in ns w) (way_of (Name name) None c.args.receiver vs) vs) h n) c.in-Read.is
    ∙ ap (λ r. after_values p m t f r h n) (sym (as_many own 0 vs next same))
    ∙ ap (λ r. after_values p m t f (settled own r) h n) (of_method (field_response t (field_at t c.args.receiver c.in-Read.name.0)) ∙ sym c.read_field-held.ensures.is)
    ∙ ap (λ held. unwind (code_of p h.world) (reverse m.frames) held (runs_in (code_of p h.world) (settled own c.read_field-held.result) (state_of p m t h) n)) (sym c.clear.ensures)
    ∙ c.settle.ensures.goes p t h n

pub returns-then-given-eq0-clause-within : goal.returns-then-given-eq0-clause-within
returns-then-given-eq0-clause-within c clusters h receiver last =
    let k = reach (length c.args.space.now.slots) clusters in
    c.settle.ensures.within k (without_values k (view_of c.args.self.now) c.args.frame _ c.clear.ensures h) (c.read_field-held.ensures.within clusters)
