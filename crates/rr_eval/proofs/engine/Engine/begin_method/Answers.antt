-- `self` is the receiver.
use Rattle.std.proofs.Common.{◌∙◌, ◌++◌, ap, sym, None}
use Rattle.rr_frames.specs.Frames.{list_of}
use Rattle.rr_space.specs.declared.refer.Ref.{Ref}
use Rattle.rr_eval.specs.declared.call.Callee.TheVariants.{Name}
use Rattle.rr_eval.specs.Dispatch.{run_method, run_work, way_of}
use Rattle.rr_eval.specs.Frames.{stand_of}
use Rattle.rr_eval.specs.Prepared.{callable_of, work_in}
use Rattle.rr_eval.specs.Turns.{context_of, after_values}
use Rattle.rr_eval.specs.Views.{view_of}
use Rattle.rr_eval.proofs.Holding.{calls_reached}
use Rattle.rr_eval.proofs.engine.Engine.begin_method.Goals as goal

pub returns-in-Run-clause-goes : goal.returns-in-Run-clause-goes
returns-in-Run-clause-goes c = λ done p name t h n.
    let m = view_of c.args.self.now in
    let f = c.args.frame in
    let ns = p.nodes.items in
    let own = context_of p in
    let vs = stand_of f m.held ++ list_of c.args.last in
    ap (λ (v : Ref). after_values p m t f (run_method own (callable_of ns c.args.definition) (way_of (Name name) None v vs) vs) h n) (sym c.itself.ensures.value)
    ∙ ap (λ w. after_values p m t f (run_work own c.args.definition.class (work_in ns w) (way_of (Name name) None c.itself.result vs) vs) h n) c.in-Run.is
    ∙ c.begin_statements.ensures.goes done p t h n

pub returns-in-Run-clause-within : goal.returns-in-Run-clause-within
returns-in-Run-clause-within c k h last =
    let m = view_of c.args.self.now in
    c.begin_statements.ensures.within k h (c.itself.ensures.within k (calls_reached k m h), tt) last
