-- `self` is the receiver, and no value stands.
use Rattle.std.proofs.Common.{◌∙◌, ap, sym, subst, length, reverse, None, []}
use Rattle.rr_space.specs.declared.refer.Ref.{Ref}
use Rattle.rr_eval.specs.declared.call.Callee.TheVariants.{Name}
use Rattle.rr_eval.specs.Dispatch.{run_method, way_of}
use Rattle.rr_eval.specs.Frames.{Nested, runs_in, unwind}
use Rattle.rr_eval.specs.Prepared.{callable_of}
use Rattle.rr_eval.specs.Runs.{no_objects}
use Rattle.rr_eval.specs.Turns.{context_of, code_of, state_of, after_script}
use Rattle.rr_eval.specs.Views.{view_of}
use Rattle.rr_eval.specs.Within.{reach, IsReached}
use Rattle.rr_eval.proofs.Holding.{all_nil, calls_reached, with_frames}
use Rattle.rr_eval.proofs.Invoking.{if_ok, nested_still}
use Rattle.rr_eval.proofs.engine.Engine.run_own.Goals as goal

pub returns-clause-goes : goal.returns-clause-goes
returns-clause-goes c =
    let m = view_of c.args.self.now in
    let t = c.args.space.now in
    if_ok c.run_method.result _ _
    (λ q goes p name h n.
    let script = λ (v : Ref). run_method (context_of p) (callable_of p.nodes.items c.args.definition) (way_of (Name name) None v []) [] in
    ap (λ v. after_script p m t (script v) h n) (sym c.itself.ensures.value)
    ∙ ap (λ fs. unwind (code_of p h.world) (reverse fs) m.held (runs_in (code_of p h.world) (script c.itself.result) (state_of p m t h) n)) (sym c.reserve.ensures.items)
    ∙ goes p h n)
    c.run_method.ensures.goes

pub returns-clause-nested : goal.returns-clause-nested
returns-clause-nested c =
    let m = view_of c.args.self.now in
    nested_still c.run_method.result (record m { frames = c.reserve.new.self.items }) (view_of c.run_method.new.self) (no_objects 0) (subst (λ fs. Nested (reverse fs) m.held) (sym c.reserve.ensures.items) c.requires.nested) c.run_method.ensures.nested c.run_method.ensures.err

pub returns-clause-within : goal.returns-clause-within
returns-clause-within c clusters h =
    let k = reach (length c.args.space.now.slots) clusters in
    let m = view_of c.args.self.now in
    c.run_method.ensures.within clusters (with_frames k m _ c.reserve.ensures.items h) (c.itself.ensures.within k (calls_reached k m h), tt) (all_nil (IsReached k))

pub returns-clause-asks : goal.returns-clause-asks
returns-clause-asks c k h =
    let m = view_of c.args.self.now in
    c.run_method.ensures.asks k (with_frames k m _ c.reserve.ensures.items h) (c.itself.ensures.within k (calls_reached k m h), tt) (all_nil (IsReached k))
