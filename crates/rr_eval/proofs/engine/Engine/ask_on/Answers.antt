-- What was seen of the values does not turn what follows.
use Rattle.std.proofs.Common.{◌∙◌, refl, ap, sym, arith, reverse, length, take}
use Rattle.rr_eval.specs.Frames.{evaluates, runs_in, unwind}
use Rattle.rr_eval.specs.Heard.{script_of}
use Rattle.rr_eval.specs.Turns.{code_of, state_of}
use Rattle.rr_eval.specs.Views.{view_of}
use Rattle.rr_eval.specs.Within.{reach}
use Rattle.rr_eval.specs.Runs.{no_objects}
use Rattle.rr_eval.proofs.Answered.{kept_below, with_all, all_below}
use Rattle.rr_eval.proofs.Holding.{held_reached}
use Rattle.rr_eval.proofs.Invoking.{if_ok}
use Rattle.rr_eval.proofs.engine.Engine.ask_on.Goals as goal

pub returns-clause-goes : goal.returns-clause-goes
returns-clause-goes c =
    let p = c.args.prepared.now.program in
    let m = view_of c.args.self.now in
    let t = c.args.space.now in
    let a = c.args.asking in
    let held = c.gather.new.held.items in
    if_ok c.follow.result _ _
    (λ q goes h n.
    let code = code_of p h.world in
    let s = state_of p m t h in
    ap (unwind code (reverse m.frames) (take a.base m.held)) (c.in_ok-found.ensures.goes h.world (evaluates code) s n refl)
    ∙ ap (λ l. unwind code (reverse m.frames) l (runs_in code (script_of p a held c.in_ok-found.found) s n)) (sym (kept_below a.base m.held held (omega (arith, c.requires.base)) c.gather.ensures.kept))
    ∙ goes p t h n)
    c.follow.ensures.goes

pub returns-in_err-found-clause-within : goal.returns-in_err-found-clause-within
returns-in_err-found-clause-within c clusters h =
    let k = reach (length c.args.space.now.slots) clusters in
    let m = view_of c.args.self.now in
    with_all k m c.gather.new.held.items h (c.gather.ensures.within clusters (held_reached k m h))

pub returns-clause-within : goal.returns-clause-within
returns-clause-within c clusters h =
    let k = reach (length c.args.space.now.slots) clusters in
    let m = view_of c.args.self.now in
    c.follow.ensures.within k (with_all k m c.gather.new.held.items h (c.gather.ensures.within clusters (held_reached k m h)))

pub returns-clause-asks : goal.returns-clause-asks
returns-clause-asks c clusters h =
    let k = reach (length c.args.space.now.slots) clusters in
    let m = view_of c.args.self.now in
    c.follow.ensures.asks k (with_all k m c.gather.new.held.items h (c.gather.ensures.within clusters (held_reached k m h)))

pub returns-clause-err : goal.returns-clause-err
returns-clause-err c = all_below c.follow.result (view_of c.args.self.now) (view_of c.follow.new.self) c.gather.new.held.items (no_objects 0) c.gather.ensures.kept (c.follow.ensures.err (no_objects 0))
