-- No value stands for the frame any more.
use Rattle.std.proofs.Common.{◌∙◌, ap, sym, reverse}
use Rattle.rr_eval.specs.Globals.{set_global_rule}
use Rattle.rr_eval.specs.Frames.{runs_in, unwind}
use Rattle.rr_eval.specs.Turns.{context_of, code_of, state_of}
use Rattle.rr_eval.specs.Views.{view_of}
use Rattle.rr_eval.proofs.Holding.{without_values}
use Rattle.rr_eval.proofs.engine.Engine.put_global.Goals as goal

pub returns-clause-goes : goal.returns-clause-goes
returns-clause-goes c p h n =
    let m = view_of c.args.self.now in
    let t = c.args.space.now in
    let code = code_of p h.world in
    ap (λ held. unwind code (reverse m.frames) held (runs_in code (set_global_rule (context_of p) c.args.name c.args.value) (state_of p m t h) n)) (sym c.clear.ensures)
    ∙ c.ask_global.ensures.goes p h n

pub returns-clause-within : goal.returns-clause-within
returns-clause-within c k h = c.ask_global.ensures.within k (without_values k (view_of c.args.self.now) c.args.frame _ c.clear.ensures h)
