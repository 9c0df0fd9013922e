-- No value stands for the frame any more.
use Rattle.std.proofs.Common.{◌∙◌, ap, sym, reverse}
use Rattle.rr_eval.specs.Constants.{set_constant_rule}
use Rattle.rr_eval.specs.Frames.{runs_in, unwind}
use Rattle.rr_eval.specs.Turns.{context_of, code_of, state_of}
use Rattle.rr_eval.specs.Views.{view_of}
use Rattle.rr_eval.proofs.engine.Engine.put_constant.Goals as goal

pub returns-clause-goes : goal.returns-clause-goes
returns-clause-goes c p t h n =
    let m = view_of c.args.self.now in
    let code = code_of p h.world in
    ap (λ held. unwind code (reverse m.frames) held (runs_in code (set_constant_rule (context_of p) c.args.name c.args.value) (state_of p m t h) n)) (sym c.clear.ensures)
    ∙ c.ask_set_constant.ensures.asks p t h n

pub returns-clause-asks : goal.returns-clause-asks
returns-clause-asks c k value = c.ask_set_constant.ensures.within k value
