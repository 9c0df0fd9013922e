-- The call is asked.
use Rattle.std.proofs.Common.{◌≡◌, ◌∙◌, ◌+◌, ◌-◌, ap, arith}
use Rattle.rr_eval.specs.Requests.{arguments_of}
use Rattle.rr_eval.specs.Script.{Calls}
use Rattle.rr_eval.specs.Turns.{asking_with}
use Rattle.rr_eval.specs.Views.{view_of}
use Rattle.rr_eval.proofs.QuickRequests.{asked_known}
use Rattle.rr_eval.proofs.engine.Engine.ask_with.Goals as goal

pub returns-clause-goes : goal.returns-clause-goes
returns-clause-goes c p t comes is h =
    let m = view_of c.args.self.now in
    let steps = c.args.steps in
    let vs = arguments_of c.args.arguments in
    let spent : m.left - (steps + 1) ≡ m.left - steps - 1 = omega arith in
    asked_known p m t c.args.here steps c.args.receiver vs c.args.callee h c.requires.control comes is c.requires.enough
    ∙ ap (asking_with p m t (Calls c.args.receiver c.args.callee vs) h) spent
