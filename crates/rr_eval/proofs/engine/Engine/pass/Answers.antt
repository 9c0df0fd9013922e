-- What is held stays within.
use Rattle.std.proofs.Common.{◌∙◌, ap, sym, subst, reverse}
use Rattle.rr_eval.specs.Frames.{below_of, runs_in, stand_of, start, unwind}
use Rattle.rr_eval.specs.Turns.{code_of, state_of}
use Rattle.rr_eval.specs.Views.{view_of}
use Rattle.rr_eval.specs.Within.{IsFrameReached}
use Rattle.rr_eval.proofs.Invoking.{answer_passes}
use Rattle.rr_eval.proofs.engine.Engine.pass.Goals as goal

pub returns-in-Condition-clause-within : goal.returns-in-Condition-clause-within
returns-in-Condition-clause-within c k h frame answer = c.leave_loop.ensures.within k h answer

pub returns-in-Body-clause-within : goal.returns-in-Body-clause-within
returns-in-Body-clause-within c k h frame answer = c.leave_loop-in-Body.ensures.within k h answer

pub returns-in-Rescue-clause-within : goal.returns-in-Rescue-clause-within
returns-in-Rescue-clause-within c k h frame answer = c.leave_rescued.ensures.within k h answer

pub returns-in-Ensure-clause-within : goal.returns-in-Ensure-clause-within
returns-in-Ensure-clause-within c k h frame answer = c.enter_above.ensures.within k h answer

pub returns-in-Back-clause-within : goal.returns-in-Back-clause-within
returns-in-Back-clause-within c k h frame answer = c.leave_back.ensures.within k h (subst (IsFrameReached k) c.in-Back.is frame) answer

pub returns-in-Past-clause-within : goal.returns-in-Past-clause-within
returns-in-Past-clause-within c k h frame answer = c.leave_past.ensures.within k h answer

pub returns-in-Asking-clause-within : goal.returns-in-Asking-clause-within
returns-in-Asking-clause-within c k h frame answer = c.leave_asking.ensures.within k h answer

pub returns-in-Round-clause-within : goal.returns-in-Round-clause-within
returns-in-Round-clause-within c k h frame answer = c.leave_round.ensures.within k h answer

pub returns-in_default-clause-goes : goal.returns-in_default-clause-goes
returns-in_default-clause-goes c h =
    let p = c.args.program.now in
    let m = view_of c.args.self.now in
    let s = state_of p m c.args.space.now h in
    let code = code_of p h.world in
    let f = c.args.frame in
    let is = c.in_default in
    ap (λ x. unwind code (reverse m.frames) (below_of f m.held) (runs_in code x s m.left)) (answer_passes code f (stand_of f m.held) c.args.answer (record {
      no_back = is.not-Back;
      no_past = is.not-Past;
      no_condition = is.not-Condition;
      no_body = is.not-Body;
      no_rescue = is.not-Rescue;
      no_handling = is.not-Handling;
      no_ensure = is.not-Ensure;
      no_asking = is.not-Asking;
      no_round = is.not-Round;
    }) c.requires.passes)
    ∙ ap (λ k. unwind code (reverse m.frames) (below_of f m.held) (start code k s m.left)) (sym c.requires.control)
    ∙ ap (λ held. unwind code (reverse m.frames) held (start code m.control s m.left)) (sym c.clear.ensures)
