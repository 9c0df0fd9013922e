-- What is held stays within.
use Rattle.std.proofs.Common.{◌∙◌, ap, length, subst}
use Rattle.rr_eval.specs.declared.frame.Control.TheVariants.{Give}
use Rattle.rr_eval.specs.declared.problem.Answer.TheVariants.{Gave}
use Rattle.rr_eval.specs.Turns.{after_answer}
use Rattle.rr_eval.specs.Views.{view_of}
use Rattle.rr_eval.specs.Within.{reach, IsFrameReached}
use Rattle.rr_eval.proofs.Holding.{with_control, with_rescuing}
use Rattle.rr_eval.proofs.Rare.{none_quiet}
use Rattle.rr_eval.proofs.engine.Engine.resume_quietly.Goals as goal

pub returns-in-Handling-clause-within : goal.returns-in-Handling-clause-within
returns-in-Handling-clause-within c k h frame value = with_rescuing (reach (length c.args.space.now.slots) k) (view_of c.args.self.now) c.in-Handling.old (Give (Gave c.args.value)) h (subst (IsFrameReached (reach (length c.args.space.now.slots) k)) c.in-Handling.is frame) value

pub returns-in-Kept-clause-within : goal.returns-in-Kept-clause-within
returns-in-Kept-clause-within c k h frame value = with_control (reach (length c.args.space.now.slots) k) (view_of c.args.self.now) (Give c.in-Kept.answer) h (subst (IsFrameReached (reach (length c.args.space.now.slots) k)) c.in-Kept.is frame)

pub returns-in-Read-clause-goes : goal.returns-in-Read-clause-goes
returns-in-Read-clause-goes c h n =
    let p = c.args.program.now in
    let t = c.args.space.now in
    ap (λ f. after_answer p (view_of c.args.self.now) t f (Gave c.args.value) h n) c.in-Read.is ∙ c.resume_read.ensures.goes p t h n

pub returns-in-Read-clause-within : goal.returns-in-Read-clause-within
returns-in-Read-clause-within c k h frame value = c.resume_read.ensures.within (reach (length c.args.space.now.slots) k) h value

pub returns-in-Combine-clause-goes : goal.returns-in-Combine-clause-goes
returns-in-Combine-clause-goes c h n =
    let p = c.args.program.now in
    let t = c.args.space.now in
    ap (λ f. after_answer p (view_of c.args.self.now) t f (Gave c.args.value) h n) c.in-Combine.is ∙ c.resume_combine.ensures.goes p t h n

pub returns-in-Combine-clause-within : goal.returns-in-Combine-clause-within
returns-in-Combine-clause-within c k h frame value =
    let far = reach (length c.args.space.now.slots) k in
    c.resume_combine.ensures.within far h (subst (IsFrameReached far) c.in-Combine.is frame) value

pub returns-in-Assigned-clause-goes : goal.returns-in-Assigned-clause-goes
returns-in-Assigned-clause-goes c h n =
    let p = c.args.program.now in
    let t = c.args.space.now in
    ap (λ f. after_answer p (view_of c.args.self.now) t f (Gave c.args.value) h n) c.in-Assigned.is ∙ c.assign_next.ensures.goes t h n

pub returns-in-Assigned-clause-within : goal.returns-in-Assigned-clause-within
returns-in-Assigned-clause-within c k h frame value = c.assign_next.ensures.within (reach (length c.args.space.now.slots) k) h

pub unreachable-requires : goal.unreachable-requires
unreachable-requires c =
    let is = c.in_default in
    none_quiet c.args.frame c.requires.quiet (record {
      no_assigned = is.not-Assigned;
      no_read = is.not-Read;
      no_combine = is.not-Combine;
      no_rescue = is.not-Rescue;
      no_class = is.not-Class;
      no_handling = is.not-Handling;
      no_ensure = is.not-Ensure;
      no_kept = is.not-Kept;
    })
