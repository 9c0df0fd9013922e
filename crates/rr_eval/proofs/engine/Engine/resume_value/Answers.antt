-- What is held stays within.
use Rattle.std.proofs.Common.{◌∙◌, ap, length, subst}
use Rattle.rr_eval.specs.declared.problem.Answer.TheVariants.{Gave}
use Rattle.rr_eval.specs.Turns.{after_answer}
use Rattle.rr_eval.specs.Views.{view_of}
use Rattle.rr_eval.specs.Within.{reach, IsFrameReached}
use Rattle.rr_eval.proofs.Rare.{rare_alone}
use Rattle.rr_eval.proofs.engine.Engine.resume_value.Goals as goal

pub returns-in-Argument-clause-within : goal.returns-in-Argument-clause-within
returns-in-Argument-clause-within c k h frame value = c.resume_values.ensures.within k h value

pub returns-in-Negation-clause-asks : goal.returns-in-Negation-clause-asks
returns-in-Negation-clause-asks c k h frame value = c.negate.ensures.asks (reach (length c.args.space.now.slots) k) h value

pub returns-in-Right-clause-asks : goal.returns-in-Right-clause-asks
returns-in-Right-clause-asks c k h frame value = c.operate.ensures.asks (reach (length c.args.space.now.slots) k) h (subst (IsFrameReached (reach (length c.args.space.now.slots) k)) c.in-Right.is frame) value

pub returns-in-SetField-clause-goes : goal.returns-in-SetField-clause-goes
returns-in-SetField-clause-goes c h n =
    let p = c.args.prepared.now.program in
    let t = c.args.space.now in
    ap (λ f. after_answer p (view_of c.args.self.now) t f (Gave c.args.value) h n) c.in-SetField.is ∙ c.ask_field.ensures.asks p t h n

pub returns-in-Key-clause-asks : goal.returns-in-Key-clause-asks
returns-in-Key-clause-asks c k h frame value = c.keep_key.ensures.asks (reach (length c.args.space.now.slots) k)

pub returns-in-Element-clause-asks : goal.returns-in-Element-clause-asks
returns-in-Element-clause-asks c k h frame value = c.keep_receiver.ensures.asks (reach (length c.args.space.now.slots) k)

pub returns-in-Negation-clause-within : goal.returns-in-Negation-clause-within
returns-in-Negation-clause-within c k h frame value = c.negate.ensures.within k h value

pub returns-in-Right-clause-within : goal.returns-in-Right-clause-within
returns-in-Right-clause-within c k h frame value = c.operate.ensures.within k h (subst (IsFrameReached (reach (length c.args.space.now.slots) k)) c.in-Right.is frame) value

pub returns-in-Put-clause-within : goal.returns-in-Put-clause-within
returns-in-Put-clause-within c k h frame value = c.resume_put.ensures.within k h value

pub returns-in-Put-clause-asks : goal.returns-in-Put-clause-asks
returns-in-Put-clause-asks c k h frame value = c.resume_put.ensures.asks (reach (length c.args.space.now.slots) k) h value

pub resume_alone-requires-clause-alone : goal.resume_alone-requires-clause-alone
resume_alone-requires-clause-alone c =
    let is = c.in_default in
    rare_alone c.args.frame c.requires.rare (record {
      no_negation = is.not-Negation;
      no_right = is.not-Right;
      no_set_field = is.not-SetField;
      no_argument = is.not-Argument;
      no_receiver = is.not-Receiver;
      no_item = c.requires.whole;
      no_key = is.not-Key;
      no_value = is.not-Value;
      no_asking = c.requires.unasked;
      no_asked = is.not-Asked;
      no_element = is.not-Element;
      no_put = is.not-Put;
      no_round = c.requires.inside;
      no_turned = is.not-Turned;
    })
