-- What is held stays within.
use Rattle.std.proofs.Common.{◌∙◌, ap, sym, subst, length}
use Rattle.rr_eval.specs.declared.problem.Answer.TheVariants.{Gave}
use Rattle.rr_eval.specs.Turns.{after_answer, remaining_with}
use Rattle.rr_eval.specs.Views.{view_of}
use Rattle.rr_eval.specs.Within.{reach, IsFrameReached}
use Rattle.rr_eval.proofs.OtherFrames.{other_rare}
use Rattle.rr_eval.proofs.engine.Engine.resume.Goals as goal

pub returns-in-Left-clause-within : goal.returns-in-Left-clause-within
returns-in-Left-clause-within c clusters h frame value = c.operate_left.ensures.within clusters h value

pub returns-in-Store-clause-within : goal.returns-in-Store-clause-within
returns-in-Store-clause-within c clusters h frame value =
    let k = reach (length c.args.space.now.slots) clusters in
    c.store.ensures.within k h value

pub returns-in-Branch-clause-goes : goal.returns-in-Branch-clause-goes
returns-in-Branch-clause-goes c = λ _ h.
    let t = c.args.space.now in
    let p = c.args.prepared.now.program in
    let m = view_of c.args.self.now in
    ap (λ f. after_answer p m t f (Gave c.args.value) h m.left) c.in-Branch.is
    ∙ c.take_branch.ensures.goes p t h m.left
    ∙ ap (remaining_with p (view_of c.take_branch.new.self) t h) (sym c.take_branch.ensures.left)

pub returns-in-Branch-clause-within : goal.returns-in-Branch-clause-within
returns-in-Branch-clause-within c clusters h frame value =
    let k = reach (length c.args.space.now.slots) clusters in
    c.take_branch.ensures.within k h

pub returns-in-Right-clause-within : goal.returns-in-Right-clause-within
returns-in-Right-clause-within c clusters h frame value =
    let k = reach (length c.args.space.now.slots) clusters in
    c.operate_integers.ensures.within k h

pub returns-in-Back-clause-within : goal.returns-in-Back-clause-within
returns-in-Back-clause-within c clusters h frame value =
    let k = reach (length c.args.space.now.slots) clusters in
    c.end_method.ensures.within k h (subst (IsFrameReached k) c.in-Back.is frame) value

pub returns-in-Rest-clause-within : goal.returns-in-Rest-clause-within
returns-in-Rest-clause-within c clusters h frame value =
    let k = reach (length c.args.space.now.slots) clusters in
    c.begin.ensures.within k h

pub returns-in-Condition-clause-goes : goal.returns-in-Condition-clause-goes
returns-in-Condition-clause-goes c = λ _ h.
    let t = c.args.space.now in
    let p = c.args.prepared.now.program in
    let m = view_of c.args.self.now in
    ap (λ f. after_answer p m t f (Gave c.args.value) h m.left) c.in-Condition.is
    ∙ c.go_round.ensures.goes p t h m.left
    ∙ ap (remaining_with p (view_of c.go_round.new.self) t h) (sym c.go_round.ensures.left)

pub returns-in-Condition-clause-within : goal.returns-in-Condition-clause-within
returns-in-Condition-clause-within c clusters h frame value =
    let k = reach (length c.args.space.now.slots) clusters in
    c.go_round.ensures.within k h

pub returns-in-Return-clause-within : goal.returns-in-Return-clause-within
returns-in-Return-clause-within c clusters h frame value =
    let k = reach (length c.args.space.now.slots) clusters in
    c.leave_method.ensures.within k h value

pub returns-in-Past-clause-within : goal.returns-in-Past-clause-within
returns-in-Past-clause-within c clusters h frame value =
    let k = reach (length c.args.space.now.slots) clusters in
    c.end_block.ensures.within k h value

pub returns-in-And-clause-within : goal.returns-in-And-clause-within
returns-in-And-clause-within c clusters h frame value =
    let k = reach (length c.args.space.now.slots) clusters in
    c.and_then.ensures.within k h value

pub returns-in-Or-clause-within : goal.returns-in-Or-clause-within
returns-in-Or-clause-within c clusters h frame value =
    let k = reach (length c.args.space.now.slots) clusters in
    c.or_else.ensures.within k h value

pub returns-in_default-clause-rare : goal.returns-in_default-clause-rare
returns-in_default-clause-rare c = λ _.
    let is = c.in_default in
    other_rare c.args.frame (record {
      no_left = is.not-Left;
      no_store = is.not-Store;
      no_branch = is.not-Branch;
      no_and = is.not-And;
      no_or = is.not-Or;
      no_not = is.not-Not;
      no_condition = is.not-Condition;
      no_body = is.not-Body;
      no_rest = is.not-Rest;
      no_break = is.not-Break;
      no_next = is.not-Next;
      no_return = is.not-Return;
      no_back = is.not-Back;
      no_past = is.not-Past;
    })
