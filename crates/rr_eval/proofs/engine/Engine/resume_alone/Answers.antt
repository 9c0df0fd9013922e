-- A frame that takes no memory is left.
use Rattle.std.proofs.Common.{◌≡◌, ℕ, [], OnOk, length, subst, sym}
use Rattle.rr_eval.specs.declared.problem.Answer.TheVariants.{Gave}
use Rattle.rr_eval.specs.Requests.{Course}
use Rattle.rr_eval.specs.Turns.{after_answer, remaining_with}
use Rattle.rr_eval.specs.Views.{view_of}
use Rattle.rr_eval.specs.Within.{reach, IsReached}
use Rattle.rr_eval.proofs.Holding.{all_cons, all_nil}
use Rattle.rr_eval.proofs.Invoking.{on_ok}
use Rattle.rr_eval.proofs.Rare.{alone_quiet}
use Rattle.rr_eval.proofs.engine.Engine.resume_alone.Goals as goal

pub resume_quietly-requires-clause-quiet : goal.resume_quietly-requires-clause-quiet
resume_quietly-requires-clause-quiet c =
    let is = c.in_default in
    alone_quiet c.args.frame c.requires.alone (record {
      no_aim = is.not-Aim;
      no_several = is.not-Several;
      no_paired = is.not-Paired;
      no_initialize = is.not-Initialize;
    })

pub returns-in-Initialize-clause-goes : goal.returns-in-Initialize-clause-goes
returns-in-Initialize-clause-goes c =
    let p = c.args.prepared.now.program in
    let t = c.args.space.now in
    subst (λ f. OnOk c.initialize.result ((h : Course) (n : ℕ) → after_answer p (view_of c.args.self.now) t f (Gave c.args.value) h n ≡ remaining_with p (view_of c.initialize.new.self) t h n)) (sym c.in-Initialize.is) (on_ok c.initialize.result _ _ (λ goes. goes t) c.initialize.ensures.goes)

pub returns-in-Initialize-clause-within : goal.returns-in-Initialize-clause-within
returns-in-Initialize-clause-within c clusters h frame value = c.initialize.ensures.within (reach (length c.args.space.now.slots) clusters) h value

pub returns-in-Paired-clause-goes : goal.returns-in-Paired-clause-goes
returns-in-Paired-clause-goes c =
    let p = c.args.prepared.now.program in
    let t = c.args.space.now in
    subst (λ f. OnOk c.call_turn.result ((h : Course) (n : ℕ) → after_answer p (view_of c.args.self.now) t f (Gave c.args.value) h n ≡ remaining_with p (view_of c.call_turn.new.self) t h n)) (sym c.in-Paired.is) c.call_turn.ensures.goes

pub returns-in-Paired-clause-within : goal.returns-in-Paired-clause-within
returns-in-Paired-clause-within c clusters h frame value = c.call_turn.ensures.within clusters h (all_cons (IsReached (reach (length c.args.space.now.slots) clusters)) c.args.value [] value (all_nil (IsReached (reach (length c.args.space.now.slots) clusters))))

pub returns-in-Aim-clause-goes : goal.returns-in-Aim-clause-goes
returns-in-Aim-clause-goes c =
    let p = c.args.prepared.now.program in
    let t = c.args.space.now in
    subst (λ f. OnOk c.resume_aim.result ((h : Course) (n : ℕ) → after_answer p (view_of c.args.self.now) t f (Gave c.args.value) h n ≡ remaining_with p (view_of c.resume_aim.new.self) t h n)) (sym c.in-Aim.is) (on_ok c.resume_aim.result _ _ (λ goes. goes t) c.resume_aim.ensures.goes)

pub returns-in-Aim-clause-within : goal.returns-in-Aim-clause-within
returns-in-Aim-clause-within c clusters h frame value = c.resume_aim.ensures.within (reach (length c.args.space.now.slots) clusters) h value
