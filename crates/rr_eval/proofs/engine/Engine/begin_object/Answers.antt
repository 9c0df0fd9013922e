-- The frame waits for the object.
use Rattle.std.proofs.Common.{◌≡◌, ℕ, OnOk, [], length, sym, subst}
use Rattle.rr_eval.specs.declared.problem.Answer.TheVariants.{Gave}
use Rattle.rr_eval.specs.Requests.{Course}
use Rattle.rr_eval.specs.Turns.{after_answer, remaining_with}
use Rattle.rr_eval.specs.Views.{view_of}
use Rattle.rr_eval.specs.Within.{reach, IsReached}
use Rattle.rr_eval.proofs.Holding.{all_cons, all_nil}
use Rattle.rr_eval.proofs.Invoking.{on_ok}
use Rattle.rr_eval.proofs.engine.Engine.begin_object.Goals as goal

pub returns-in-Initialize-clause-goes : goal.returns-in-Initialize-clause-goes
returns-in-Initialize-clause-goes c =
    let p = c.args.prepared.now.program in
    let t = c.args.space.now in
    subst (λ f. OnOk c.initialize.result ((h : Course) (n : ℕ) → after_answer p (view_of c.args.self.now) t f (Gave c.args.object) h n ≡ remaining_with p (view_of c.initialize.new.self) t h n)) (sym c.in-Initialize.is) (on_ok c.initialize.result _ _ (λ goes. goes t) c.initialize.ensures.goes)

pub returns-in-Initialize-clause-within : goal.returns-in-Initialize-clause-within
returns-in-Initialize-clause-within c clusters h object = c.initialize.ensures.within (reach (length c.args.space.now.slots) clusters) h object

pub returns-in-Paired-clause-goes : goal.returns-in-Paired-clause-goes
returns-in-Paired-clause-goes c =
    let p = c.args.prepared.now.program in
    let t = c.args.space.now in
    subst (λ f. OnOk c.call_turn.result ((h : Course) (n : ℕ) → after_answer p (view_of c.args.self.now) t f (Gave c.args.object) h n ≡ remaining_with p (view_of c.call_turn.new.self) t h n)) (sym c.in-Paired.is) c.call_turn.ensures.goes

pub returns-in-Paired-clause-within : goal.returns-in-Paired-clause-within
returns-in-Paired-clause-within c clusters h object = c.call_turn.ensures.within clusters h (all_cons (IsReached (reach (length c.args.space.now.slots) clusters)) c.args.object [] object (all_nil (IsReached (reach (length c.args.space.now.slots) clusters))))
