-- The next turn begins, or the iteration waits behind the last one.
use Rattle.std.proofs.Common.{◌≡◌, ◌∙◌, ◌++◌, ◌∷◌, [], length, ap, sym, subst}
use Rattle.rr_eval.specs.declared.engine.Engine.{Engine}
use Rattle.rr_eval.specs.declared.frame.Control.TheVariants.{Give}
use Rattle.rr_eval.specs.declared.frame.Frame.TheVariants.{Turned as TurnedFrame}
use Rattle.rr_eval.specs.declared.problem.Answer.TheVariants.{Gave}
use Rattle.rr_eval.specs.Turns.{code_of, state_of, remaining, remaining_with}
use Rattle.rr_eval.specs.Views.{view_of}
use Rattle.rr_eval.specs.Within.{reach, AreReached}
use Rattle.rr_eval.proofs.Holding.{with_frame}
use Rattle.rr_eval.proofs.Unwind.{given}
use Rattle.rr_eval.proofs.engine.Engine.begin_or_wait.Goals as goal

pub returns-then-begin_next-clause-goes : goal.returns-then-begin_next-clause-goes
returns-then-begin_next-clause-goes c = λ h.
    let p = c.args.prepared.now.program in
    let t = c.args.space.now in
    c.begin_next.ensures.goes c.if-begin_next.true h c.args.self.now.left
    ∙ ap (λ k. remaining_with p (view_of c.begin_next.new.self) t h k) (sym c.begin_next.ensures.left)
    ∙ c.enter_body.ensures.goes t h

pub returns-then-begin_next-clause-within : goal.returns-then-begin_next-clause-within
returns-then-begin_next-clause-within c clusters h value =
    let k = reach (length c.args.space.now.slots) clusters in
    c.enter_body.ensures.within k (c.begin_next.ensures.within clusters h)

pub returns-clause-goes : goal.returns-clause-goes
returns-clause-goes c = λ h.
    let p = c.args.prepared.now.program in
    let m = view_of c.args.self.now in
    let t = c.args.space.now in
    let code = code_of p h.world in
    let i = c.args.iteration in
    let v = c.args.value in
    let same = c.begin_next.ensures.same c.if-begin_next.false in
    let back : record m { control = Give (Gave v); frames = m.frames ++ TurnedFrame i ∷ [] } ≡ record (view_of c.begin_next.new.self) { control = Give (Gave v); frames = c.push_within.new.items.items } =
    ap (λ (e : Engine). record (view_of e) { control = Give (Gave v); frames = (view_of e).frames ++ TurnedFrame i ∷ [] }) (sym same)
    ∙ ap (λ fs. record (view_of c.begin_next.new.self) { control = Give (Gave v); frames = fs }) (sym c.push_within.ensures) in
    sym (given code m.frames (TurnedFrame i) m.held (Gave v) (state_of p m t h) m.left)
    ∙ ap (λ x. remaining p x t h) back

pub returns-clause-within : goal.returns-clause-within
returns-clause-within c clusters h value =
    let k = reach (length c.args.space.now.slots) clusters in
    let m = view_of c.args.self.now in
    let i = c.args.iteration in
    let v = c.args.value in
    let same = c.begin_next.ensures.same c.if-begin_next.false in
    let back : record m { control = Give (Gave v); frames = m.frames ++ TurnedFrame i ∷ [] } ≡ record (view_of c.begin_next.new.self) { control = Give (Gave v); frames = c.push_within.new.items.items } =
    ap (λ (e : Engine). record (view_of e) { control = Give (Gave v); frames = (view_of e).frames ++ TurnedFrame i ∷ [] }) (sym same)
    ∙ ap (λ fs. record (view_of c.begin_next.new.self) { control = Give (Gave v); frames = fs }) (sym c.push_within.ensures) in
    subst (AreReached k) back (with_frame k m (TurnedFrame i) (Give (Gave v)) h tt value)
