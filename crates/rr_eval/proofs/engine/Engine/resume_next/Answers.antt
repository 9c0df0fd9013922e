-- What is usual is done, or the frame waits again.
use Rattle.std.proofs.Common.{◌≡◌, ◌∙◌, ◌≤◌, ◌++◌, ◌∷◌, [], length, ap, sym, subst, reverse}
use Rattle.rr_eval.specs.declared.engine.Engine.{Engine}
use Rattle.rr_eval.specs.declared.problem.Answer.TheVariants.{Gave}
use Rattle.rr_eval.specs.Frames.{Nested, outcome_of}
use Rattle.rr_eval.specs.Turns.{code_of, state_of, remaining, remaining_with}
use Rattle.rr_eval.specs.Views.{view_of}
use Rattle.rr_eval.specs.Within.{reach, AreReached, IsControlReached}
use Rattle.rr_eval.proofs.Holding.{with_frame}
use Rattle.rr_eval.proofs.Unwind.{given}
use Rattle.rr_eval.proofs.engine.Engine.resume_next.Goals as goal

pub go_next-requires-clause-base : goal.go_next-requires-clause-base
go_next-requires-clause-base c = subst (λ b. b ≤ length (view_of c.take_top.new.self).held) c.requires.base c.take_top.ensures.base

pub go_next-requires-clause-nested : goal.go_next-requires-clause-nested
go_next-requires-clause-nested c =
    let m = view_of c.take_top.new.self in
    subst (Nested (reverse m.frames)) (c.requires.below m.held) c.take_top.ensures.nested

pub returns-then-go_next-clause-goes : goal.returns-then-go_next-clause-goes
returns-then-go_next-clause-goes c = λ h.
    let p = c.args.prepared.now.program in
    let m = view_of c.take_top.new.self in
    let t = c.args.space.now in
    c.take_top.ensures.goes p t h
    ∙ c.requires.waits m h m.left
    ∙ c.go_next.ensures.goes c.if-go_next.true h m.left
    ∙ ap (λ k. remaining_with p (view_of c.go_next.new.self) t h k) (sym c.go_next.ensures.left)

pub returns-then-go_next-clause-within : goal.returns-then-go_next-clause-within
returns-then-go_next-clause-within c clusters h =
    let k = reach (length c.args.space.now.slots) clusters in
    c.go_next.ensures.within clusters (c.take_top.ensures.within k h) (c.take_top.ensures.given k h)

pub returns-clause-goes : goal.returns-clause-goes
returns-clause-goes c = λ h.
    let p = c.args.prepared.now.program in
    let m = view_of c.take_top.new.self in
    let t = c.args.space.now in
    let code = code_of p h.world in
    let f = c.args.frame in
    let s = state_of p m t h in
    let same = c.go_next.ensures.same c.if-go_next.false in
    let back : record m { frames = m.frames ++ f ∷ [] } ≡ record (view_of c.go_next.new.self) { frames = c.push_within.new.items.items } =
    ap (λ (e : Engine). record (view_of e) { frames = (view_of e).frames ++ f ∷ [] }) (sym same)
    ∙ ap (λ fs. record (view_of c.go_next.new.self) { frames = fs }) (sym c.push_within.ensures) in
    c.take_top.ensures.goes p t h
    ∙ sym (given code m.frames f m.held (Gave c.args.value) s m.left)
    ∙ ap (λ k. outcome_of code (m.frames ++ f ∷ []) m.held k s m.left) (sym (c.take_top.ensures.control ∙ c.requires.control))
    ∙ ap (λ v. remaining p v t h) back

pub returns-clause-within : goal.returns-clause-within
returns-clause-within c clusters h =
    let k = reach (length c.args.space.now.slots) clusters in
    let m = view_of c.take_top.new.self in
    let f = c.args.frame in
    let same = c.go_next.ensures.same c.if-go_next.false in
    let back : record m { frames = m.frames ++ f ∷ [] } ≡ record (view_of c.go_next.new.self) { frames = c.push_within.new.items.items } =
    ap (λ (e : Engine). record (view_of e) { frames = (view_of e).frames ++ f ∷ [] }) (sym same)
    ∙ ap (λ fs. record (view_of c.go_next.new.self) { frames = fs }) (sym c.push_within.ensures) in
    let given_still = c.take_top.ensures.control ∙ c.requires.control in
    subst (AreReached k) back (with_frame k m f m.control (c.take_top.ensures.within k h) (c.take_top.ensures.frame k h) (subst (IsControlReached k) (sym given_still) (c.take_top.ensures.given k h)))
