-- The frame gets the value of a part that needs no frame.
use Rattle.std.proofs.Common.{◌∙◌, ◌≡◌, suc, ◌+◌, ◌-◌, ap, sym, refl, arith, length}
use Rattle.rr_eval.specs.Frames.{first_tree}
use Rattle.rr_tree.specs.Tree.{tree_at}
use Rattle.rr_eval.specs.declared.engine.Engine.{Engine}
use Rattle.rr_eval.specs.declared.problem.Answer.TheVariants.{Gave}
use Rattle.rr_eval.specs.Turns.{after_script, after_answer, remaining_with}
use Rattle.rr_eval.specs.Views.{view_of}
use Rattle.rr_eval.specs.Within.{reach}
use Rattle.rr_eval.proofs.Entered.{stepped}
use Rattle.rr_eval.proofs.Holding.{with_left}
use Rattle.rr_eval.proofs.Quickly.{under}
use Rattle.rr_eval.proofs.engine.Engine.visit_under.Goals as goal

pub returns-then-not-resume-clause-goes : goal.returns-then-not-resume-clause-goes
returns-then-not-resume-clause-goes c h =
    let t = c.args.space.now in
    let p = c.args.prepared.now.program in
    let m = view_of c.args.self.now in
    let found = c.in-Some.found in
    let spent = found.steps + 1 in
    let enough = c.in-Some.ensures.enough in
    under p m t c.args.here c.args.part found.steps found.value c.args.frame h c.requires.control c.requires.script c.requires.new c.in-Some.ensures.takes (omega (arith, enough))
    ∙ ap (λ (e : Engine). after_answer p (view_of e) t c.args.frame (Gave found.value) h (m.left - spent)) (sym (c.if-not-resume.ensures.same refl))
    ∙ c.give_above.ensures.goes p t h (m.left - spent)
    ∙ ap (λ n. remaining_with p (view_of c.give_above.new.self) t h n) (sym (c.give_above.ensures.left ∙ ap (λ (e : Engine). e.left) (c.if-not-resume.ensures.same refl)))

pub returns-else-not-resume-clause-goes : goal.returns-else-not-resume-clause-goes
returns-else-not-resume-clause-goes c h =
    let t = c.args.space.now in
    let p = c.args.prepared.now.program in
    let m = view_of c.args.self.now in
    let found = c.in-Some.found in
    let enough = c.in-Some.ensures.enough in
    under p m t c.args.here c.args.part found.steps found.value c.args.frame h c.requires.control c.requires.script c.requires.new c.in-Some.ensures.takes (omega (arith, enough))
    ∙ c.if-not-resume.ensures.goes refl h

pub returns-in-None-clause-goes : goal.returns-in-None-clause-goes
returns-in-None-clause-goes c h =
    let t = c.args.space.now in
    let p = c.args.prepared.now.program in
    let m = view_of c.args.self.now in
    let some : m.left ≡ suc (m.left - 1) = omega arith in
    stepped p m t (m.left - 1) (tree_at p.nodes.items c.args.here) (ap (first_tree p.nodes.items) c.requires.control) some h
    ∙ ap (λ r. after_script p m t r h (m.left - 1)) (c.requires.script h.world)
    ∙ c.enter_above.ensures.goes p t h (m.left - 1)
    ∙ ap (λ n. remaining_with p (view_of c.enter_above.new.self) t h (n - 1)) (sym c.enter_above.ensures.left)

pub returns-then-not-resume-clause-within : goal.returns-then-not-resume-clause-within
returns-then-not-resume-clause-within c clusters h frame =
    let k = reach (length c.args.space.now.slots) clusters in
    let value = c.in-Some.ensures.within clusters h in
    c.give_above.ensures.within k (c.resume.ensures.within clusters (with_left k (view_of c.args.self.now) _ h) frame value) frame value

pub returns-else-not-resume-clause-within : goal.returns-else-not-resume-clause-within
returns-else-not-resume-clause-within c clusters h frame =
    let k = reach (length c.args.space.now.slots) clusters in
    c.resume.ensures.within clusters (with_left k (view_of c.args.self.now) _ h) frame (c.in-Some.ensures.within clusters h)

pub returns-in-None-clause-within : goal.returns-in-None-clause-within
returns-in-None-clause-within c clusters h frame =
    let k = reach (length c.args.space.now.slots) clusters in
    with_left k (view_of c.enter_above.new.self) _ (c.enter_above.ensures.within k h frame)
