-- The frame gets the value of a part that needs no frame.
use Rattle.std.proofs.Common.{◌∙◌, ◌≡◌, suc, ◌-◌, ap, sym, arith, length}
use Rattle.rr_eval.specs.Frames.{first_tree}
use Rattle.rr_tree.specs.Tree.{tree_at}
use Rattle.rr_eval.specs.Turns.{after_script, remaining_with}
use Rattle.rr_eval.specs.Views.{view_of}
use Rattle.rr_eval.specs.Within.{reach}
use Rattle.rr_eval.proofs.Entered.{stepped}
use Rattle.rr_eval.proofs.Holding.{with_left}
use Rattle.rr_eval.proofs.Quickly.{under, waits_within}
use Rattle.rr_eval.proofs.engine.Engine.first_value.Goals as goal

pub returns-in-Some-clause-goes : goal.returns-in-Some-clause-goes
returns-in-Some-clause-goes c h =
    let t = c.args.space.now in
    let p = c.args.prepared.now.program in
    let m = view_of c.args.self.now in
    let found = c.in-Some.found in
    let enough = c.in-Some.ensures.enough in
    under p m t c.args.here c.args.part found.steps found.value c.args.frame h c.requires.control c.requires.script c.requires.new c.in-Some.ensures.takes (omega (arith, enough))

pub returns-in-Some-clause-nested : goal.returns-in-Some-clause-nested
returns-in-Some-clause-nested c = (waits_within (view_of c.args.self.now) c.args.frame c.requires.new c.requires.nested).1

pub returns-in-Some-clause-base : goal.returns-in-Some-clause-base
returns-in-Some-clause-base c = (waits_within (view_of c.args.self.now) c.args.frame c.requires.new c.requires.nested).0

pub returns-in-None-clause-goes : goal.returns-in-None-clause-goes
returns-in-None-clause-goes c h =
    let t = c.args.space.now in
    let p = c.args.prepared.now.program in
    let m = view_of c.args.self.now in
    let some : m.left ≡ suc (m.left - 1) = omega arith in
    stepped p m t (m.left - 1) (tree_at p.nodes.items c.args.here) (ap (first_tree p.nodes.items) c.requires.control) some h
    ∙ ap (λ r. after_script p m t r h (m.left - 1)) (c.requires.script h.world)
    ∙ c.enter_above.ensures.goes p t h (m.left - 1)
    ∙ ap (λ n. remaining_with p (view_of c.enter_above.new.self) t h (n - 1)) (sym c.enter_above.ensures.left)

pub returns-in-Some-clause-within : goal.returns-in-Some-clause-within
returns-in-Some-clause-within c clusters h frame = with_left (reach (length c.args.space.now.slots) clusters) (view_of c.args.self.now) _ h

pub returns-in-None-clause-within : goal.returns-in-None-clause-within
returns-in-None-clause-within c clusters h frame =
    let k = reach (length c.args.space.now.slots) clusters in
    with_left k (view_of c.enter_above.new.self) _ (c.enter_above.ensures.within k h frame)
