-- The parts are evaluated, and then the next one, or what is done with their values.
use Rattle.std.proofs.Common.{◌≡◌, ◌∙◌, ◌+◌, ◌-◌, ◌≤◌, ◌++◌, ◌∷◌, [], ap, subst, arith, length, length-append, reverse, take}
use Rattle.std.proofs.lemmas.List.{take-append-le}
use Rattle.rr_tree.specs.Nodes.{trees_before}
use Rattle.rr_eval.specs.declared.call.Target.TheVariants.{Do}
use Rattle.rr_eval.specs.declared.frame.Control.TheVariants.{Give}
use Rattle.rr_eval.specs.declared.frame.Frame.TheVariants.{Argument}
use Rattle.rr_eval.specs.declared.problem.Answer.TheVariants.{Gave}
use Rattle.rr_eval.specs.Frames.{Nested}
use Rattle.rr_eval.specs.Turns.{remaining}
use Rattle.rr_eval.specs.Views.{view_of}
use Rattle.rr_eval.specs.Within.{reach}
use Rattle.rr_eval.proofs.Holding.{with_left}
use Rattle.rr_eval.proofs.MadeTexts.{list_makes, last_given}
use Rattle.rr_eval.proofs.QuickParts.{held_nested}
use Rattle.rr_eval.proofs.Splatted.{back_nested, back_reached, last_reached}
use Rattle.rr_eval.proofs.engine.Engine.visit_list.Goals as goal

pub returns-then-parts-gt0-clause-goes : goal.returns-then-parts-gt0-clause-goes
returns-then-parts-gt0-clause-goes c = λ h.
    let p = c.args.prepared.now.program in
    let m = view_of c.args.self.now in
    let n = view_of c.hold_made-parts.new.self in
    let parts = c.hold_made-parts.result in
    let end = c.args.first + c.args.count in
    let enough = c.hold_made-parts.ensures.enough in
    list_makes p m n c.args.space.now c.hold_made-parts.new.space c.args.here c.len-base.result parts.steps end parts.rest (Do c.args.task) (trees_before p.nodes.items end c.args.count) h c.requires.control c.requires.script (omega arith) c.hold_made-parts.ensures.holds c.hold_made-parts.ensures.makes (omega (arith, enough))
    ∙ c.enter_part.ensures.goes p c.hold_made-parts.new.space h

pub enter_part-requires-clause-nested : goal.enter_part-requires-clause-nested
enter_part-requires-clause-nested c = held_nested (view_of c.args.self.now) (view_of c.hold_made-parts.new.self) c.len-base.result (omega arith) c.hold_made-parts.ensures.holds c.requires.nested

pub returns-clause-goes : goal.returns-clause-goes
returns-clause-goes c = λ h.
    let p = c.args.prepared.now.program in
    let m = view_of c.args.self.now in
    let n = view_of c.hold_made-parts.new.self in
    let u = c.hold_made-parts.new.space in
    let parts = c.hold_made-parts.result in
    let base = c.len-base.result in
    let end = c.args.first + c.args.count in
    let held = c.pop.new.self.items in
    let last = c.in-Some.last in
    let enough = c.hold_made-parts.ensures.enough in
    let rest = c.hold_made-parts.ensures.rest in
    let none : parts.rest ≡ 0 = omega (arith, c.if-parts-gt0.false) in
    let all : n.held ≡ held ++ last ∷ [] = c.in-Some.ensures.items in
    let size = ap length all ∙ length-append held (last ∷ []) in
    let le : base ≤ length held = omega (arith, rest, size) in
    let spent : n.left - (parts.steps + 1) ≡ n.left - parts.steps - 1 = omega arith in
    list_makes p m n c.args.space.now u c.args.here base parts.steps end parts.rest (Do c.args.task) (trees_before p.nodes.items end c.args.count) h c.requires.control c.requires.script (omega arith) c.hold_made-parts.ensures.holds c.hold_made-parts.ensures.makes (omega (arith, enough))
    ∙ last_given p n u base end parts.rest (n.left - (parts.steps + 1)) held last c.push_within.new.items.items (Do c.args.task) h none all le c.push_within.ensures
    ∙ ap (λ i. remaining p (record n { control = Give (Gave last); frames = c.push_within.new.items.items; held = held; left = i }) u h) spent

pub returns-clause-nested : goal.returns-clause-nested
returns-clause-nested c =
    let n = view_of c.hold_made-parts.new.self in
    let base = c.len-base.result in
    let held = c.pop.new.self.items in
    let last = c.in-Some.last in
    let rest = c.hold_made-parts.ensures.rest in
    let all : n.held ≡ held ++ last ∷ [] = c.in-Some.ensures.items in
    let size = ap length all ∙ length-append held (last ∷ []) in
    let le : base ≤ length held = omega (arith, rest, size) in
    let below = held_nested (view_of c.args.self.now) n base (omega arith) c.hold_made-parts.ensures.holds c.requires.nested in
    let kept : take base n.held ≡ take base held = ap (take base) all ∙ take-append-le base held (last ∷ []) le in
    back_nested (record n { held = held }) (Argument (Do c.args.task) (c.args.first + c.args.count) 0 base) c.push_within.new.items.items c.push_within.ensures le (subst (Nested (reverse n.frames)) kept below)

pub returns-clause-within : goal.returns-clause-within
returns-clause-within c clusters h =
    let n = view_of c.hold_made-parts.new.self in
    let k = reach (length c.hold_made-parts.new.space.slots) clusters in
    let last = c.in-Some.last in
    let given = last_reached k n c.pop.new.self.items last c.in-Some.ensures.items (c.hold_made-parts.ensures.within clusters h) in
    with_left k _ _ (back_reached k (record n { control = Give (Gave last); held = c.pop.new.self.items }) (Argument (Do c.args.task) (c.args.first + c.args.count) 0 c.len-base.result) c.push_within.new.items.items c.push_within.ensures given.0 tt)

pub returns-then-parts-gt0-clause-read : goal.returns-then-parts-gt0-clause-read
returns-then-parts-gt0-clause-read c below read reached = c.hold_made-parts.ensures.read below read

pub returns-clause-read : goal.returns-clause-read
returns-clause-read c below read reached = c.hold_made-parts.ensures.read below read
