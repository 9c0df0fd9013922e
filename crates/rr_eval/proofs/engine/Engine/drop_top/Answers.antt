-- The topmost frame gets the value.
use Rattle.std.proofs.Common.{◌∙◌, ap, arith, reverse, subst}
use Rattle.rr_eval.specs.declared.frame.Control.TheVariants.{Give}
use Rattle.rr_eval.specs.Frames.{Nested, outcome_of}
use Rattle.rr_eval.specs.Turns.{code_of, state_of}
use Rattle.rr_eval.specs.Views.{view_of}
use Rattle.rr_eval.proofs.Topmost.{taken_off, top_reached, below_top}
use Rattle.rr_eval.proofs.Unwind.{given, nested_pop}
use Rattle.rr_eval.proofs.engine.Engine.drop_top.Goals as goal

pub returns-clause-goes : goal.returns-clause-goes
returns-clause-goes c = λ p t h n.
    let m = view_of c.args.self.now in
    let f = c.args.frame in
    let rest = c.truncate.new.self.items in
    let is = taken_off m.frames rest f c.saturating_sub-rest.result (omega arith) c.requires.top c.truncate.ensures.items in
    let code = code_of p h.world in
    let s = state_of p m t h in
    ap (λ fs. outcome_of code fs m.held (Give c.args.answer) s n) is
    ∙ given code rest f m.held c.args.answer s n

pub returns-clause-nested : goal.returns-clause-nested
returns-clause-nested c =
    let m = view_of c.args.self.now in
    let f = c.args.frame in
    let rest = c.truncate.new.self.items in
    let is = taken_off m.frames rest f c.saturating_sub-rest.result (omega arith) c.requires.top c.truncate.ensures.items in
    (nested_pop rest f m.held (subst (λ fs. Nested (reverse fs) m.held) is c.requires.nested)).1

pub returns-clause-base : goal.returns-clause-base
returns-clause-base c =
    let m = view_of c.args.self.now in
    let f = c.args.frame in
    let rest = c.truncate.new.self.items in
    let is = taken_off m.frames rest f c.saturating_sub-rest.result (omega arith) c.requires.top c.truncate.ensures.items in
    (nested_pop rest f m.held (subst (λ fs. Nested (reverse fs) m.held) is c.requires.nested)).0

pub returns-clause-within : goal.returns-clause-within
returns-clause-within c k h = below_top k (view_of c.args.self.now) c.truncate.new.self.items c.saturating_sub-rest.result c.truncate.ensures.items h

pub returns-clause-frame : goal.returns-clause-frame
returns-clause-frame c k h = top_reached k (view_of c.args.self.now) c.args.frame c.requires.top h
