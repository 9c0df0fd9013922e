-- The topmost frame goes, and its values with it.
use Rattle.std.proofs.Common.{◌∙◌, ◌∷◌, [], ap, arith, length, length-append, reverse, subst, sym}
use Rattle.rr_eval.specs.Frames.{Nested}
use Rattle.rr_eval.specs.Turns.{waits}
use Rattle.rr_eval.specs.Views.{view_of}
use Rattle.rr_eval.specs.Within.{AreReached}
use Rattle.rr_eval.proofs.Holding.{with_left}
use Rattle.rr_eval.proofs.QuickRequests.{asked_standing}
use Rattle.rr_eval.proofs.QuickSends.{below_reached}
use Rattle.rr_eval.proofs.QuickTasks.{standing_asked}
use Rattle.rr_eval.proofs.Topmost.{taken_off, below_top}
use Rattle.rr_eval.proofs.Unwind.{nested_pop}
use Rattle.rr_eval.proofs.engine.Engine.take_waiting.Goals as goal

pub returns-clause-goes : goal.returns-clause-goes
returns-clause-goes c p t callee v vs call asked h =
    let m = view_of c.args.self.now in
    let f = c.args.frame in
    let rest = c.truncate.new.self.items in
    let is = taken_off m.frames rest f c.saturating_sub-rest.result (omega arith) c.requires.top c.truncate.ensures.items in
    let below = c.truncate-2.ensures.items ∙ sym (c.requires.below m.held) in
    asked_standing p m t rest c.truncate-2.new.self.items f c.args.steps v c.args.value vs callee h c.requires.control is below c.requires.enough call asked

pub returns-clause-asks : goal.returns-clause-asks
returns-clause-asks c p t q goes h =
    let m = view_of c.args.self.now in
    let f = c.args.frame in
    let rest = c.truncate.new.self.items in
    let is = taken_off m.frames rest f c.saturating_sub-rest.result (omega arith) c.requires.top c.truncate.ensures.items in
    let below = c.truncate-2.ensures.items ∙ sym (c.requires.below m.held) in
    standing_asked p m t rest c.truncate-2.new.self.items f c.args.steps c.args.value q h c.requires.control is below c.requires.enough goes

pub returns-clause-nested : goal.returns-clause-nested
returns-clause-nested c =
    let m = view_of c.args.self.now in
    let f = c.args.frame in
    let rest = c.truncate.new.self.items in
    let is = taken_off m.frames rest f c.saturating_sub-rest.result (omega arith) c.requires.top c.truncate.ensures.items in
    let popped = (nested_pop rest f m.held (subst (λ fs. Nested (reverse fs) m.held) is c.requires.nested)).1 in
    subst (Nested (reverse rest)) (c.requires.below m.held ∙ sym c.truncate-2.ensures.items) popped

pub returns-clause-within : goal.returns-clause-within
returns-clause-within c k h =
    let m = view_of c.args.self.now in
    let rest = c.truncate.new.self.items in
    let low = below_top k m rest c.saturating_sub-rest.result c.truncate.ensures.items h in
    let cut = subst (λ l. AreReached k (record m { frames = rest; held = l })) (sym c.truncate-2.ensures.items) (below_reached k (record m { frames = rest }) c.args.base low) in
    with_left k (record m { frames = rest; held = c.truncate-2.new.self.items }) _ cut

pub returns-clause-size : goal.returns-clause-size
returns-clause-size c =
    let m = view_of c.args.self.now in
    let f = c.args.frame in
    let rest = c.truncate.new.self.items in
    let is = taken_off m.frames rest f c.saturating_sub-rest.result (omega arith) c.requires.top c.truncate.ensures.items in
    let size = ap length is ∙ length-append rest (f ∷ []) in
    let waiting = ap waits c.requires.control in
    omega (arith, size, waiting)
