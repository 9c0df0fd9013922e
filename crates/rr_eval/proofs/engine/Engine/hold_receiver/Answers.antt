-- The receiver is held before the arguments.
use Rattle.std.proofs.Common.{◌≡◌, ◌∙◌, ◌++◌, ◌∷◌, [], ap, length}
use Rattle.rr_tree.specs.Nodes.{trees_before}
use Rattle.rr_eval.specs.Frames.{runs_in}
use Rattle.rr_eval.specs.Rules.{arguments}
use Rattle.rr_eval.specs.Turns.{context_of, code_of, state_of}
use Rattle.rr_eval.specs.Views.{view_of}
use Rattle.rr_eval.specs.Within.{reach, IsReached}
use Rattle.rr_eval.proofs.Holding.{all_cons, all_nil}
use Rattle.rr_eval.proofs.QuickSends.{dropped_behind, first_held, holds_behind}
use Rattle.rr_eval.proofs.Splatted.{items_reached}
use Rattle.rr_eval.proofs.engine.Engine.hold_receiver.Goals as goal

pub returns-clause-comes : goal.returns-clause-comes
returns-clause-comes c = λ next h n.
    let t = c.args.space.now in
    let p = c.args.prepared.now.program in
    let m = view_of c.args.self.now in
    let ones = c.push_reserved.new.self.items in
    let all = c.hold_parts.new.self.held.items in
    let parts = c.hold_parts.result in
    let pushed : ones ≡ m.held ++ c.args.receiver ∷ [] = c.push_reserved.ensures.items in
    c.hold_parts.ensures.takes (c.args.receiver ∷ []) next h n
    ∙ ap (λ l. runs_in (code_of p h.world) (arguments (context_of p) (trees_before p.nodes.items c.args.end parts.rest) l next) (state_of p m t h) n) (dropped_behind m.held ones all c.args.receiver pushed c.hold_parts.ensures.holds.held)

pub returns-clause-holds : goal.returns-clause-holds
returns-clause-holds c =
    let m = view_of c.args.self.now in
    let pushed = c.push_reserved.ensures.items in
    holds_behind m (view_of c.hold_parts.new.self) c.push_reserved.new.self.items c.args.receiver pushed c.hold_parts.ensures.holds

pub returns-clause-within : goal.returns-clause-within
returns-clause-within c clusters h receiver =
    let k = reach (length c.args.space.now.slots) clusters in
    let m = view_of c.args.self.now in
    let pushed = c.push_reserved.ensures.items in
    c.hold_parts.ensures.within clusters (items_reached k m c.push_reserved.new.self.items (c.args.receiver ∷ []) pushed h (all_cons (IsReached k) c.args.receiver [] receiver (all_nil (IsReached k))))

pub returns-clause-first : goal.returns-clause-first
returns-clause-first c = first_held c.args.self.now.held.items c.push_reserved.new.self.items c.hold_parts.new.self.held.items c.args.receiver c.push_reserved.ensures.items c.hold_parts.ensures.holds.held
