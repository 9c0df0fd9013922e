-- The first argument is evaluated, and then the others.
use Rattle.std.proofs.Common.{sym, ap, subst, ◌+◌, ◌-◌, ◌∙◌, [], arith, reverse}
use Rattle.std.specs.List.{All}
use Rattle.rr_tree.specs.Tree.{tree_at}
use Rattle.rr_eval.specs.declared.frame.Frame.TheVariants.{Item}
use Rattle.rr_eval.specs.declared.call.Target.TheVariants.{Do}
use Rattle.rr_eval.specs.Script.{Go}
use Rattle.rr_eval.specs.Frames.{runs_in, resumed, unwind}
use Rattle.rr_eval.specs.Turns.{code_of, state_of, after_script}
use Rattle.rr_eval.specs.Within.{IsReached}
use Rattle.rr_eval.proofs.Splatted.{items_from}
use Rattle.rr_eval.specs.Views.{view_of}
use Rattle.rr_eval.proofs.Answered.{with_all}
use Rattle.rr_eval.proofs.Holding.{held_reached, with_frames}
use Rattle.rr_eval.proofs.engine.Engine.open_values.Goals as goal

pub returns-in_ok-reserve-in_default-2-clause-goes : goal.returns-in_ok-reserve-in_default-2-clause-goes
returns-in_ok-reserve-in_default-2-clause-goes c p t h n =
    let m = view_of c.args.self.now in
    let ns = p.nodes.items in
    let code = code_of p h.world in
    let script = Go (tree_at ns c.args.first) (resumed code (Item (Do c.args.task) (c.args.first + c.args.count) (c.args.count - 1) c.len.result) []) in
    let goes = runs_in code script (state_of p m t h) n in
    ap (λ r. after_script p m t r h n) (sym (items_from code (Do c.args.task) c.args.first c.args.count c.len.result (omega arith)))
    ∙ ap (λ fs. unwind code (reverse fs) m.held goes) (sym c.reserve.ensures.items)
    ∙ ap (λ l. unwind code (reverse c.reserve.new.self.items) l goes) (sym c.reserve-in_default.ensures.items)
    ∙ c.enter_above.ensures.goes p t h n

pub returns-in_ok-reserve-in_default-2-clause-within : goal.returns-in_ok-reserve-in_default-2-clause-within
returns-in_ok-reserve-in_default-2-clause-within c k h =
    let m = view_of c.args.self.now in
    let room = with_frames k m _ c.reserve.ensures.items h in
    c.enter_above.ensures.within k (with_all k (record m { frames = c.reserve.new.self.items }) c.reserve-in_default.new.self.items room (subst (All (IsReached k)) (sym c.reserve-in_default.ensures.items) (held_reached k m h))) tt
