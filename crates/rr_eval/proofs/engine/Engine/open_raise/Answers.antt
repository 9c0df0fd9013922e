-- The first argument is evaluated, and then the others.
use Rattle.std.proofs.Common.{sym, ap, reverse, arith, ◌+◌, ◌-◌, ◌∙◌, []}
use Rattle.rr_tree.specs.Tree.{tree_at}
use Rattle.rr_eval.specs.declared.frame.Frame.TheVariants.{Item}
use Rattle.rr_eval.specs.declared.call.Target.TheVariants.{Raise}
use Rattle.rr_eval.specs.Script.{Go}
use Rattle.rr_eval.specs.Frames.{runs_in, resumed, unwind}
use Rattle.rr_eval.specs.Turns.{code_of, state_of, after_script}
use Rattle.rr_eval.specs.Views.{view_of}
use Rattle.rr_eval.proofs.Splatted.{items_from}
use Rattle.rr_eval.proofs.engine.Engine.open_raise.Goals as goal

pub returns-in_ok-reserve-in_default-clause-goes : goal.returns-in_ok-reserve-in_default-clause-goes
returns-in_ok-reserve-in_default-clause-goes c = λ p t h n.
    let m = view_of c.args.self.now in
    let script = Go (tree_at p.nodes.items c.args.first) (resumed (code_of p h.world) (Item Raise (c.args.first + c.args.count) (c.args.count - 1) c.len.result) []) in
    ap (λ r. after_script p m t r h n) (sym (items_from (code_of p h.world) Raise c.args.first c.args.count c.len.result (omega arith)))
    ∙ ap (λ fs. unwind (code_of p h.world) (reverse fs) m.held (runs_in (code_of p h.world) script (state_of p m t h) n)) (sym c.reserve.ensures.items)
    ∙ c.enter_above.ensures.goes p t h n
