-- The first argument is evaluated, and then the others.
use Rattle.std.proofs.Common.{sym, ap, subst, ◌+◌, ◌-◌, ◌∙◌, [], arith, reverse}
use Rattle.rr_tree.specs.Tree.{tree_at}
use Rattle.rr_eval.specs.declared.frame.Frame.TheVariants.{Item}
use Rattle.rr_eval.specs.declared.call.Target.TheVariants.{Super}
use Rattle.rr_eval.specs.Script.{Go}
use Rattle.rr_eval.specs.Frames.{Nested, runs_in, resumed, unwind}
use Rattle.rr_eval.specs.Turns.{code_of, state_of, after_script}
use Rattle.rr_eval.specs.Views.{view_of}
use Rattle.rr_eval.proofs.Invoking.{nested_still}
use Rattle.rr_eval.proofs.Splatted.{items_from}
use Rattle.rr_eval.proofs.engine.Engine.open_super.Goals as goal

pub returns-in-0-clause-nested : goal.returns-in-0-clause-nested
returns-in-0-clause-nested c =
    let m = view_of c.args.self.now in
    let nested = subst (λ fs. Nested (reverse fs) m.held) (sym c.reserve.ensures.items) c.requires.nested in
    nested_still c.send_super.result (record m { frames = c.reserve.new.self.items }) (view_of c.send_super.new.self) c.args.space.now nested c.send_super.ensures.nested c.send_super.ensures.err

pub returns-in_default-clause-goes : goal.returns-in_default-clause-goes
returns-in_default-clause-goes c = λ h n.
    let p = c.args.prepared.now.program in
    let m = view_of c.args.self.now in
    let t = c.args.space.now in
    let code = code_of p h.world in
    let script = Go (tree_at p.nodes.items c.args.first) (resumed code (Item Super (c.args.first + c.args.count) (c.args.count - 1) c.len.result) []) in
    ap (λ r. after_script p m t r h n) (sym (items_from code Super c.args.first c.args.count c.len.result (omega arith)))
    ∙ ap (λ fs. unwind code (reverse fs) m.held (runs_in code script (state_of p m t h) n)) (sym c.reserve.ensures.items)
    ∙ c.enter_above.ensures.goes p t h n
