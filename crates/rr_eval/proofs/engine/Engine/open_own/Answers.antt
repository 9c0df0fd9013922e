-- The first argument is evaluated, and then the others; what stands is nested.
use Rattle.std.proofs.Common.{subst, sym, ap, reverse, arith, ◌+◌, ◌-◌, ◌∙◌, []}
use Rattle.rr_tree.specs.Tree.{tree_at}
use Rattle.rr_eval.specs.declared.frame.Frame.TheVariants.{Item}
use Rattle.rr_eval.specs.declared.call.Target.TheVariants.{Own}
use Rattle.rr_eval.specs.Script.{Go}
use Rattle.rr_eval.specs.Frames.{Nested, runs_in, resumed, unwind}
use Rattle.rr_eval.specs.Turns.{code_of, state_of, after_script}
use Rattle.rr_eval.proofs.Splatted.{items_from}
use Rattle.rr_eval.specs.Runs.{no_objects}
use Rattle.rr_eval.specs.Views.{view_of}
use Rattle.rr_eval.proofs.Invoking.{nested_still}
use Rattle.rr_eval.proofs.engine.Engine.open_own.Goals as goal

pub returns-in-0-clause-nested : goal.returns-in-0-clause-nested
returns-in-0-clause-nested c =
    let m = view_of c.args.self.now in
    nested_still c.send_itself.result _ (view_of c.send_itself.new.self) (no_objects 0) (subst (λ fs. Nested (reverse fs) m.held) (sym c.reserve.ensures.items) c.requires.nested) c.send_itself.ensures.nested c.send_itself.ensures.err

pub returns-in_default-clause-goes : goal.returns-in_default-clause-goes
returns-in_default-clause-goes c = λ h n.
    let t = c.args.space.now in
    let p = c.args.prepared.now.program in
    let m = view_of c.args.self.now in
    let script = Go (tree_at p.nodes.items c.args.first) (resumed (code_of p h.world) (Item (Own c.args.name c.args.block) (c.args.first + c.args.count) (c.args.count - 1) c.len.result) []) in
    ap (λ r. after_script p m t r h n) (sym (items_from (code_of p h.world) (Own c.args.name c.args.block) c.args.first c.args.count c.len.result (omega arith)))
    ∙ ap (λ fs. unwind (code_of p h.world) (reverse fs) m.held (runs_in (code_of p h.world) script (state_of p m t h) n)) (sym c.reserve.ensures.items)
    ∙ c.enter_above.ensures.goes p t h n
