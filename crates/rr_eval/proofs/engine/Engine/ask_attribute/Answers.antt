-- The receiver and the value are evaluated at once.
use Rattle.std.proofs.Common.{◌≡◌, ◌∙◌, ◌+◌, ◌-◌, ◌∷◌, [], ap, arith, length}
use Rattle.rr_tree.specs.Tree.{tree_at}
use Rattle.rr_eval.specs.declared.call.Callee.TheVariants.{Setter}
use Rattle.rr_eval.specs.declared.call.Target.TheVariants.{Call}
use Rattle.rr_eval.specs.declared.call.Task.TheVariants.{SetField}
use Rattle.rr_eval.specs.Rules.{rule, finish}
use Rattle.rr_eval.specs.Script.{Does}
use Rattle.rr_eval.specs.Turns.{context_of, asking_with}
use Rattle.rr_eval.specs.Views.{view_of}
use Rattle.rr_eval.specs.Within.{reach, IsReached}
use Rattle.rr_eval.proofs.Holding.{all_cons, all_nil, with_left}
use Rattle.rr_eval.proofs.QuickAttributes.{attribute_asked}
use Rattle.rr_eval.proofs.QuickRequests.{takes_values}
use Rattle.rr_eval.proofs.engine.Engine.ask_attribute.Goals as goal

pub returns-clause-goes : goal.returns-clause-goes
returns-clause-goes c h =
    let p = c.args.prepared.now.program in
    let ns = p.nodes.items in
    let own = context_of p in
    let m = view_of c.args.self.now in
    let t = c.args.space.now in
    let found = c.in-Some.found in
    let field = c.in-Some-written_by.field in
    let last = c.in-Some-quick_before.last in
    let name = c.args.name in
    let enough = c.in-Some.ensures.enough in
    let more = c.in-Some-quick_before.ensures.enough in
    let before = c.steps_together-before.ensures in
    let spent : m.left - (found.steps + last.steps + 1) ≡ m.left - found.steps - last.steps - 1 = omega arith in
    attribute_asked p m t c.args.here (found.steps + last.steps) name field found.value last.value h c.requires.control
    (takes_values p (rule own (tree_at ns c.args.here)) (tree_at ns c.args.receiver) (tree_at ns c.args.value) (finish own (Call (Setter name))) c.requires.script m t found.steps last.steps found.value last.value c.in-Some.ensures.takes c.in-Some-quick_before.ensures.takes c.in-Some-quick_before.ensures.plain)
    c.in-Some-written_by.ensures (omega (arith, enough, more, before))
    ∙ ap (asking_with p m t (Does (SetField field) (found.value ∷ last.value ∷ []) t) h) spent

pub returns-clause-asks : goal.returns-clause-asks
returns-clause-asks c clusters h =
    let k = reach (length c.args.space.now.slots) clusters in
    let v = c.in-Some.found.value in
    let w = c.in-Some-quick_before.last.value in
    all_cons (IsReached k) v (w ∷ []) (c.in-Some.ensures.within clusters h) (all_cons (IsReached k) w [] (c.in-Some-quick_before.ensures.within clusters h) (all_nil (IsReached k)))

pub returns-clause-within : goal.returns-clause-within
returns-clause-within c clusters h = with_left (reach (length c.args.space.now.slots) clusters) (view_of c.args.self.now) _ h
