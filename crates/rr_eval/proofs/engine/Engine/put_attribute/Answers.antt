-- The value is assigned to the attribute of the one that stands for the frame.
use Rattle.std.proofs.Common.{◌≡◌, ◌∙◌, ◌∷◌, [], arith, subst, sym, drop}
use Rattle.rr_eval.specs.declared.call.Task.TheVariants.{SetField}
use Rattle.rr_eval.specs.Script.{Does}
use Rattle.rr_eval.specs.Views.{view_of}
use Rattle.rr_eval.specs.Within.{IsReached}
use Rattle.rr_eval.proofs.Holding.{all_cons, all_nil, given_within, held_reached}
use Rattle.rr_eval.proofs.QuickAttributes.{attribute_waits, only_one}
use Rattle.rr_eval.proofs.engine.Engine.put_attribute.Goals as goal

pub returns-clause-goes : goal.returns-clause-goes
returns-clause-goes c h =
    let p = c.args.prepared.now.program in
    let t = c.args.space.now in
    let m = view_of c.args.self.now in
    let v = c.receiver-item.result in
    let w = c.args.value in
    let field = c.in-Some.field in
    let one : drop c.args.base m.held ≡ v ∷ [] = sym c.standing.ensures.is ∙ only_one c.standing.result.now v c.in-len1.len_at_least c.in-len1.len_below c.receiver-item.is in
    c.take_waiting.ensures.asks p t (Does (SetField field) (v ∷ w ∷ []) t) (attribute_waits p m t c.args.base c.args.name field v w one c.in-Some.ensures) h

pub returns-clause-asks : goal.returns-clause-asks
returns-clause-asks c k h =
    let m = view_of c.args.self.now in
    let v = c.receiver-item.result in
    let w = c.args.value in
    let stand = c.standing.ensures.within k (held_reached k m h) in
    let some = c.in-len1.len_at_least in
    all_cons (IsReached k) v (w ∷ []) (subst (IsReached k) (sym c.receiver-item.is) (stand 0 v (omega (arith, some)))) (all_cons (IsReached k) w [] (given_within k m _ c.requires.control h) (all_nil (IsReached k)))
