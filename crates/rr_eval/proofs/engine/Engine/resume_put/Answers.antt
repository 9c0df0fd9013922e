-- A value is assigned.
use Rattle.std.proofs.Common.{◌∙◌, ap, length, drop}
use Rattle.rr_eval.specs.declared.frame.Frame.TheVariants.{Put}
use Rattle.rr_eval.specs.Turns.{context_of, after_values}
use Rattle.rr_eval.specs.Updating.{put}
use Rattle.rr_eval.specs.Views.{view_of}
use Rattle.rr_eval.specs.Within.{reach}
use Rattle.rr_eval.proofs.Invoking.{if_ok}
use Rattle.rr_eval.proofs.engine.Engine.resume_put.Goals as goal

pub returns-in-Variable-clause-goes : goal.returns-in-Variable-clause-goes
returns-in-Variable-clause-goes c h n =
    let p = c.args.prepared.now.program in
    let m = view_of c.args.self.now in
    let t = c.args.space.now in
    let stand = drop c.args.base m.held in
    ap (λ place. after_values p m t (Put c.args.place c.args.base) (put (context_of p) place stand c.args.value) h n) c.in-Variable.is ∙ c.put_variable.ensures.goes p t h n

pub returns-in-Variable-clause-within : goal.returns-in-Variable-clause-within
returns-in-Variable-clause-within c k h value = c.put_variable.ensures.within (reach (length c.args.space.now.slots) k) h value

pub returns-in-Field-clause-goes : goal.returns-in-Field-clause-goes
returns-in-Field-clause-goes c h n =
    let p = c.args.prepared.now.program in
    let m = view_of c.args.self.now in
    let t = c.args.space.now in
    let stand = drop c.args.base m.held in
    ap (λ place. after_values p m t (Put c.args.place c.args.base) (put (context_of p) place stand c.args.value) h n) c.in-Field.is ∙ c.put_field.ensures.goes p t h n

pub returns-in-Global-clause-goes : goal.returns-in-Global-clause-goes
returns-in-Global-clause-goes c h n =
    let p = c.args.prepared.now.program in
    let m = view_of c.args.self.now in
    let t = c.args.space.now in
    let stand = drop c.args.base m.held in
    ap (λ place. after_values p m t (Put c.args.place c.args.base) (put (context_of p) place stand c.args.value) h n) c.in-Global.is ∙ c.put_global.ensures.goes p h n

pub returns-in-Global-clause-asks : goal.returns-in-Global-clause-asks
returns-in-Global-clause-asks c k h value = c.put_global.ensures.asks k value

pub returns-in-Constant-clause-goes : goal.returns-in-Constant-clause-goes
returns-in-Constant-clause-goes c h n =
    let p = c.args.prepared.now.program in
    let m = view_of c.args.self.now in
    let t = c.args.space.now in
    let stand = drop c.args.base m.held in
    ap (λ place. after_values p m t (Put c.args.place c.args.base) (put (context_of p) place stand c.args.value) h n) c.in-Constant.is ∙ c.put_constant.ensures.goes p t h n

pub returns-in-Sent-clause-goes : goal.returns-in-Sent-clause-goes
returns-in-Sent-clause-goes c =
    let p = c.args.prepared.now.program in
    let m = view_of c.args.self.now in
    let t = c.args.space.now in
    let stand = drop c.args.base m.held in
    if_ok c.send_first.result _ _
    (λ q goes h n.
    ap (λ place. after_values p m t (Put c.args.place c.args.base) (put (context_of p) place stand c.args.value) h n) c.in-Sent.is
    ∙ goes h n)
    c.send_first.ensures.goes

pub returns-in-Constant-clause-asks : goal.returns-in-Constant-clause-asks
returns-in-Constant-clause-asks c k h value = c.put_constant.ensures.asks k value
