-- A call that joins an array asks what stands in it.
use Rattle.std.proofs.Common.{◌∙◌, ◌++◌, ◌∷◌, [], ap, sym, slice_index_or}
use Rattle.rr_space.specs.declared.refer.Ref.TheVariants.{Nil}
use Rattle.rr_eval.specs.Frames.{stand_of}
use Rattle.rr_eval.specs.Joins.{joined_by}
use Rattle.rr_eval.specs.Turns.{context_of}
use Rattle.rr_eval.specs.Views.{view_of}
use Rattle.rr_eval.proofs.Instead.{as_sent, as_joined}
use Rattle.rr_eval.proofs.Invoking.{if_ok}
use Rattle.rr_eval.proofs.engine.Engine.call_first.Goals as goal

pub returns-in-Some-clause-goes : goal.returns-in-Some-clause-goes
returns-in-Some-clause-goes c =
    let p = c.args.prepared.now.program in
    let m = view_of c.args.self.now in
    let t = c.args.space.now in
    let f = c.args.frame in
    let first = c.first_value-receiver.ensures.is ∙ ap (λ l. slice_index_or (l ++ c.args.value ∷ []) 0 Nil) c.standing.ensures.is in
    if_ok c.join_first.result _ _
    (λ q goes h n. as_joined p m t f c.args.callee c.in-Some.name (stand_of f m.held) c.args.value h n (ap (joined_by (context_of p) t c.args.callee) (sym first) ∙ sym c.joined_by.ensures ∙ c.in-Some.is) ∙ goes h n)
    c.join_first.ensures.goes

pub returns-in-None-clause-goes : goal.returns-in-None-clause-goes
returns-in-None-clause-goes c =
    let p = c.args.prepared.now.program in
    let m = view_of c.args.self.now in
    let t = c.args.space.now in
    let f = c.args.frame in
    let first = c.first_value-receiver.ensures.is ∙ ap (λ l. slice_index_or (l ++ c.args.value ∷ []) 0 Nil) c.standing.ensures.is in
    if_ok c.send_first.result _ _
    (λ q goes h n. as_sent p m t f c.args.callee (stand_of f m.held) c.args.value h n (ap (joined_by (context_of p) t c.args.callee) (sym first) ∙ sym c.joined_by.ensures ∙ c.in-None.is) ∙ goes h n)
    c.send_first.ensures.goes
