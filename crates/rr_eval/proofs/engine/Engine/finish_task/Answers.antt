-- Values are asked where the task makes texts of them, and the program may have the method.
use Rattle.std.proofs.Common.{◌∙◌, ◌++◌, ◌∷◌, [], ap, sym}
use Rattle.rr_eval.specs.Frames.{stand_of}
use Rattle.rr_eval.specs.Turns.{context_of, after_values}
use Rattle.rr_eval.specs.Views.{view_of}
use Rattle.rr_eval.proofs.Answered.{as_request, as_unnamed, as_asked}
use Rattle.rr_eval.proofs.Invoking.{if_ok}
use Rattle.rr_eval.proofs.engine.Engine.finish_task.Goals as goal

pub returns-in-None-clause-goes : goal.returns-in-None-clause-goes
returns-in-None-clause-goes c =
    let p = c.args.prepared.now.program in
    let m = view_of c.args.self.now in
    let t = c.args.space.now in
    let f = c.args.frame in
    let vs = stand_of f m.held ++ c.args.value ∷ [] in
    if_ok c.ask.result _ _
    (λ q goes h n. ap (λ script. after_values p m t f script h n) (as_request (context_of p) c.args.task vs (sym c.saying_of.ensures ∙ c.in-None.is)) ∙ goes p t h n)
    c.ask.ensures.goes

pub returns-in-None-symbol_asked-clause-goes : goal.returns-in-None-symbol_asked-clause-goes
returns-in-None-symbol_asked-clause-goes c =
    let p = c.args.prepared.now.program in
    let m = view_of c.args.self.now in
    let t = c.args.space.now in
    let f = c.args.frame in
    let vs = stand_of f m.held ++ c.args.value ∷ [] in
    if_ok c.ask-in-None-symbol_asked.result _ _
    (λ q goes h n. ap (λ script. after_values p m t f script h n) (as_unnamed (context_of p) c.args.task c.in-Some.saying vs (sym c.saying_of.ensures ∙ c.in-Some.is) (sym c.symbol_asked.ensures ∙ c.in-None-symbol_asked.is)) ∙ goes p t h n)
    c.ask-in-None-symbol_asked.ensures.goes

pub returns-in-Some-symbol_asked-clause-goes : goal.returns-in-Some-symbol_asked-clause-goes
returns-in-Some-symbol_asked-clause-goes c =
    let p = c.args.prepared.now.program in
    let m = view_of c.args.self.now in
    let t = c.args.space.now in
    let f = c.args.frame in
    if_ok c.ask_for.result _ _
    (λ q goes h n.
    ap (λ script. after_values p m t f script h n) (as_asked (context_of p) c.args.task c.in-Some.saying c.in-Some-symbol_asked.name (stand_of f m.held) c.args.value (sym c.saying_of.ensures ∙ c.in-Some.is) (sym c.symbol_asked.ensures ∙ c.in-Some-symbol_asked.is))
    ∙ goes h n)
    c.ask_for.ensures.goes
