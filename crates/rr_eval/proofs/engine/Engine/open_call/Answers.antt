-- A method of the program comes first, and then what prints.
use Rattle.std.proofs.Common.{◌∙◌, ◌+◌, ap, sym, length, None}
use Rattle.std.specs.Option.{option_map}
use Rattle.rr_tree.specs.Nodes.{trees_before}
use Rattle.rr_eval.specs.Prepared.{callable_of}
use Rattle.rr_eval.specs.Rules.{call_rule, printing, raises, awaited}
use Rattle.rr_eval.specs.Turns.{context_of, after_script}
use Rattle.rr_eval.specs.Views.{view_of}
use Rattle.rr_eval.specs.Within.{reach}
use Rattle.rr_eval.proofs.Invoking.{if_ok}
use Rattle.rr_eval.proofs.engine.Engine.open_call.Goals as goal

pub returns-in-Some-default-clause-goes : goal.returns-in-Some-default-clause-goes
returns-in-Some-default-clause-goes c =
    let p = c.args.prepared.now.program in
    let own = context_of p in
    let x = c.args.name.0 in
    let ts = trees_before p.nodes.items (c.args.first + c.args.count) c.args.count in
    if_ok c.open_own.result _ _
    (λ q goes h n.
    ap (λ f. after_script p (view_of c.args.self.now) c.args.space.now (call_rule own f (printing own x) (raises own x) (awaited own x) c.args.name ts) h n) (sym (c.own_method.ensures h) ∙ ap (option_map (callable_of p.nodes.items)) c.in-Some-default.is-0)
    ∙ goes h n)
    c.open_own.ensures.goes

pub returns-in-None-Some-clause-goes : goal.returns-in-None-Some-clause-goes
returns-in-None-Some-clause-goes c =
    let p = c.args.prepared.now.program in
    let own = context_of p in
    let x = c.args.name.0 in
    let t = c.args.space.now in
    let ts = trees_before p.nodes.items (c.args.first + c.args.count) c.args.count in
    if_ok c.open_values.result _ _
    (λ q goes h n.
    ap (λ f. after_script p (view_of c.args.self.now) t (call_rule own f (printing own x) (raises own x) (awaited own x) c.args.name ts) h n) (sym (c.own_method.ensures h) ∙ ap (option_map (callable_of p.nodes.items)) c.in-None-Some.is-0)
    ∙ ap (λ k. after_script p (view_of c.args.self.now) t (call_rule own None k (raises own x) (awaited own x) c.args.name ts) h n) (sym c.printing.ensures ∙ c.in-None-Some.is-1)
    ∙ goes p t h n)
    c.open_values.ensures.goes

pub returns-in-None-None-clause-goes : goal.returns-in-None-None-clause-goes
returns-in-None-None-clause-goes c =
    let p = c.args.prepared.now.program in
    let own = context_of p in
    let x = c.args.name.0 in
    let ts = trees_before p.nodes.items (c.args.first + c.args.count) c.args.count in
    if_ok c.open_missing.result _ _
    (λ q goes h n.
    ap (λ f. after_script p (view_of c.args.self.now) c.args.space.now (call_rule own f (printing own x) (raises own x) (awaited own x) c.args.name ts) h n) (sym (c.own_method.ensures h) ∙ ap (option_map (callable_of p.nodes.items)) c.in-None-None.is-0)
    ∙ ap (λ k. after_script p (view_of c.args.self.now) c.args.space.now (call_rule own None k (raises own x) (awaited own x) c.args.name ts) h n) (sym c.printing.ensures ∙ c.in-None-None.is-1)
    ∙ goes h n)
    c.open_missing.ensures.goes

pub returns-in-None-Some-clause-within : goal.returns-in-None-Some-clause-within
returns-in-None-Some-clause-within c clusters h = c.open_values.ensures.within (reach (length c.args.space.now.slots) clusters) h

pub returns-in-None-Some-clause-asks : goal.returns-in-None-Some-clause-asks
returns-in-None-Some-clause-asks c k h = c.open_values.ensures.asks k
