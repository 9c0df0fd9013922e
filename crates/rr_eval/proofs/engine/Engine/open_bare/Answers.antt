-- A method of the program comes first.
use Rattle.std.proofs.Common.{◌∙◌, ap, sym, length, None}
use Rattle.std.specs.Option.{option_map}
use Rattle.rr_eval.specs.Prepared.{callable_of}
use Rattle.rr_eval.specs.Rules.{bare_rule, printing, raises, asks_block}
use Rattle.rr_eval.specs.Turns.{context_of, after_script}
use Rattle.rr_eval.specs.Views.{view_of}
use Rattle.rr_eval.specs.Within.{reach}
use Rattle.rr_eval.proofs.Invoking.{if_ok}
use Rattle.rr_eval.proofs.engine.Engine.open_bare.Goals as goal

pub returns-in-Some-default-clause-goes : goal.returns-in-Some-default-clause-goes
returns-in-Some-default-clause-goes c =
    let p = c.args.prepared.now.program in
    let own = context_of p in
    let x = c.args.name.0 in
    if_ok c.run_own.result _ _
    (λ q goes h n.
    ap (λ f. after_script p (view_of c.args.self.now) c.args.space.now (bare_rule own f (printing own x) (raises own x) (asks_block own x) c.args.name) h n) (sym (c.own_method.ensures h) ∙ ap (option_map (callable_of p.nodes.items)) c.in-Some-default.is-0)
    ∙ goes p c.args.name h n)
    c.run_own.ensures.goes

pub returns-in-None-Some-clause-goes : goal.returns-in-None-Some-clause-goes
returns-in-None-Some-clause-goes c h n =
    let p = c.args.prepared.now.program in
    let own = context_of p in
    let x = c.args.name.0 in
    let t = c.args.space.now in
    ap (λ f. after_script p (view_of c.args.self.now) t (bare_rule own f (printing own x) (raises own x) (asks_block own x) c.args.name) h n) (sym (c.own_method.ensures h) ∙ ap (option_map (callable_of p.nodes.items)) c.in-None-Some.is-0)
    ∙ ap (λ k. after_script p (view_of c.args.self.now) t (bare_rule own None k (raises own x) (asks_block own x) c.args.name) h n) (sym c.printing.ensures ∙ c.in-None-Some.is-1)

pub returns-in-None-None-clause-goes : goal.returns-in-None-None-clause-goes
returns-in-None-None-clause-goes c =
    let p = c.args.prepared.now.program in
    let own = context_of p in
    let x = c.args.name.0 in
    let t = c.args.space.now in
    if_ok c.open_name.result _ _
    (λ q goes h n.
    ap (λ f. after_script p (view_of c.args.self.now) t (bare_rule own f (printing own x) (raises own x) (asks_block own x) c.args.name) h n) (sym (c.own_method.ensures h) ∙ ap (option_map (callable_of p.nodes.items)) c.in-None-None.is-0)
    ∙ ap (λ k. after_script p (view_of c.args.self.now) t (bare_rule own None k (raises own x) (asks_block own x) c.args.name) h n) (sym c.printing.ensures ∙ c.in-None-None.is-1)
    ∙ goes h n)
    c.open_name.ensures.goes

pub returns-in-None-None-clause-within : goal.returns-in-None-None-clause-within
returns-in-None-None-clause-within c clusters h = c.open_name.ensures.within (reach (length c.args.space.now.slots) clusters) h
