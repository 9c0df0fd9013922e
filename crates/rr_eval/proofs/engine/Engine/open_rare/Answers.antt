-- A call is evaluated by its rule.
use Rattle.std.proofs.Common.{◌≡◌, ℕ, Option, Result, Ok, Err, IfOk, sym, ap, ◌∙◌, ◌+◌, []}
use Rattle.rr_base.specs.declared.fault.Fault.{Fault}
use Rattle.rr_space.specs.Tables.{Table}
use Rattle.rr_tree.specs.declared.program.Program.{Program}
use Rattle.rr_eval.specs.declared.request.Request.{Request}
use Rattle.rr_eval.specs.Script.{Script}
use Rattle.rr_eval.specs.Requests.{Course}
use Rattle.rr_eval.specs.Rules.{rule, arguments, finish}
use Rattle.rr_tree.specs.Nodes.{trees_before}
use Rattle.rr_eval.specs.declared.call.Target.TheVariants.{Do}
use Rattle.rr_eval.specs.declared.call.Task.TheVariants.{MakeArray, MakeText}
use Rattle.rr_eval.specs.Nodes.{evaluated_tree}
use Rattle.rr_eval.specs.Turns.{context_of, after_script, continuing}
use Rattle.rr_eval.specs.View.{View}
use Rattle.rr_eval.specs.Views.{view_of}
use Rattle.rr_eval.specs.Within.{reach}
use Rattle.rr_eval.proofs.Forwarding.{forwarding_is}
use Rattle.rr_eval.proofs.Lists.{call_is, array_is, interpolation_is, super_is, yield_is}
use Rattle.rr_eval.proofs.Pairing.{hash_is, pairs_is}
use Rattle.std.proofs.Common.{length}
use Rattle.rr_eval.proofs.engine.Engine.open_rare.Goals as goal

by_rule : (r : Result (Option Request) Fault) (p : Program) (m new : View) (t : Table) (a b : Script) → a ≡ b
    → IfOk r (λ q. (t : Table) (h : Course) (n : ℕ) → after_script p m t a h n ≡ continuing p new t q h n)
    → IfOk r (λ q. (h : Course) (n : ℕ) → after_script p m t b h n ≡ continuing p new t q h n)
by_rule (Ok q) p m new t a b e goes = λ h n. ap (λ s. after_script p m t s h n) (sym e) ∙ goes t h n
by_rule (Err f) p m new t a b e goes = tt

by_rule_here : (r : Result (Option Request) Fault) (p : Program) (m new : View) (t : Table) (a b : Script) → a ≡ b
    → IfOk r (λ q. (h : Course) (n : ℕ) → after_script p m t a h n ≡ continuing p new t q h n)
    → IfOk r (λ q. (h : Course) (n : ℕ) → after_script p m t b h n ≡ continuing p new t q h n)
by_rule_here (Ok q) p m new t a b e goes = λ h n. ap (λ s. after_script p m t s h n) (sym e) ∙ goes h n
by_rule_here (Err f) p m new t a b e goes = tt

by_rule_of : (r : Result (Option Request) Fault) (p : Program) (m new : View) (t : Table) (a : Program → Script) (b : Script) → a p ≡ b
    → IfOk r (λ q. (p : Program) (t : Table) (h : Course) (n : ℕ) → after_script p m t (a p) h n ≡ continuing p new t q h n)
    → IfOk r (λ q. (h : Course) (n : ℕ) → after_script p m t b h n ≡ continuing p new t q h n)
by_rule_of (Ok q) p m new t a b e goes = λ h n. ap (λ s. after_script p m t s h n) (sym e) ∙ goes p t h n
by_rule_of (Err f) p m new t a b e goes = tt

pub returns-in-Call-clause-goes : goal.returns-in-Call-clause-goes
returns-in-Call-clause-goes c =
    let p = c.args.prepared.now.program in
    let ns = p.nodes.items in
    by_rule_here c.open_call.result p (view_of c.args.self.now) (view_of c.open_call.new.self) c.args.space.now _ _
    (call_is ns (context_of p) c.in-Call.name c.in-Call.first c.in-Call.count c.in-Call.site ∙ ap (λ x. rule (context_of p) (evaluated_tree ns x)) (sym c.in-Call.is)) c.open_call.ensures.goes

pub returns-in-Super-clause-goes : goal.returns-in-Super-clause-goes
returns-in-Super-clause-goes c =
    let p = c.args.prepared.now.program in
    let ns = p.nodes.items in
    by_rule_here c.open_super.result p (view_of c.args.self.now) (view_of c.open_super.new.self) c.args.space.now _ _
    (super_is ns (context_of p) c.in-Super.first c.in-Super.count ∙ ap (λ x. rule (context_of p) (evaluated_tree ns x)) (sym c.in-Super.is)) c.open_super.ensures.goes

pub returns-in-Array-clause-goes : goal.returns-in-Array-clause-goes
returns-in-Array-clause-goes c =
    let p = c.args.prepared.now.program in
    let ns = p.nodes.items in
    by_rule_of c.open_values.result p (view_of c.args.self.now) (view_of c.open_values.new.self) c.args.space.now (λ x. arguments (context_of x) (trees_before x.nodes.items (c.in-Array.first + c.in-Array.count) c.in-Array.count) [] (finish (context_of x) (Do MakeArray))) _
    (array_is ns (context_of p) c.in-Array.first c.in-Array.count ∙ ap (λ x. rule (context_of p) (evaluated_tree ns x)) (sym c.in-Array.is)) c.open_values.ensures.goes

pub returns-in-Interpolation-clause-goes : goal.returns-in-Interpolation-clause-goes
returns-in-Interpolation-clause-goes c =
    let p = c.args.prepared.now.program in
    let ns = p.nodes.items in
    by_rule_of c.open_values-in-Interpolation.result p (view_of c.args.self.now) (view_of c.open_values-in-Interpolation.new.self) c.args.space.now (λ x. arguments (context_of x) (trees_before x.nodes.items (c.in-Interpolation.first + c.in-Interpolation.count) c.in-Interpolation.count) [] (finish (context_of x) (Do MakeText))) _
    (interpolation_is ns (context_of p) c.in-Interpolation.first c.in-Interpolation.count ∙ ap (λ x. rule (context_of p) (evaluated_tree ns x)) (sym c.in-Interpolation.is)) c.open_values-in-Interpolation.ensures.goes

pub returns-in-Interpolation-clause-within : goal.returns-in-Interpolation-clause-within
returns-in-Interpolation-clause-within c cs = c.open_values-in-Interpolation.ensures.within (reach (length c.args.space.now.slots) cs)

pub returns-in-Array-clause-within : goal.returns-in-Array-clause-within
returns-in-Array-clause-within c cs = c.open_values.ensures.within (reach (length c.args.space.now.slots) cs)

pub returns-in-Bare-clause-within : goal.returns-in-Bare-clause-within
returns-in-Bare-clause-within c cs = c.open_bare.ensures.within cs

pub returns-in-Call-clause-within : goal.returns-in-Call-clause-within
returns-in-Call-clause-within c cs = c.open_call.ensures.within cs

pub returns-in-Hash-clause-goes : goal.returns-in-Hash-clause-goes
returns-in-Hash-clause-goes c =
    let p = c.args.prepared.now.program in
    let ns = p.nodes.items in
    by_rule c.open_pairs.result p (view_of c.args.self.now) (view_of c.open_pairs.new.self) c.args.space.now _ _
    (hash_is ns (context_of p) c.in-Hash.first c.in-Hash.count ∙ ap (λ x. rule (context_of p) (evaluated_tree ns x)) (sym c.in-Hash.is)) c.open_pairs.ensures.goes

pub returns-in-Pairs-clause-goes : goal.returns-in-Pairs-clause-goes
returns-in-Pairs-clause-goes c =
    let p = c.args.prepared.now.program in
    let ns = p.nodes.items in
    by_rule c.open_pairs-in-Pairs.result p (view_of c.args.self.now) (view_of c.open_pairs-in-Pairs.new.self) c.args.space.now _ _
    (pairs_is ns (context_of p) c.in-Pairs.first c.in-Pairs.count ∙ ap (λ x. rule (context_of p) (evaluated_tree ns x)) (sym c.in-Pairs.is)) c.open_pairs-in-Pairs.ensures.goes

pub returns-in-Hash-clause-within : goal.returns-in-Hash-clause-within
returns-in-Hash-clause-within c cs = c.open_pairs.ensures.within (reach (length c.args.space.now.slots) cs)

pub returns-in-Pairs-clause-within : goal.returns-in-Pairs-clause-within
returns-in-Pairs-clause-within c cs = c.open_pairs-in-Pairs.ensures.within (reach (length c.args.space.now.slots) cs)

pub returns-in-Ok-clause-goes : goal.returns-in-Ok-clause-goes
returns-in-Ok-clause-goes c h n =
    let p = c.args.prepared.now.program in
    let ns = p.nodes.items in
    let m = view_of c.args.self.now in
    let t = c.args.space.now in
    ap (λ x. after_script p m t (rule (context_of p) (evaluated_tree ns x)) h n) c.in-Yield.is
    ∙ ap (λ r. after_script p m t r h n) (sym (yield_is ns (context_of p) c.in-Yield.first c.in-Yield.count))
    ∙ c.in-Ok.ensures.goes h n

pub returns-in-Err-clause-err : goal.returns-in-Err-clause-err
returns-in-Err-clause-err c = c.in-Err.ensures.err c.args.space.now

pub returns-in-Array-clause-asks : goal.returns-in-Array-clause-asks
returns-in-Array-clause-asks c clusters h = c.open_values.ensures.asks (reach (length c.args.space.now.slots) clusters)

pub returns-in-Interpolation-clause-asks : goal.returns-in-Interpolation-clause-asks
returns-in-Interpolation-clause-asks c clusters h = c.open_values-in-Interpolation.ensures.asks (reach (length c.args.space.now.slots) clusters)

pub returns-in-Hash-clause-asks : goal.returns-in-Hash-clause-asks
returns-in-Hash-clause-asks c clusters h = c.open_pairs.ensures.asks (reach (length c.args.space.now.slots) clusters)

pub returns-in-Pairs-clause-asks : goal.returns-in-Pairs-clause-asks
returns-in-Pairs-clause-asks c clusters h = c.open_pairs-in-Pairs.ensures.asks (reach (length c.args.space.now.slots) clusters)

pub returns-in-Bare-clause-asks : goal.returns-in-Bare-clause-asks
returns-in-Bare-clause-asks c clusters h = c.open_bare.ensures.asks (reach (length c.args.space.now.slots) clusters) h

pub returns-in-Call-clause-asks : goal.returns-in-Call-clause-asks
returns-in-Call-clause-asks c clusters h = c.open_call.ensures.asks (reach (length c.args.space.now.slots) clusters) h

pub returns-in-WithBlock-clause-asks : goal.returns-in-WithBlock-clause-asks
returns-in-WithBlock-clause-asks c clusters h = c.open_block.ensures.asks (reach (length c.args.space.now.slots) clusters) h

pub returns-in-Super-clause-asks : goal.returns-in-Super-clause-asks
returns-in-Super-clause-asks c clusters h = c.open_super.ensures.asks (reach (length c.args.space.now.slots) clusters) h

pub returns-in-ForwardingSuper-clause-asks : goal.returns-in-ForwardingSuper-clause-asks
returns-in-ForwardingSuper-clause-asks c clusters h = c.open_forwarding.ensures.asks (reach (length c.args.space.now.slots) clusters) h

pub returns-in-Super-clause-within : goal.returns-in-Super-clause-within
returns-in-Super-clause-within c cs = c.open_super.ensures.within cs

pub returns-in-ForwardingSuper-clause-within : goal.returns-in-ForwardingSuper-clause-within
returns-in-ForwardingSuper-clause-within c cs = c.open_forwarding.ensures.within cs

pub returns-in-ForwardingSuper-clause-goes : goal.returns-in-ForwardingSuper-clause-goes
returns-in-ForwardingSuper-clause-goes c =
    let p = c.args.prepared.now.program in
    let ns = p.nodes.items in
    by_rule_here c.open_forwarding.result p (view_of c.args.self.now) (view_of c.open_forwarding.new.self) c.args.space.now _ _
    (forwarding_is ns (context_of p) ∙ ap (λ x. rule (context_of p) (evaluated_tree ns x)) (sym c.in-ForwardingSuper.is)) c.open_forwarding.ensures.goes

pub returns-in-Text-clause-asks : goal.returns-in-Text-clause-asks
returns-in-Text-clause-asks c clusters h = c.open_text.ensures.asks (reach (length c.open_text.new.space.slots) clusters)

pub returns-in-OrAssign-clause-within : goal.returns-in-OrAssign-clause-within
returns-in-OrAssign-clause-within c cs = c.open_or.ensures.within (reach (length c.args.space.now.slots) cs)

pub returns-in-OrAssign-clause-asks : goal.returns-in-OrAssign-clause-asks
returns-in-OrAssign-clause-asks c clusters h = c.open_or.ensures.asks (reach (length c.args.space.now.slots) clusters)

pub returns-in-Constant-clause-asks : goal.returns-in-Constant-clause-asks
returns-in-Constant-clause-asks c clusters h = c.open_path.ensures.asks (reach (length c.args.space.now.slots) clusters)
