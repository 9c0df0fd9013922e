-- The call is one step.
use Rattle.std.proofs.Common.{◌≡◌, ◌∙◌, ◌-◌, suc, ap, sym, arith, length}
use Rattle.std.specs.Option.{option_map}
use Rattle.rr_tree.specs.Tree.{tree_at}
use Rattle.rr_eval.specs.Frames.{first_tree}
use Rattle.rr_eval.specs.Prepared.{callable_of}
use Rattle.rr_eval.specs.Rules.{bare_rule, printing, raises, asks_block}
use Rattle.rr_eval.specs.Turns.{context_of, after_script, remaining_with}
use Rattle.rr_eval.specs.Views.{view_of}
use Rattle.rr_eval.specs.Within.{reach, IsReached}
use Rattle.rr_eval.proofs.Entered.{stepped}
use Rattle.rr_eval.proofs.Holding.{all_nil, with_left}
use Rattle.rr_eval.proofs.engine.Engine.bare_usual.Goals as goal

pub returns-then-begin_method-clause-goes : goal.returns-then-begin_method-clause-goes
returns-then-begin_method-clause-goes c = λ h.
    let p = c.args.prepared.now.program in
    let ns = p.nodes.items in
    let own = context_of p in
    let x = c.args.name.0 in
    let m = view_of c.args.self.now in
    let t = c.args.space.now in
    let some : m.left ≡ suc (m.left - 1) = omega arith in
    stepped p m t (m.left - 1) (tree_at ns c.args.here) (ap (first_tree ns) c.requires.control) some h
    ∙ ap (λ r. after_script p m t r h (m.left - 1)) c.requires.script
    ∙ ap (λ f. after_script p m t (bare_rule own f (printing own x) (raises own x) (asks_block own x) c.args.name) h (m.left - 1)) (sym (c.own_method.ensures h) ∙ ap (option_map (callable_of ns)) c.in-Some.is)
    ∙ c.begin_method.ensures.goes c.if-begin_method.true p c.args.name t h (m.left - 1)
    ∙ ap (λ n. remaining_with p (view_of c.begin_method.new.self) t h (n - 1)) (sym c.begin_method.ensures.left)

pub returns-then-begin_method-clause-within : goal.returns-then-begin_method-clause-within
returns-then-begin_method-clause-within c clusters h =
    let k = reach (length c.args.space.now.slots) clusters in
    with_left k (view_of c.begin_method.new.self) _ (c.begin_method.ensures.within k h (all_nil (IsReached k)))
