-- The call is one step, and its argument is evaluated before.
use Rattle.std.proofs.Common.{◌∙◌, ap, sym, ◌+◌, ◌-◌, [], arith, length}
use Rattle.rr_eval.specs.Prepared.{callable_of}
use Rattle.rr_eval.specs.Turns.{remaining_with}
use Rattle.rr_eval.specs.Views.{view_of}
use Rattle.rr_eval.specs.Within.{reach, IsReached}
use Rattle.rr_eval.proofs.Holding.{all_cons, all_nil, with_left}
use Rattle.rr_eval.proofs.QuickCalls.{own_called}
use Rattle.rr_eval.proofs.engine.Engine.call_one.Goals as goal

pub returns-then-begin_method-clause-goes : goal.returns-then-begin_method-clause-goes
returns-then-begin_method-clause-goes c = λ _ h.
    let p = c.args.prepared.now.program in
    let m = view_of c.args.self.now in
    let t = c.args.space.now in
    let found = c.args.found in
    let enough = c.requires.enough in
    own_called p m t c.args.here c.args.first found.steps c.args.name (callable_of p.nodes.items c.args.definition) found.value h c.requires.control c.requires.script c.requires.plain (c.requires.method h) c.requires.takes (omega (arith, enough))
    ∙ c.begin_method.ensures.goes c.if-begin_method.true p c.args.name t h (m.left - (found.steps + 1))
    ∙ ap (λ n. remaining_with p (view_of c.begin_method.new.self) t h (n - (found.steps + 1))) (sym c.begin_method.ensures.left)

pub returns-then-begin_method-clause-within : goal.returns-then-begin_method-clause-within
returns-then-begin_method-clause-within c clusters h =
    let k = reach (length c.args.space.now.slots) clusters in
    with_left k (view_of c.begin_method.new.self) _ (c.begin_method.ensures.within k h (all_cons (IsReached k) c.args.found.value [] (c.requires.value clusters h) (all_nil (IsReached k))))
