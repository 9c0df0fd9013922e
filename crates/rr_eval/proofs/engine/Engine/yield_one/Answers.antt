-- The value is evaluated before the block is called.
use Rattle.std.proofs.Common.{◌∙◌, ap, sym, ◌+◌, ◌-◌, [], arith, length}
use Rattle.rr_eval.specs.Turns.{remaining_with}
use Rattle.rr_eval.specs.Views.{view_of}
use Rattle.rr_eval.specs.Within.{reach, IsReached}
use Rattle.rr_eval.proofs.Holding.{all_cons, all_nil, with_left}
use Rattle.rr_eval.proofs.QuickCalls.{one_yielded}
use Rattle.rr_eval.proofs.engine.Engine.yield_one.Goals as goal

pub returns-then-begin_yield-clause-goes : goal.returns-then-begin_yield-clause-goes
returns-then-begin_yield-clause-goes c = λ _ h.
    let p = c.args.prepared.now.program in
    let m = view_of c.args.self.now in
    let t = c.args.space.now in
    let found = c.args.found in
    let enough = c.requires.enough in
    one_yielded p m t c.args.here c.args.first found.steps found.value h c.requires.control c.requires.script c.requires.plain c.requires.takes (omega (arith, enough))
    ∙ c.begin_yield.ensures.goes c.if-begin_yield.true h (m.left - (found.steps + 1))
    ∙ ap (λ n. remaining_with p (view_of c.begin_yield.new.self) t h (n - (found.steps + 1))) (sym c.begin_yield.ensures.left)
    ∙ c.enter_body.ensures.goes t h

pub returns-then-begin_yield-clause-within : goal.returns-then-begin_yield-clause-within
returns-then-begin_yield-clause-within c clusters h =
    let k = reach (length c.args.space.now.slots) clusters in
    c.enter_body.ensures.within k (with_left k (view_of c.begin_yield.new.self) _ (c.begin_yield.ensures.within k h (all_cons (IsReached k) c.args.found.value [] (c.requires.value clusters h) (all_nil (IsReached k)))))
