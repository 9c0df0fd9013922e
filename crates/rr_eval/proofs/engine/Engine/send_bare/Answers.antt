-- The call is one step.
use Rattle.std.proofs.Common.{◌∙◌, ap, sym, ◌+◌, ◌-◌, length, arith}
use Rattle.rr_eval.specs.Prepared.{callable_of}
use Rattle.rr_eval.specs.Turns.{remaining_with}
use Rattle.rr_eval.specs.Views.{view_of}
use Rattle.rr_eval.specs.Within.{reach, IsReached}
use Rattle.rr_eval.proofs.Holding.{all_nil, with_left}
use Rattle.rr_eval.proofs.QuickSends.{sent_bare}
use Rattle.rr_eval.proofs.engine.Engine.send_bare.Goals as goal

pub returns-then-begin_sent-clause-goes : goal.returns-then-begin_sent-clause-goes
returns-then-begin_sent-clause-goes c = λ _ h.
    let p = c.args.prepared.now.program in
    let m = view_of c.args.self.now in
    let t = c.args.space.now in
    let found = c.args.found in
    let enough = c.requires.enough in
    sent_bare p m t c.args.here found.steps found.value c.args.name (callable_of p.nodes.items c.args.definition) h c.requires.control c.requires.comes c.requires.joins c.requires.method (omega (arith, enough))
    ∙ c.begin_sent.ensures.goes c.if-begin_sent.true p c.args.name h (m.left - (found.steps + 1))
    ∙ ap (λ n. remaining_with p (view_of c.begin_sent.new.self) t h (n - (found.steps + 1))) (sym c.begin_sent.ensures.left)
    ∙ c.enter_single.ensures.goes t h

pub returns-then-begin_sent-clause-within : goal.returns-then-begin_sent-clause-within
returns-then-begin_sent-clause-within c clusters h =
    let k = reach (length c.args.space.now.slots) clusters in
    c.enter_single.ensures.within k (with_left k (view_of c.begin_sent.new.self) _ (c.begin_sent.ensures.within clusters h (c.requires.value clusters h) (all_nil (IsReached k))))
