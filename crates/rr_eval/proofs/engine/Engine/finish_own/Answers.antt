-- `self` has a method of the program.
use Rattle.std.proofs.Common.{◌∙◌, ◌++◌, ◌∷◌, [], ap, sym, None}
use Rattle.rr_eval.specs.declared.call.Callee.TheVariants.{Name}
use Rattle.rr_eval.specs.Blocks.{running}
use Rattle.rr_eval.specs.Dispatch.{dispatched}
use Rattle.rr_eval.specs.Frames.{stand_of}
use Rattle.rr_eval.specs.Turns.{context_of, after_values}
use Rattle.rr_eval.specs.Views.{view_of}
use Rattle.rr_eval.specs.Within.{IsReached}
use Rattle.rr_eval.proofs.Holding.{all_cons, all_nil}
use Rattle.rr_eval.proofs.engine.Engine.finish_own.Goals as goal

pub returns-in-Some-clause-goes : goal.returns-in-Some-clause-goes
returns-in-Some-clause-goes c = λ done h n.
    let p = c.args.prepared.now.program in
    let m = view_of c.args.self.now in
    let t = c.args.space.now in
    let f = c.args.frame in
    let x = c.args.name in
    let vs = stand_of f m.held ++ c.args.last ∷ [] in
    ap (λ g. after_values p m t f (dispatched (context_of p) g (Name x) None (running m.calls.frames).itself vs) h n) (sym (c.in-Some.ensures h))
    ∙ c.begin_method.ensures.goes done p x t h n

pub returns-in-Some-clause-within : goal.returns-in-Some-clause-within
returns-in-Some-clause-within c k h value = c.begin_method.ensures.within k h (all_cons (IsReached k) c.args.last [] value (all_nil (IsReached k)))
