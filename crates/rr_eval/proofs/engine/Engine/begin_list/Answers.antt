-- The first statement is evaluated, and then the others.
use Rattle.std.proofs.Common.{◌+◌, ◌∙◌, sym, ap, arith}
use Rattle.rr_eval.specs.Turns.{after_script}
use Rattle.rr_eval.proofs.Lists.{statements_from}
use Rattle.rr_eval.specs.Views.{view_of}
use Rattle.rr_eval.proofs.engine.Engine.begin_list.Goals as goal

pub returns-in_default-clause-goes : goal.returns-in_default-clause-goes
returns-in_default-clause-goes c p t h n =
    ap (λ r. after_script p (view_of c.args.self.now) t r h n) (sym (statements_from p.nodes.items (c.args.first + c.args.count) c.args.count c.args.first (omega arith) (omega arith)))
    ∙ c.enter_above.ensures.goes p t h n

pub returns-in_default-clause-within : goal.returns-in_default-clause-within
returns-in_default-clause-within c k h = c.enter_above.ensures.within k h tt
