-- The rule of a choice is what its frame waits for.
use Rattle.std.proofs.Common.{ap, length, subst, sym}
use Rattle.rr_eval.specs.Rules.{rule}
use Rattle.rr_eval.specs.Turns.{context_of}
use Rattle.rr_eval.specs.Views.{view_of}
use Rattle.rr_eval.specs.Within.{IsControlReached, reach}
use Rattle.rr_eval.proofs.Holding.{with_control}
use Rattle.rr_eval.proofs.engine.Engine.visit_choice.Goals as goal

pub first_value-requires-clause-script : goal.first_value-requires-clause-script
first_value-requires-clause-script c w = ap (rule (context_of c.args.prepared.now.program)) c.requires.tree

pub returns-then-is_truthy-clause-within : goal.returns-then-is_truthy-clause-within
returns-then-is_truthy-clause-within c clusters h =
    let k = reach (length c.args.space.now.slots) clusters in
    with_control k (view_of c.first_value.new.self) c.enter.new.self (c.first_value.ensures.within clusters h tt) (subst (IsControlReached k) (sym c.enter.ensures) tt)
