-- They are among those that are held.
use Rattle.std.proofs.Common.{subst, sym}
use Rattle.std.specs.List.{All}
use Rattle.rr_eval.specs.Views.{view_of}
use Rattle.rr_eval.specs.Within.{IsReached}
use Rattle.rr_eval.proofs.Holding.{all_drop, all_nil, all_take, held_reached}
use Rattle.rr_eval.proofs.engine.Engine.values_from.Goals as goal

pub returns-in-Ok-clause-within : goal.returns-in-Ok-clause-within
returns-in-Ok-clause-within c k h =
    let held = subst (All (IsReached k)) (sym c.deref.ensures.value) (held_reached k (view_of c.args.self.now) h) in
    c.in-Ok.ensures.within k (all_take (IsReached k) _ _ (all_drop (IsReached k) c.args.base c.deref.result.now held)) (all_nil (IsReached k))
