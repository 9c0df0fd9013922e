-- What is asked is reached.
use Rattle.std.proofs.Common.{◌∷◌, []}
use Rattle.rr_eval.specs.Views.{view_of}
use Rattle.rr_eval.specs.Within.{IsReached}
use Rattle.rr_eval.proofs.Holding.{all_cons, all_nil, held_reached}
use Rattle.rr_eval.proofs.engine.Engine.run_writer.Goals as goal

pub returns-in-Some-clause-asks : goal.returns-in-Some-clause-asks
returns-in-Some-clause-asks c k h receiver last =
    let value = c.in-Some.ensures.within k (c.standing-stand.ensures.within k (held_reached k (view_of c.args.self.now) h)) last in
    all_cons (IsReached k) c.args.receiver (c.in-Some.value ∷ []) receiver (all_cons (IsReached k) c.in-Some.value [] value (all_nil (IsReached k)))
