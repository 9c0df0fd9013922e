-- What stands is nested, and nothing is given.
use Rattle.std.proofs.Common.{length, reverse, subst, sym}
use Rattle.rr_eval.specs.Frames.{Nested}
use Rattle.rr_eval.specs.Runs.{no_objects}
use Rattle.rr_eval.specs.Views.{view_of}
use Rattle.rr_eval.specs.Within.{reach, IsReached}
use Rattle.rr_eval.proofs.Holding.{all_nil, with_frames}
use Rattle.rr_eval.proofs.Invoking.{nested_still}
use Rattle.rr_eval.proofs.engine.Engine.open_loop.Goals as goal

pub returns-clause-nested : goal.returns-clause-nested
returns-clause-nested c =
    let m = view_of c.args.self.now in
    nested_still c.call_turn.result _ (view_of c.call_turn.new.self) (no_objects 0) (subst (λ fs. Nested (reverse fs) m.held) (sym c.reserve.ensures.items) c.requires.nested) c.call_turn.ensures.nested c.call_turn.ensures.err

pub returns-clause-within : goal.returns-clause-within
returns-clause-within c clusters h =
    let k = reach (length c.args.space.now.slots) clusters in
    c.call_turn.ensures.within clusters (with_frames k (view_of c.args.self.now) _ c.reserve.ensures.items h) (all_nil (IsReached k))
