-- A built-in method of `self` may have the name.
use Rattle.std.proofs.Common.{sym, subst, reverse}
use Rattle.rr_eval.specs.Frames.{Nested}
use Rattle.rr_eval.specs.Runs.{no_objects}
use Rattle.rr_eval.specs.Views.{view_of}
use Rattle.rr_eval.specs.Within.{IsReached}
use Rattle.rr_eval.proofs.Holding.{all_nil, calls_reached, with_frames}
use Rattle.rr_eval.proofs.Invoking.{nested_still}
use Rattle.rr_eval.proofs.engine.Engine.open_other.Goals as goal

pub returns-then-has_built_in-clause-nested : goal.returns-then-has_built_in-clause-nested
returns-then-has_built_in-clause-nested c =
    let m = view_of c.args.self.now in
    nested_still c.send_built_in.result (record m { frames = c.reserve.new.self.items }) (view_of c.send_built_in.new.self) (no_objects 0) (subst (λ fs. Nested (reverse fs) m.held) (sym c.reserve.ensures.items) c.requires.nested) c.send_built_in.ensures.nested c.send_built_in.ensures.err

pub returns-then-has_built_in-clause-within : goal.returns-then-has_built_in-clause-within
returns-then-has_built_in-clause-within c k h = c.send_built_in.ensures.within k (with_frames k (view_of c.args.self.now) _ c.reserve.ensures.items h) (all_nil (IsReached k))

pub returns-then-has_built_in-clause-asks : goal.returns-then-has_built_in-clause-asks
returns-then-has_built_in-clause-asks c k h =
    let m = view_of c.args.self.now in
    c.send_built_in.ensures.asks k (with_frames k m _ c.reserve.ensures.items h) (c.itself-receiver.ensures.within k (calls_reached k m h)) (all_nil (IsReached k))
