-- The items are reached.
use Rattle.std.proofs.Common.{length}
use Rattle.rr_eval.specs.Views.{view_of}
use Rattle.rr_eval.specs.Within.{reach}
use Rattle.rr_eval.proofs.Splatted.{items_reached}
use Rattle.rr_eval.proofs.engine.Engine.hold_items.Goals as goal

pub returns-in-Ok-clause-within : goal.returns-in-Ok-clause-within
returns-in-Ok-clause-within c clusters h value items =
    c.go_behind.ensures.within clusters (items_reached (reach (length c.args.space.now.slots) clusters) (view_of c.args.self.now) c.extend_from_slice.new.self.items c.args.items.now c.in-Ok.ensures.items h items)

pub returns-in-Ok-clause-asks : goal.returns-in-Ok-clause-asks
returns-in-Ok-clause-asks c clusters h value items =
    c.go_behind.ensures.asks clusters (items_reached (reach (length c.args.space.now.slots) clusters) (view_of c.args.self.now) c.extend_from_slice.new.self.items c.args.items.now c.in-Ok.ensures.items h items)
