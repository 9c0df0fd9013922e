-- The value of an assignment to an instance variable is there, or the last one of a call.
use Rattle.std.proofs.Common.{◌∙◌, length}
use Rattle.rr_eval.specs.Within.{reach}
use Rattle.rr_eval.proofs.engine.Engine.ask_given.Goals as goal

pub returns-in-Some-SetField-clause-goes : goal.returns-in-Some-SetField-clause-goes
returns-in-Some-SetField-clause-goes c h =
    let p = c.args.prepared.now.program in
    let t = c.args.space.now in
    c.take_top.ensures.goes p t h ∙ c.ask_field.ensures.asks p t h c.take_top.new.self.left

pub returns-in-Some-SetField-clause-asks : goal.returns-in-Some-SetField-clause-asks
returns-in-Some-SetField-clause-asks c clusters h =
    let k = reach (length c.args.space.now.slots) clusters in
    c.ask_field.ensures.within k (c.take_top.ensures.within k h) (c.take_top.ensures.given k h)
