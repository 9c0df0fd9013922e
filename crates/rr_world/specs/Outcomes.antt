-- What a step answers that a ractor makes by itself.
use Rattle.rr_world.specs.declared.outcome.Outcome.{Outcome}
use Rattle.rr_world.specs.declared.outcome.Outcome.TheVariants as outcome
use Rattle.rr_world.specs.declared.step.Reply.{Reply}
use Rattle.rr_world.specs.declared.step.Reply.TheVariants.{NotEnabled, Done, Refused}

abbrev pub reply_of : Outcome → Reply
reply_of outcome.Done = Done
reply_of outcome.NotEnabled = NotEnabled
reply_of (outcome.Refused f) = Refused f
