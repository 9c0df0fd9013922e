use Rattle.std.proofs.Common.{◌≡◌, ◌≤◌, take, length}
use Rattle.std.specs.Prelude.{vec_capacity}
use Rattle.rr_world.specs.Runs.{IsRun}
use Rattle.rr_world.proofs.world.World.run_steps.Given as goal

abbrev pub invariant-loop-step : goal.invariant-loop-step
invariant-loop-step l = record {
  run : IsRun (take l.step-index l.steps) l.replies.items l.fn.self l.self;
  count : length l.replies.items ≡ l.step-index;
  room : length l.steps ≤ vec_capacity l.replies;
}
