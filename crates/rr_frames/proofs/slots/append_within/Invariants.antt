-- The values so far stand behind those that were there, and there is room for the others.
use Rattle.std.specs.Prelude.{◌≡◌, ◌≤◌, ◌+◌, ◌++◌, length, vec_capacity}
use Rattle.rr_frames.proofs.slots.append_within.Given as goal

abbrev pub invariant-loop-rest : goal.invariant-loop-rest
invariant-loop-rest l = record {
  items : l.slots.items ++ l.rest ≡ l.initial.slots.items ++ l.values;
  room : length l.slots.items + length l.rest + 1 ≤ vec_capacity l.slots;
  capacity : vec_capacity l.initial.slots ≤ vec_capacity l.slots;
}

abbrev pub decreases-loop-rest : goal.decreases-loop-rest
decreases-loop-rest l = length l.rest
