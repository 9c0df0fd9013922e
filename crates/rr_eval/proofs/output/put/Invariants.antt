-- `put` ends, since each turn writes some bytes, and what is written so far is in the writer.
use Rattle.std.proofs.Common.{◌≡◌, ◌-◌, ◌≤◌, length, take}
use Rattle.std.specs.Io.KnownBytes.{Appends}
use Rattle.rr_eval.proofs.output.put.Given as goal

abbrev pub invariant-loop-taken : goal.invariant-loop-taken
invariant-loop-taken g l = record {
  within : l.taken ≤ length l.piece;
  wrote : Appends (g.O.Output.contents l.initial.output) (g.O.Output.contents l.output) (take l.taken l.piece);
  failed : g.O.Output.failures l.output ≡ g.O.Output.failures l.initial.output;
}

abbrev pub decreases-loop-taken : goal.decreases-loop-taken
decreases-loop-taken g l = length l.piece - l.taken
