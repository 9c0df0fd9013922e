-- Each turn adds the bytes that the write took; a failed write leaves the bytes before it.
use Rattle.std.proofs.Common.{◌≡◌, ◌+◌, ◌-◌, ◌≤◌, ◌<◌, length, take, drop, arith, length-take}
use Rattle.rr_eval.proofs.Bytes.{next_bytes, take-proper}
use Rattle.rr_eval.proofs.output.put.Goals as goal

pub loop-taken-preserved : goal.loop-taken-preserved
loop-taken-preserved g c =
    let done = c.loop-taken.taken in
    let count = c.write_once-count.result in
    let xs = c.args.piece.now in
    let fits = c.write_once-count.ensures.bound in
    let most = length-take (length xs - done) (drop done xs) in
    let within : done + count ≤ length xs = omega arith in
    record {
      within = within;
      wrote = next_bytes _ _ _ xs done count within c.loop-taken.invariant.wrote c.write_once-count.ensures.took;
      failed = grind (arith, c.write_once-count.ensures.counted, c.loop-taken.invariant.failed);
    }

pub returns-then-count-eq0 : goal.returns-then-count-eq0
returns-then-count-eq0 g c =
    let done = c.loop-taken.taken in
    let count = c.write_once-count.result in
    let xs = c.args.piece.now in
    let none : done + count ≡ done = omega arith in
    let within : done + count ≤ length xs = omega arith in
    let more : done + count < length xs = omega arith in
    record {
      part = take (done + count) xs;
      begins = take-proper (done + count) xs more;
      wrote = next_bytes _ _ _ xs done count within c.loop-taken.invariant.wrote c.write_once-count.ensures.took;
      failed = grind (arith, c.write_once-count.ensures.counted, c.loop-taken.invariant.failed);
    }
