use Rattle.std.proofs.Common.{◌≤◌, length, arith}
use Rattle.rr_space.proofs.Arrays.{node_set, node_kept}
use Rattle.rr_space.proofs.node.Node.write_element.Goals as goal

pub returns-then-place-len : goal.returns-then-place-len
returns-then-place-len c = rw c.in-Array.is (node_set c.in-Array.items c.set.new.self c.args.place c.args.value c.set.ensures)

pub returns-else-place-len : goal.returns-else-place-len
returns-else-place-len c = rw c.in-Array.is (node_kept c.in-Array.items c.args.place c.args.value (let w : length c.in-Array.items ≤ c.args.place = omega (arith, c.if-place-len.false, c.len.ensures) in w))
