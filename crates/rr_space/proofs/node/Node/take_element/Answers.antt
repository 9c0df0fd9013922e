use Rattle.std.proofs.Common.{sym}
use Rattle.rr_space.proofs.Shortening.{node_taken, node_untaken}
use Rattle.rr_space.proofs.node.Node.take_element.Goals as goal

pub returns-in-Some : goal.returns-in-Some
returns-in-Some c = rw c.in-Array.is (node_taken c.in-Array.items c.remove.new.self c.args.place c.in-Some.taken (sym c.in-Some.ensures) c.remove.ensures)

pub returns-in-None : goal.returns-in-None
returns-in-None c = rw c.in-Array.is (node_untaken c.in-Array.items c.args.place (sym c.in-None.ensures))
