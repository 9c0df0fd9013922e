use Rattle.rr_space.proofs.Arrays.{node_pushed}
use Rattle.rr_space.proofs.node.Node.push_element.Goals as goal

pub returns-in-Array-clause-written : goal.returns-in-Array-clause-written
returns-in-Array-clause-written c =
    let q = c.push in
    rw c.in-Array.is (node_pushed c.in-Array.items q.new.self c.args.value q.result q.ensures.pushed q.ensures.refused)
