use Rattle.rr_space.specs.Writes.{IsElementPushed}
use Rattle.rr_space.proofs.Rewriting.{held_rewritten}
use Rattle.rr_space.proofs.node.Held.push_element.Goals as goal

pub returns-in-Whole-clause-written : goal.returns-in-Whole-clause-written
returns-in-Whole-clause-written c =
    let q = c.push_element in
    held_rewritten (λ a b. IsElementPushed a b c.args.value q.result) _ _ q.new.self _ c.in-Whole.is q.ensures.written
