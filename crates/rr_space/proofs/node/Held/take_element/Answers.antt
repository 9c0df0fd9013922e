use Rattle.rr_space.specs.Writes.{IsElementTaken}
use Rattle.rr_space.proofs.Rewriting.{held_rewritten}
use Rattle.rr_space.proofs.node.Held.take_element.Goals as goal

pub returns-in-Whole : goal.returns-in-Whole
returns-in-Whole c =
    let q = c.take_element in
    held_rewritten (λ a b. IsElementTaken a b c.args.place q.result) _ _ q.new.self _ c.in-Whole.is q.ensures
