use Rattle.rr_space.specs.Writes.{IsElementWritten}
use Rattle.rr_space.proofs.Rewriting.{held_rewritten}
use Rattle.rr_space.proofs.node.Held.write_element.Goals as goal

pub returns-in-Whole : goal.returns-in-Whole
returns-in-Whole c =
    let q = c.write_element in
    held_rewritten (λ a b. IsElementWritten a b c.args.place c.args.value) _ _ q.new.self _ c.in-Whole.is q.ensures
