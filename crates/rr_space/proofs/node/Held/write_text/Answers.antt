use Rattle.rr_space.specs.Writes.{IsTextWritten}
use Rattle.rr_space.proofs.Rewriting.{held_rewritten}
use Rattle.rr_space.proofs.node.Held.write_text.Goals as goal

pub returns-in-Whole : goal.returns-in-Whole
returns-in-Whole c =
    let q = c.write_text in
    held_rewritten (λ a b. IsTextWritten a b c.args.bytes.items) _ _ q.new.self _ c.in-Whole.is q.ensures
