use Rattle.rr_space.specs.Writes.{IsFieldWritten}
use Rattle.rr_space.proofs.Rewriting.{held_rewritten}
use Rattle.rr_space.proofs.node.Held.write_field.Goals as goal

pub returns-in-Whole-clause-written : goal.returns-in-Whole-clause-written
returns-in-Whole-clause-written c =
    let q = c.write_field in
    held_rewritten (λ a b. IsFieldWritten a b c.args.name.0 c.args.value q.result) _ _ q.new.self _ c.in-Whole.is q.ensures.written
