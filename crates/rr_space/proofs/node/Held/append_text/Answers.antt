use Rattle.rr_space.specs.Writes.{IsTextAppended}
use Rattle.rr_space.proofs.Rewriting.{held_rewritten}
use Rattle.rr_space.proofs.node.Held.append_text.Goals as goal

pub returns-in-Whole-clause-written : goal.returns-in-Whole-clause-written
returns-in-Whole-clause-written c =
    let q = c.append_text in
    held_rewritten (λ a b. IsTextAppended a b c.args.bytes.now q.result) _ _ q.new.self _ c.in-Whole.is q.ensures.written
