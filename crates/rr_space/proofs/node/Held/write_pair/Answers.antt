use Rattle.rr_space.specs.Views.{key_of}
use Rattle.rr_space.specs.Writes.{IsPairWritten}
use Rattle.rr_space.proofs.Rewriting.{held_rewritten}
use Rattle.rr_space.proofs.node.Held.write_pair.Goals as goal

pub returns-in-Whole-clause-written : goal.returns-in-Whole-clause-written
returns-in-Whole-clause-written c =
    let q = c.write_pair in
    held_rewritten (λ a b. IsPairWritten a b (key_of c.args.key) c.args.name c.args.value q.result) _ _ q.new.self _ c.in-Whole.is q.ensures.written
