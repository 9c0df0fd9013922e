use Rattle.rr_builtin.proofs.hashes.hash_read.Goals as goal

pub returns-clause-among : goal.returns-clause-among
returns-clause-among c = c.in_ok-hash_value.ensures.among
