use Rattle.rr_builtin.proofs.objects.copy_deed.Goals as goal

pub returns-in_ok-elements-in-Array-clause-among : goal.returns-in_ok-elements-in-Array-clause-among
returns-in_ok-elements-in-Array-clause-among c = c.in_ok-elements-in-Array.ensures.among
