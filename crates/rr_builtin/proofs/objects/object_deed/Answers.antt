-- What `is_a?` answers is the same for all clusters.
use Rattle.rr_builtin.proofs.objects.object_deed.Goals as goal

pub returns-in-IsA-clause-among : goal.returns-in-IsA-clause-among
returns-in-IsA-clause-among c below read among = c.kind_of_deed.ensures.among below

pub returns-in-KindOf-clause-among : goal.returns-in-KindOf-clause-among
returns-in-KindOf-clause-among c below read among = c.kind_of_deed-in-KindOf.ensures.among below
