use Rattle.rr_builtin.proofs.Among.{read_among}
use Rattle.rr_builtin.proofs.arrays.element.Goals as goal

pub returns-in-Some-clause-among : goal.returns-in-Some-clause-among
returns-in-Some-clause-among c = λ below read among. read_among c.args.space.now below c.args.value c.in-Some.found read among c.in-Some.ensures.known
