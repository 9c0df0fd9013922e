use Rattle.std.proofs.Common.{ap, sym}
use Rattle.rr_space.specs.Parts.{value_of}
use Rattle.rr_space.specs.Labels.{triples_at}
use Rattle.rr_builtin.specs.Rounds.{found}
use Rattle.rr_builtin.proofs.Among.{read_among}
use Rattle.rr_builtin.proofs.Fielding.{first_found, none_found}
use Rattle.rr_builtin.proofs.fields.field_found.Goals as goal

pub returns-in-Some-clause-is : goal.returns-in-Some-clause-is
returns-in-Some-clause-is c = ap found (sym (first_found c.args.name.0 (value_of c.in-Some.value) (triples_at c.args.space.now c.args.object) c.in-Some.ensures.first))

pub returns-in-None-clause-is : goal.returns-in-None-clause-is
returns-in-None-clause-is c = ap found (sym (none_found c.args.name.0 (triples_at c.args.space.now c.args.object) c.in-None.ensures.none))

pub returns-in-Some-clause-among : goal.returns-in-Some-clause-among
returns-in-Some-clause-among c = λ below read among. read_among c.args.space.now below c.args.object c.in-Some.value read among c.in-Some.ensures.known
