use Rattle.std.proofs.Common.{◌∙◌, sym, ap}
use Rattle.std.specs.Option.{option_map}
use Rattle.std.proofs.lemmas.Option.{slice_get-map}
use Rattle.rr_space.specs.Labels.{triples_at}
use Rattle.rr_text.specs.Comparing.{part_value}
use Rattle.rr_builtin.specs.Rounds.{found}
use Rattle.rr_builtin.proofs.Among.{read_among}
use Rattle.rr_builtin.proofs.rounds.element_found.Goals as goal

pub returns-in-None-clause-is : goal.returns-in-None-clause-is
returns-in-None-clause-is c =
    ap found (ap (option_map part_value) c.in-None.ensures.part ∙ sym (slice_get-map part_value (triples_at c.args.space.now c.args.array) c.args.place))

pub returns-in-Some-clause-among : goal.returns-in-Some-clause-among
returns-in-Some-clause-among c = λ below read among. read_among c.args.space.now below c.args.array c.in-Some.item read among c.in-Some.ensures.known
