use Rattle.std.proofs.Common.{◌∙◌}
use Rattle.rr_space.specs.Labels.{triples_at}
use Rattle.rr_text.proofs.Looking.{message_told, none_told, among_child}
use Rattle.rr_text.proofs.raised.message_of.Goals as goal

pub returns-in-Some : goal.returns-in-Some
returns-in-Some c = λ names n below read among.
    c.told_by_value.ensures names n
    ∙ message_told names n c.args.space.now below c.requires.sound read (triples_at c.args.space.now c.args.exception) c.in-Some.value
    (among_child c.args.space.now below c.args.exception c.in-Some.value read among c.in-Some.ensures.known) c.in-Some.ensures.first

pub returns-in-None : goal.returns-in-None
returns-in-None c = λ names n below read among.
    none_told names n c.args.space.now below c.requires.sound read (triples_at c.args.space.now c.args.exception) c.in-None.ensures.none
