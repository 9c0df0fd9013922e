use Rattle.std.proofs.Common.{◌∙◌, ap, sym}
use Rattle.std.specs.Option.{option_map}
use Rattle.rr_space.specs.Views.{key_of}
use Rattle.rr_text.proofs.Sided.{under_found, under_none, under_no_key}
use Rattle.rr_text.proofs.beside.value_under.Goals as goal

pub returns-in-Some-pair_with-clause-is : goal.returns-in-Some-pair_with-clause-is
returns-in-Some-pair_with-clause-is c = λ below read among_hash among_name.
    under_found c.args.space.now below c.len-count.ensures.well.sound read c.args.hash c.args.name among_hash among_name (key_of c.in-Some.key) c.in-Some-pair_with.pair c.value_at.result
    (sym c.in-Ok.ensures.key ∙ ap (option_map key_of) c.in-Some.is) (sym c.in-Some-pair_with.is ∙ c.pair_with.ensures.is below read among_hash) c.value_at.ensures.is

pub returns-in-Some-clause-is : goal.returns-in-Some-clause-is
returns-in-Some-clause-is c = λ below read among_hash among_name.
    under_none c.args.space.now below c.len-count.ensures.well.sound read c.args.hash c.args.name among_hash among_name (key_of c.in-Some.key)
    (sym c.in-Ok.ensures.key ∙ ap (option_map key_of) c.in-Some.is) (sym c.in-None-pair_with.is ∙ c.pair_with.ensures.is below read among_hash)

pub returns-clause-is : goal.returns-clause-is
returns-clause-is c = λ below read among_hash among_name.
    under_no_key c.args.space.now below c.len-count.ensures.well.sound read c.args.hash c.args.name among_hash among_name
    (sym c.in-Ok.ensures.key ∙ ap (option_map key_of) c.in-None.is)
