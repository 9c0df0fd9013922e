use Rattle.std.proofs.Common.{◌∙◌, ap, sym}
use Rattle.std.specs.Option.{option_map}
use Rattle.rr_space.specs.Views.{key_of}
use Rattle.rr_builtin.proofs.Owning.{own_under, none_under}
use Rattle.rr_builtin.proofs.rounds.own_pair_at.Goals as goal

pub returns-in-Some-clause-is : goal.returns-in-Some-clause-is
returns-in-Some-clause-is c = λ below.
    c.value_found.ensures.is
    ∙ own_under c.args.space.now c.args.hash c.args.key below (key_of c.in-Some.key) c.place_of_key.result c.requires (sym (ap (option_map key_of) c.in-Some.is) ∙ c.in_ok-key.ensures.key) (c.place_of_key.ensures below)

pub returns-in-None-clause-is : goal.returns-in-None-clause-is
returns-in-None-clause-is c = λ below. none_under c.args.space.now c.args.hash c.args.key below c.requires (sym (ap (option_map key_of) c.in-None.is) ∙ c.in_ok-key.ensures.key)
