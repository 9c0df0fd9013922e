use Rattle.std.proofs.Common.{List, subst}
use Rattle.rr_space.specs.Graph.{Value}
use Rattle.rr_builtin.specs.Acts.{Acts, MakesArray, performed}
use Rattle.rr_builtin.proofs.rounds.keys_of.Goals as goal

pub returns-clause-act : goal.returns-clause-act
returns-clause-act c = λ below read among.
    subst (λ (values : List Value). Acts below (performed (MakesArray values) c.args.hash) c.args.space.now c.make_array.new.space c.make_array.result) c.in_ok-keys.ensures.items
    (c.make_array.ensures.act below c.args.hash read (c.in_ok-keys.ensures.among below read among))
