-- One array more, or none.
use Rattle.std.proofs.Common.{[], ◌++◌, ap}
use Rattle.std.proofs.Math.Logic.{⊎_elim}
use Rattle.std.proofs.lemmas.List.Elements.{Contains-append_cases}
use Rattle.rr_space.specs.Parts.{below_ref, below_parts}
use Rattle.rr_builtin.proofs.Among.{among_of, none_in}
use Rattle.rr_builtin.proofs.Arraying.{read_more}
use Rattle.rr_eval.specs.Pairs.{both_parts}
use Rattle.rr_eval.proofs.Changing.{append_changes, same_changes}
use Rattle.rr_eval.proofs.PairArrays.{one_both}
use Rattle.rr_eval.proofs.pair_arrays.make_both.Goals as goal

pub returns-in-Ok-clause-made : goal.returns-in-Ok-clause-made
returns-in-Ok-clause-made c = one_both c.args.space.now c.alloc.new.self c.args.first c.args.last _ c.two.ensures c.in-Ok.ensures.slots c.in-Ok.ensures.below c.in-Ok.ensures.keys c.alloc.ensures.rest

pub returns-in-Ok-clause-changed : goal.returns-in-Ok-clause-changed
returns-in-Ok-clause-changed c = append_changes c.args.space.now c.alloc.new.self _ c.in-Ok.ensures.slots c.alloc.ensures.rest.limit c.alloc.ensures.rest.owner

pub returns-in-Ok-clause-read : goal.returns-in-Ok-clause-read
returns-in-Ok-clause-read c = λ below read first last.
    let v = c.args.first in
    let w = c.args.last in
    read_more below c.args.space.now c.alloc.new.self (below_parts (both_parts v w)) read (ap (λ x. x.below) (returns-in-Ok-clause-made c))
    (λ e has. ⊎_elim (among_of below v first e)
    (λ in_rest. ⊎_elim (among_of below w last e) (λ none. none_in e none) (Contains-append_cases (below_ref w) [] e in_rest))
    (Contains-append_cases (below_ref v) (below_ref w ++ []) e has))

pub returns-in-Err-clause-changed : goal.returns-in-Err-clause-changed
returns-in-Err-clause-changed c = same_changes c.args.space.now c.alloc.new.self c.in-Err.ensures.refused
